use Rattle.std.proofs.Common.{◌-◌, arith, ap, ◌∙◌}
use Rattle.bf_id.specs.Id.{parent_of, BlockId}
use Rattle.bf_id.proofs.IdLemmas.{shown_parent, shown-set}
use Rattle.bf_id.proofs.id.Id.parent.Goals as goal

pub returns-clause-some : goal.returns-clause-some
returns-clause-some c =
    let s = c.self.inside in
    let parent : BlockId → BlockId = parent_of in
    shown-set s.root (s.level - 1) s.digits 0 ∙ shown_parent s.root s.level s.digits (omega arith) (omega arith) ∙ ap parent c.self.view_is
