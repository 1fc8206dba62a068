use Rattle.std.proofs.Common.{ℕ, arith, ap, ◌∙◌}
use Rattle.bf_id.specs.Id.{octant_of, BlockId}
use Rattle.bf_id.proofs.IdLemmas.{shown_octant}
use Rattle.bf_id.proofs.id.Id.octant.Goals as goal

pub returns-clause-some : goal.returns-clause-some
returns-clause-some c =
    let s = c.self.inside in
    let octant : BlockId → ℕ = octant_of in
    c.from.ensures ∙ shown_octant s.root s.level s.digits (omega arith) (omega arith) ∙ ap octant c.self.view_is
