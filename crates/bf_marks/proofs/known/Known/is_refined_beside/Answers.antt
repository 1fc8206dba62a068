use Rattle.std.proofs.Common.{◌≡◌, [], subst}
use Rattle.bf_marks.specs.Marks.{MarksValue}
use Rattle.bf_marks.proofs.KnownLemmas.{none_beside}
use Rattle.bf_marks.proofs.known.Known.is_refined_beside.Goals as goal

pub returns-then-is_unheard : goal.returns-then-is_unheard
returns-then-is_unheard g c =
    let unset = subst (λ (m : MarksValue). m.refined.own ≡ []) c.self.view_is (c.is_unset.ensures c.if-is_unset.true c.self.inside.leaves.items) in
    let unheard = subst (λ (m : MarksValue). m.refined.heard ≡ []) c.self.view_is (c.is_unheard.ensures c.if-is_unheard.true) in
    none_beside c.args.self.now.refined c.args.level (g.L.HasLinks.linked c.args.beside.now) unset unheard
