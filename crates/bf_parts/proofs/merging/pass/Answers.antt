use Rattle.std.proofs.Common.{ap, sym, ◌∙◌, List, slice_index_or}
use Rattle.bf_parts.proofs.MergeSteps.{pass_one}
use Rattle.bf_parts.proofs.merging.pass.Goals as goal

pub loop-other-preserved-in-Continue-1 : goal.loop-other-preserved-in-Continue-1
loop-other-preserved-in-Continue-1 g c =
    let x = c.args.item.now in
    let front = c.in-Some.other.now in
    let same = c.in-Some.ensures.lookup ∙ ap (λ (items : List g.row.T.Denot). slice_index_or items 0 front) c.in-Some-pop_front.ensures.items in
    pass_one g.T.Linked.kind.first x c.in-Some-pop_front.other _ _ _ _ _ _
    (ap (g.T.Linked.kind.first x) (sym same) ∙ sym (c.if-comes_first.ensures {u = tt}))
    c.in-Some-pop_front.ensures.items c.in_ok-push.ensures.items c.loop-other.invariant
