use Rattle.bf_parts.proofs.MergeSteps.{merge_step}
use Rattle.bf_parts.proofs.merging.merged.Goals as goal

pub loop-item-preserved : goal.loop-item-preserved
loop-item-preserved g c =
    merge_step g.T.Linked.kind.first c.in-Some.item _ _ _ _ c.loop-item.all.items _ _ _ c.in-Some.ensures.steps.0
    c.in_ok-pass.ensures.all c.in_ok-pass.ensures.others c.in_ok-push.ensures.items c.loop-item.invariant
