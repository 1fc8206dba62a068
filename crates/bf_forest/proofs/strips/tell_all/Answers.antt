use Rattle.bf_forest.proofs.StripSteps.{block_told}
use Rattle.bf_forest.proofs.strips.tell_all.Goals as goal

pub loop-linked-preserved : goal.loop-linked-preserved
loop-linked-preserved c =
    block_told c.args.to c.args.blocks.now c.loop-linked.linked-index c.linked-item.result c.args.strips.now.items c.loop-linked.strips.items c.tell.new.strips.items
    c.loop-linked-test.true c.linked-item.is c.in_ok-tell.ensures c.loop-linked.invariant
