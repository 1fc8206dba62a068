use Rattle.std.proofs.Common.{◌+◌, sym, subst, refl, arith}
use Rattle.bf_plain.proofs.MergingLemmas.{UnwillingMarks, UnwillingMarks-more, unwilling_marks_of_all, count_more}
use Rattle.bf_plain.proofs.merging.unwilling_marks.Goals as goal

pub loop-leaf-preserved : goal.loop-leaf-preserved
loop-leaf-preserved c = record {
  marks = subst (UnwillingMarks c.args.coarser.now c.args.refined.now (c.loop-leaf.leaf + 1)) (sym c.in_ok-push.ensures.items)
      (UnwillingMarks-more c.args.coarser.now c.args.refined.now c.loop-leaf.leaf c.loop-leaf.marks.items _ c.loop-leaf-test.true refl c.loop-leaf.invariant.marks);
  count = count_more c.loop-leaf.marks.items _ _ c.loop-leaf.leaf c.in_ok-push.ensures.items c.loop-leaf.invariant.count;
}

pub returns-clause-marks : goal.returns-clause-marks
returns-clause-marks c =
    unwilling_marks_of_all c.args.coarser.now c.args.refined.now c.loop-leaf.leaf c.loop-leaf.marks.items (omega arith) c.loop-leaf.invariant.marks
