use Rattle.bf_case.specs.Map.{ids_of}
use Rattle.bf_plain.specs.Octets.{is_free}
use Rattle.bf_plain.proofs.MergingLemmas.{MarksByHeld-more, count_more}
use Rattle.bf_plain.proofs.merging.free_marks.Goals as goal

pub loop-leaf-preserved : goal.loop-leaf-preserved
loop-leaf-preserved c = record {
  marks = MarksByHeld-more (is_free (ids_of c.args.leaves.now)) c.args.leaves.now c.args.held.now c.loop-leaf.leaf c.loop-leaf.marks.items c.push.new.self.items c.is_free.result
      c.loop-leaf-test.true c.in_ok-push.ensures.items c.is_free.ensures c.loop-leaf.invariant.marks;
  count = count_more c.loop-leaf.marks.items c.push.new.self.items c.is_free.result c.loop-leaf.leaf c.in_ok-push.ensures.items c.loop-leaf.invariant.count;
}
