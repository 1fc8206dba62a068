use Rattle.bf_case.specs.Map.{ids_of}
use Rattle.bf_plain.specs.Octets.{stays_at}
use Rattle.bf_plain.proofs.MergingLemmas.{MarksByHeld-more, count_more}
use Rattle.bf_plain.proofs.merging.staying_marks.Goals as goal

pub loop-leaf-preserved : goal.loop-leaf-preserved
loop-leaf-preserved c = record {
  marks = MarksByHeld-more (λ p. stays_at (ids_of c.args.leaves.now) p c.args.level) c.args.leaves.now c.args.held.now c.loop-leaf.leaf c.loop-leaf.marks.items c.push.new.self.items c.stays_at.result
      c.loop-leaf-test.true c.in_ok-push.ensures.items c.stays_at.ensures c.loop-leaf.invariant.marks;
  count = count_more c.loop-leaf.marks.items c.push.new.self.items c.stays_at.result c.loop-leaf.leaf c.in_ok-push.ensures.items c.loop-leaf.invariant.count;
}
