use Rattle.std.proofs.Common.{◌∙◌}
use Rattle.bf_case.specs.Map.{ids_of}
use Rattle.bf_plain.proofs.RefiningLemmas.{RefinedWithin-none, RefinedWithin-more}
use Rattle.bf_plain.proofs.refining.refined_marks.Goals as goal

pub loop-round-init : goal.loop-round-init
loop-round-init c = record {
  full = c.requires.full;
  marks = RefinedWithin-none c.args.shape (ids_of c.args.leaves.now) c.args.finer.items;
}

pub loop-round-preserved : goal.loop-round-preserved
loop-round-preserved c = record {
  full = c.in_ok-marks.ensures.full;
  marks = RefinedWithin-more c.args.shape (ids_of c.args.leaves.now) c.args.finer.items c.loop-round.marks.items c.in_ok-marks.marks.items c.loop-round._round
      (λ p source begun from. c.in_ok-marks.ensures.marks p source (c.deref.ensures.value ∙ begun) (c.deref-in-loop-round.ensures.value ∙ from))
      c.loop-round.invariant.marks;
}
