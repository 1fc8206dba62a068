use Rattle.std.proofs.Common.{◌≡◌, length}
use Rattle.bf_case.specs.Map.{ids_of}
use Rattle.bf_plain.proofs.RefiningLemmas.{RefinedWithin}
use Rattle.bf_plain.proofs.refining.refined_marks.Given as goal

abbrev pub invariant-loop-round : goal.invariant-loop-round
invariant-loop-round l = record {
  full : length l.marks.items ≡ length l.leaves;
  marks : RefinedWithin l.shape (ids_of l.leaves) l.fn.finer.items l._round l.marks.items;
}
