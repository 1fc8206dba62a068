use Rattle.std.proofs.Common.{◌≡◌, length}
use Rattle.bf_case.specs.Map.{ids_of}
use Rattle.bf_plain.specs.Octets.{is_free}
use Rattle.bf_plain.proofs.MergingLemmas.{MarksByHeld}
use Rattle.bf_plain.proofs.merging.free_marks.Given as goal

abbrev pub invariant-loop-leaf : goal.invariant-loop-leaf
invariant-loop-leaf l = record {
  marks : MarksByHeld (is_free (ids_of l.leaves)) (ids_of l.leaves) l.held l.leaf l.marks.items;
  count : length l.marks.items ≡ l.leaf;
}
