use Rattle.std.proofs.Common.{◌≡◌, ◌-◌, length}
use Rattle.bf_case.specs.Map.{ids_of}
use Rattle.bf_plain.proofs.MergingLemmas.{HeldFrom}
use Rattle.bf_plain.proofs.merging.hold_by_finer.Given as goal

abbrev pub invariant-loop-settled : goal.invariant-loop-settled
invariant-loop-settled l = record {
  held : HeldFrom l.case.roots (ids_of l.leaves) l.case.levels l.fn.held (l.case.levels - l.settled) l.held;
  full : length l.held ≡ length l.leaves;
}
