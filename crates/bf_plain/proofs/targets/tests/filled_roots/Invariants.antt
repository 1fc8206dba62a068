use Rattle.std.proofs.Common.{◌≡◌, map}
use Rattle.std.specs.List.{range_with_len}
use Rattle.bf_case.specs.Model.{filled_root}
use Rattle.bf_plain.proofs.targets.tests.filled_roots.Given as goal

abbrev pub invariant-loop-root : goal.invariant-loop-root
invariant-loop-root l = l.leaves.items ≡ map (filled_root l.case) (range_with_len 0 l.root)
