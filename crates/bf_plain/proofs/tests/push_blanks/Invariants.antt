use Rattle.std.proofs.Common.{◌≡◌, ◌-◌, ◌++◌, map}
use Rattle.std.specs.List.{range_with_len}
use Rattle.bf_plain.proofs.BlankLeaves.{blank_child}
use Rattle.bf_plain.proofs.tests.push_blanks.Given as goal

abbrev pub invariant-loop-octant : goal.invariant-loop-octant
invariant-loop-octant l = l.leaves.items ≡ l.fn.leaves.items ++ map (blank_child l.parent) (range_with_len l.from (l.octant - l.from))
