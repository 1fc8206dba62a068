use Rattle.std.proofs.Common.{◌≡◌, ◌++◌, map}
use Rattle.std.specs.List.{range_with_len}
use Rattle.bf_plain.specs.Rebuild.{octant_of_leaf}
use Rattle.bf_plain.proofs.rebuild.split_into.Given as goal

abbrev pub invariant-loop-octant : goal.invariant-loop-octant
invariant-loop-octant l = l.new.items ≡ l.fn.new.items ++ map (octant_of_leaf (l.id, l.cells)) (range_with_len 0 l.octant)
