use Rattle.std.proofs.Common.{ℕ, ◌+◌, ◌<◌}
use Rattle.bf_case.specs.Map.{ids_of}
use Rattle.bf_plain.specs.Octets.{StandsFree}
use Rattle.bf_plain.proofs.merging.all_stand_free.Given as goal

abbrev pub invariant-loop-octant : goal.invariant-loop-octant
invariant-loop-octant l = (octant : ℕ) → octant < l.octant → StandsFree (ids_of l.leaves) l.held l.parent octant (l.first + octant)
