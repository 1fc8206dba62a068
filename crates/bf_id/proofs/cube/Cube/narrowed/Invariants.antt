use Rattle.std.proofs.Common.{◌≡◌, drop}
use Rattle.bf_id.specs.Cube.{narrowed}
use Rattle.bf_id.proofs.cube.Cube.narrowed.Given as goal

-- what is left to halve by gives what was to be made
abbrev pub invariant-loop-octant : goal.invariant-loop-octant
invariant-loop-octant l = narrowed l.cube (drop l.octant-index l.octants) ≡ narrowed l.initial.cube l.octants
