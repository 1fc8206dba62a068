use Rattle.std.proofs.Common.{◌≡◌, take}
use Rattle.bf_case.specs.Filling.{filled_grid, voxel_at}
use Rattle.bf_case.proofs.filling.filled_cells.Given as goal

abbrev pub invariant-loop-fill : goal.invariant-loop-fill
invariant-loop-fill l = l.cells ≡ filled_grid l.side (voxel_at l.first) (take l.fill-index l.fills)
