use Rattle.std.proofs.Common.{◌≡◌, ℕ, ◌+◌, ◌<◌, get_or}
use Rattle.bf_cells.specs.Grid.{grid_with, cell_at}
use Rattle.bf_cells.proofs.quarters.copy_column.Given as goal

abbrev pub invariant-loop-k : goal.invariant-loop-k
invariant-loop-k l = (j : ℕ) → j < l.k → get_or l.into j 0 ≡ cell_at (grid_with l.side l.values) l.x (l.y0 + j) l.z
