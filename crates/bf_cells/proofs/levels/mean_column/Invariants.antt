use Rattle.std.proofs.Common.{◌≡◌, ℕ, ◌<◌, get_or}
use Rattle.bf_cells.specs.Grid.{grid_with}
use Rattle.bf_cells.specs.Octant.{mean_at}
use Rattle.bf_cells.proofs.levels.mean_column.Given as goal

abbrev pub invariant-loop-k : goal.invariant-loop-k
invariant-loop-k l = (j : ℕ) → j < l.k → get_or l.into j 0 ≡ mean_at (grid_with l.side l.values) l.x j l.z
