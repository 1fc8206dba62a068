use Rattle.std.proofs.Common.{◌/◌}
use Rattle.bf_cells.specs.Grid.{cell_at, grid_with}
use Rattle.bf_cells.proofs.OctantLemmas.{AreWritten}
use Rattle.bf_cells.proofs.means.load_part.Given as goal

abbrev pub invariant-loop-row : goal.invariant-loop-row
invariant-loop-row l = AreWritten l.side l.x0 l.y0 l.z0 (cell_at (grid_with (l.side / 2) l.part)) l.initial.into l.row l.into
