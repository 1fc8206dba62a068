use Rattle.std.proofs.Common.{◌≡◌, ℕ, ◌+◌, ◌/◌, ◌<◌}
use Rattle.bf_cells.specs.Grid.{grid_with}
use Rattle.bf_cells.specs.Rows.{piece_at}
use Rattle.bf_cells.specs.Shell.{face_cell}
use Rattle.bf_cells.proofs.quarters.copy_quarter.Given as goal

abbrev pub invariant-loop-b : goal.invariant-loop-b
invariant-loop-b l =
    (k j : ℕ) → k < l.side / 2 → j < l.b → piece_at l.into (l.side / 2) j k ≡ face_cell (grid_with l.side l.values) l.face (l.a0 + k) (l.b0 + j)
