use Rattle.std.proofs.Common.{◌≡◌, ℕ, ◌/◌, ◌<◌, ◌≤◌}
use Rattle.bf_cells.specs.Grid.{grid_with}
use Rattle.bf_cells.specs.Levels.{face_mean, quarter_value}
use Rattle.bf_cells.specs.Rows.{piece_at}
use Rattle.bf_cells.proofs.levels.mean_quarter.Given as goal

abbrev pub invariant-loop-b : goal.invariant-loop-b
invariant-loop-b l =
    ((k j : ℕ) → k < l.side → j < l.b → piece_at l.into l.side j k
    ≡ quarter_value (l.side / 2) l.a0 l.b0 (face_mean (grid_with l.side l.values) l.face) (piece_at l.initial.into l.side j k) k j)
    × ((k j : ℕ) → k < l.side → l.b ≤ j → piece_at l.into l.side j k ≡ piece_at l.initial.into l.side j k)
