use Rattle.std.proofs.Common.{◌≡◌, ℕ, ◌/◌, ◌<◌, ◌≤◌}
use Rattle.bf_cells.specs.Levels.{square_at, quarter_value}
use Rattle.bf_cells.specs.Rows.{piece_at}
use Rattle.bf_cells.proofs.quarters.write_quarter.Given as goal

abbrev pub invariant-loop-b : goal.invariant-loop-b
invariant-loop-b l =
    ((k j : ℕ) → k < l.side → j < l.b → piece_at l.into l.side j k
    ≡ quarter_value (l.side / 2) l.a0 l.b0 (square_at (l.side / 2) l.source) (piece_at l.initial.into l.side j k) k j)
    × ((k j : ℕ) → k < l.side → l.b ≤ j → piece_at l.into l.side j k ≡ piece_at l.initial.into l.side j k)
