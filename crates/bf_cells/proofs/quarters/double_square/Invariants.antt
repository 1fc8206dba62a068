use Rattle.std.proofs.Common.{◌≡◌, ℕ, ◌/◌, ◌<◌}
use Rattle.bf_cells.specs.Levels.{square_at}
use Rattle.bf_cells.specs.Rows.{piece_at}
use Rattle.bf_cells.proofs.quarters.double_square.Given as goal

abbrev pub invariant-loop-b : goal.invariant-loop-b
invariant-loop-b l =
    (k j : ℕ) → k < l.side → j < l.b → piece_at l.into l.side j k ≡ square_at (l.side / 2) l.source (k / 2) (j / 2)
