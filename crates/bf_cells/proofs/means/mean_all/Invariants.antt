use Rattle.std.proofs.Common.{◌≡◌, ℕ, ◌/◌, ◌%◌, ◌<◌}
use Rattle.bf_cells.specs.Octant.{part_mean}
use Rattle.bf_cells.specs.Rows.{piece_at}
use Rattle.bf_cells.proofs.means.mean_all.Given as goal

abbrev pub invariant-loop-row : goal.invariant-loop-row
invariant-loop-row l =
    (k b : ℕ) → k < l.half → b < l.row → piece_at l.into l.half b k ≡ part_mean l.side l.values k (b % l.half) (b / l.half)
