use Rattle.std.proofs.Common.{◌≡◌, ℕ, ◌/◌, ◌%◌, ◌<◌}
use Rattle.bf_cells.specs.Octant.{part_cell}
use Rattle.bf_cells.specs.Rows.{piece_at}
use Rattle.bf_cells.proofs.octants.copy_part.Given as goal

abbrev pub invariant-loop-row : goal.invariant-loop-row
invariant-loop-row l =
    (k b : ℕ) → k < l.side → b < l.row
    → piece_at l.into l.side b k ≡ part_cell l.side l.values l.x0 l.y0 l.z0 k (b % l.side) (b / l.side)
