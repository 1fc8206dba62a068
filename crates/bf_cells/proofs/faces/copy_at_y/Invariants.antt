use Rattle.std.proofs.Common.{◌≡◌, ℕ, ◌+◌, ◌*◌, ◌<◌, get_or}
use Rattle.bf_cells.specs.Rows.{piece_at}
use Rattle.bf_cells.proofs.faces.copy_at_y.Given as goal

abbrev pub invariant-loop-z : goal.invariant-loop-z
invariant-loop-z l =
    (k b : ℕ) → k < l.side → b < l.z → piece_at l.into l.side b k ≡ get_or l.values (k + l.side * (l.y + l.side * b)) 0
