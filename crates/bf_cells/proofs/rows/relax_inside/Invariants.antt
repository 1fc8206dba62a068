use Rattle.std.proofs.Common.{◌≡◌, ℕ, ◌<◌, get_or}
use Rattle.bf_cells.specs.Rows.{inside_cell}
use Rattle.bf_cells.proofs.rows.relax_inside.Given as goal

abbrev pub invariant-loop-k : goal.invariant-loop-k
invariant-loop-k l =
    (j : ℕ) → 0 < j → j < l.k → get_or l.into j 0 ≡ inside_cell l.cells l.y_below l.y_above l.z_below l.z_above j
