use Rattle.std.proofs.Common.{◌≡◌, ℕ, ◌<◌, get_or, cond, leb, ltb, ◌&&◌, length}
use Rattle.bf_cells.proofs.rows.fill_between.Given as goal

abbrev pub invariant-loop-k : goal.invariant-loop-k
invariant-loop-k l =
    (j : ℕ) → j < length l.initial.row
    → get_or l.row j 0 ≡ cond (leb l.from j && ltb j l.k) l.value (get_or l.initial.row j 0)
