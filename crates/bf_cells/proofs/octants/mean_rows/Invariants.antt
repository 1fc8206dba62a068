use Rattle.std.proofs.Common.{◌≡◌, ℕ, ◌<◌, get_or}
use Rattle.bf_cells.specs.Octant.{mean_of_rows}
use Rattle.bf_cells.proofs.octants.mean_rows.Given as goal

abbrev pub invariant-loop-k : goal.invariant-loop-k
invariant-loop-k l = (j : ℕ) → j < l.k → get_or l.into j 0 ≡ mean_of_rows l.first l.second l.third l.fourth j
