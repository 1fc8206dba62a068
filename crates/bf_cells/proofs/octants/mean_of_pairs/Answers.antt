use Rattle.std.proofs.Common.{arith, ◌/◌, ap}
use Rattle.bf_cells.specs.Octant.{mean_of_rows}
use Rattle.bf_cells.proofs.octants.mean_of_pairs.Goals as goal

pub returns : goal.returns
unfolding mean_of_rows
returns c = ap (λ n. n / 8) (omega (arith, c.pair_sum.ensures, c.pair_sum-2.ensures, c.pair_sum-3.ensures, c.pair_sum-4.ensures))
