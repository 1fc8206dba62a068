use Rattle.std.proofs.Common.{arith, ◌<◌, length}
use Rattle.bf_cells.specs.Octant.{mean_of_rows}
use Rattle.bf_cells.proofs.RowLemmas.{set_next}
use Rattle.bf_cells.proofs.octants.mean_rows.Goals as goal

pub loop-k-preserved : goal.loop-k-preserved
loop-k-preserved c =
    let within : c.loop-k.k < length c.loop-k.into = omega arith in
    set_next (mean_of_rows c.args.first.now c.args.second.now c.args.third.now c.args.fourth.now) c.loop-k.into c.loop-k.k _ within
    c.mean_of_pairs.ensures c.loop-k.invariant
