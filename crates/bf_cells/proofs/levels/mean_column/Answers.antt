use Rattle.std.proofs.Common.{arith, ◌<◌, length}
use Rattle.bf_cells.specs.Grid.{grid_with}
use Rattle.bf_cells.specs.Octant.{mean_at}
use Rattle.bf_cells.proofs.RowLemmas.{set_next}
use Rattle.bf_cells.proofs.levels.mean_column.Goals as goal

pub loop-k-preserved : goal.loop-k-preserved
loop-k-preserved c =
    let within : c.loop-k.k < length c.loop-k.into = omega arith in
    set_next (λ k. mean_at (grid_with c.args.side c.args.values.now) c.args.x k c.args.z) c.loop-k.into c.loop-k.k _ within
    c.mean_value.ensures c.loop-k.invariant
