use Rattle.std.proofs.Common.{arith, ◌<◌, length}
use Rattle.bf_cells.specs.Rows.{inside_cell}
use Rattle.bf_cells.proofs.RowLemmas.{set_more}
use Rattle.bf_cells.proofs.rows.relax_inside.Goals as goal

pub loop-k-preserved : goal.loop-k-preserved
unfolding inside_cell
loop-k-preserved c =
    let within : c.loop-k.k < length c.loop-k.into = omega arith in
    set_more (inside_cell c.args.cells.now c.args.y_below.now c.args.y_above.now c.args.z_below.now c.args.z_above.now)
    c.loop-k.into c.loop-k.k c.mean.result within c.mean.ensures c.loop-k.invariant
