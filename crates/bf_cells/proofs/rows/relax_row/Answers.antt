use Rattle.std.proofs.Common.{arith}
use Rattle.bf_cells.proofs.RowLemmas.{row_done}
use Rattle.bf_cells.proofs.rows.relax_row.Goals as goal

pub returns : goal.returns
returns c =
    let row = c.args.row in
    row_done row.cells.now row.y_below.now row.y_above.now row.z_below.now row.z_above.now c.relax_inside.new.into
    row.left row.right c.mean.result c.mean-2.result row.two (omega arith) c.relax_inside.ensures c.mean.ensures c.mean-2.ensures
