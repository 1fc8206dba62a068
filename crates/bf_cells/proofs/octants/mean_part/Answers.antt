use Rattle.std.proofs.Common.{arith, ◌≡◌, ◌+◌, ◌-◌, ◌*◌}
use Rattle.bf_cells.specs.Octant.{part_mean}
use Rattle.bf_cells.proofs.OctantLemmas.{row_written}
use Rattle.bf_cells.proofs.octants.mean_part.Goals as goal

pub loop-row-preserved : goal.loop-row-preserved
loop-row-preserved c =
    let a = c.args in
    let s = a.side in
    let row = c.loop-row.row in
    let size : s * row + s - s * row ≡ s = omega arith in
    row_written s a.x0 a.y0 a.z0 row _ (part_mean s a.values.now) a.into.now c.loop-row.into c.mean_part_row.new.into size (omega arith) (omega arith) (omega arith)
    c.mean_part_row.ensures c.loop-row.invariant
