use Rattle.std.proofs.Common.{arith, ◌≡◌, ◌+◌, ◌-◌, ◌*◌, ◌/◌}
use Rattle.bf_cells.specs.Grid.{cell_at, grid_with}
use Rattle.bf_cells.proofs.OctantLemmas.{row_written}
use Rattle.bf_cells.proofs.PlaceLemmas.{row_fits}
use Rattle.bf_cells.proofs.means.load_part.Goals as goal

pub slice_bounds-load_part_row-end : goal.slice_bounds-load_part_row-end
slice_bounds-load_part_row-end c = omega (arith, row_fits c.args.side (c.args.side * c.args.side) c.loop-row.row (omega arith))

pub loop-row-preserved : goal.loop-row-preserved
loop-row-preserved c =
    let a = c.args in
    let s = a.side in
    let row = c.loop-row.row in
    let size : s * row + s - s * row ≡ s = omega arith in
    row_written s a.x0 a.y0 a.z0 row _ (cell_at (grid_with (s / 2) a.part.now)) a.into.now c.loop-row.into c.load_part_row.new.into size (omega arith) (omega arith) (omega arith)
    c.load_part_row.ensures c.loop-row.invariant
