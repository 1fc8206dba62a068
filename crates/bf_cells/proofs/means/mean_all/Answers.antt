use Rattle.std.proofs.Common.{arith, ◌≡◌, ◌≤◌, ◌+◌, ◌-◌, ◌*◌, ◌/◌, ◌%◌, length}
use Rattle.bf_cells.specs.Octant.{part_mean}
use Rattle.bf_cells.proofs.PlaneLemmas.{pieces_more}
use Rattle.bf_cells.proofs.PlaceLemmas.{row_fits, row_of_place}
use Rattle.bf_cells.proofs.means.mean_all.Goals as goal

pub mean_cells-requires-clause-z_below : goal.mean_cells-requires-clause-z_below
mean_cells-requires-clause-z_below c = (row_of_place (c.args.side / 2) (c.args.side / 2) c.loop-row.row (omega arith)).1

pub slice_bounds-mean_cells-end : goal.slice_bounds-mean_cells-end
slice_bounds-mean_cells-end c =
    omega (arith, row_fits (c.args.side / 2) (c.args.side / 2 * (c.args.side / 2)) c.loop-row.row (omega arith))

pub loop-row-preserved : goal.loop-row-preserved
loop-row-preserved c =
    let a = c.args in
    let h = a.side / 2 in
    let row = c.loop-row.row in
    let size : h * row + h - h * row ≡ h = omega arith in
    let fits : h * row + h ≤ length c.loop-row.into = omega (arith, row_fits h (h * h) row (omega arith)) in
    pieces_more (λ k b. part_mean a.side a.values.now k (b % h) (b / h)) c.loop-row.into c.mean_cells.new.into h row _
    size fits (omega arith) c.mean_cells.ensures c.loop-row.invariant
