use Rattle.std.proofs.Common.{arith, ◌≡◌, ◌≤◌, ◌+◌, ◌-◌, ◌*◌, ◌/◌, ◌%◌, length}
use Rattle.bf_cells.specs.Octant.{part_cell}
use Rattle.bf_cells.proofs.PlaneLemmas.{pieces_more}
use Rattle.bf_cells.proofs.PlaceLemmas.{row_fits}
use Rattle.bf_cells.proofs.octants.copy_part.Goals as goal

pub loop-row-preserved : goal.loop-row-preserved
loop-row-preserved c =
    let a = c.args in
    let s = a.side in
    let row = c.loop-row.row in
    let size : s * row + s - s * row ≡ s = omega arith in
    let fits : s * row + s ≤ length c.loop-row.into = omega (arith, row_fits s (s * s) row (omega arith)) in
    pieces_more (λ k b. part_cell s a.values.now a.x0 a.y0 a.z0 k (b % s) (b / s)) c.loop-row.into c.copy_part_row.new.into s row _
    size fits (omega arith) c.copy_part_row.ensures c.loop-row.invariant
