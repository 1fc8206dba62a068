use Rattle.std.proofs.Common.{arith, ◌≡◌, ◌≤◌, ◌+◌, ◌-◌, ◌*◌, length}
use Rattle.bf_cells.specs.Rows.{plane_cell}
use Rattle.bf_cells.proofs.PlaneLemmas.{pieces_more}
use Rattle.bf_cells.proofs.PlaceLemmas.{row_fits}
use Rattle.bf_cells.proofs.planes.relax_plane.Goals as goal

pub loop-y-preserved : goal.loop-y-preserved
loop-y-preserved c =
    let p = c.args.plane in
    let size : p.side * c.loop-y.y + p.side - p.side * c.loop-y.y ≡ p.side = omega arith in
    let fits : p.side * c.loop-y.y + p.side ≤ length c.loop-y.into = omega (arith, row_fits p.side p.side c.loop-y.y (omega arith)) in
    pieces_more (plane_cell p.side p.cells.now p.x_low.now p.x_high.now p.y_low.now p.y_high.now p.z_below.now p.z_above.now)
    c.loop-y.into c.relax_row_at.new.into p.side c.loop-y.y _ size fits (omega arith) c.relax_row_at.ensures c.loop-y.invariant
