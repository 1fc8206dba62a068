use Rattle.std.proofs.Common.{◌≡◌, ℕ, ◌<◌}
use Rattle.bf_cells.specs.Rows.{plane_cell, piece_at}
use Rattle.bf_cells.proofs.planes.relax_plane.Given as goal

abbrev pub invariant-loop-y : goal.invariant-loop-y
invariant-loop-y l =
    let p = l.fn.plane in
    (x b : ℕ) → x < p.side → b < l.y → piece_at l.into p.side b x
    ≡ plane_cell p.side p.cells.now p.x_low.now p.x_high.now p.y_low.now p.y_high.now p.z_below.now p.z_above.now x b
