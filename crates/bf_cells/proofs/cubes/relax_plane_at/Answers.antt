use Rattle.std.proofs.Common.{◌∙◌}
use Rattle.bf_cells.proofs.PlaneLemmas.{plane_cell-of_cube}
use Rattle.bf_cells.proofs.cubes.relax_plane_at.Goals as goal

pub returns : goal.returns
returns c x y hx hy =
    let k = c.args.cube in
    c.relax_plane.ensures x y hx hy
    ∙ plane_cell-of_cube k.side c.args.z k.cells.now k.x_low.now k.x_high.now k.y_low.now k.y_high.now k.z_low.now k.z_high.now
    c.piece.result.now c.piece-2.result.now c.piece-3.result.now c.piece-4.result.now c.piece-5.result.now
    c.piece_below.result.now c.piece_above.result.now
    c.piece.ensures.cells c.piece-2.ensures.cells c.piece-3.ensures.cells c.piece-4.ensures.cells c.piece-5.ensures.cells
    c.piece_below.ensures.cells c.piece_above.ensures.cells x y hx hy
