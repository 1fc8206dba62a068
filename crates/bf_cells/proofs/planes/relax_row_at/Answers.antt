use Rattle.std.proofs.Common.{arith, ◌∙◌, get_or, refl}
use Rattle.bf_cells.proofs.PlaneLemmas.{row_cell-of_plane}
use Rattle.bf_cells.proofs.planes.relax_row_at.Goals as goal

pub returns : goal.returns
returns c x hx =
    let p = c.args.plane in
    c.relax_row.ensures x (omega (arith, c.piece.ensures.len))
    ∙ row_cell-of_plane p.side c.args.y p.cells.now p.x_low.now p.x_high.now p.y_low.now p.y_high.now p.z_below.now p.z_above.now
    c.piece.result.now c.piece_below.result.now c.piece_above.result.now c.piece-2.result.now c.piece-3.result.now
    (get_or p.x_low.now c.args.y 0) (get_or p.x_high.now c.args.y 0) c.piece.ensures.len c.piece.ensures.cells refl refl c.piece_below.ensures.cells c.piece_above.ensures.cells
    c.piece-2.ensures.cells c.piece-3.ensures.cells x hx
