-- The face picks the coordinate that is fixed.
use Rattle.std.proofs.Common.{arith, ◌+◌, ◌-◌, ◌*◌, ◌∙◌, ap, sym, get_or}
use Rattle.bf_face.specs.declared.face.Face.TheVariants.{XLow, XHigh, YLow, YHigh, ZLow, ZHigh}
use Rattle.bf_cells.specs.Grid.{Grid}
use Rattle.bf_cells.specs.Shell.{face_cell}
use Rattle.bf_cells.proofs.PlaceLemmas.{row_place_below, place_by_squares}
use Rattle.bf_cells.proofs.WallLemmas.{face_values_is}
use Rattle.bf_cells.proofs.faces.copy_face.Goals as goal

pub returns-in-XLow : goal.returns-in-XLow
unfolding face_cell
returns-in-XLow c =
    let s = c.args.side in
    let g : Grid = record { side = s; values = c.args.values.now } in
    rw c.in-XLow.is (face_values_is g XLow c.copy_at_x.new.into (omega arith) (λ a b ha hb. c.copy_at_x.ensures (a + s * b) (row_place_below s s a b ha hb)))

pub returns-in-XHigh : goal.returns-in-XHigh
unfolding face_cell
returns-in-XHigh c =
    let s = c.args.side in
    let g : Grid = record { side = s; values = c.args.values.now } in
    rw c.in-XHigh.is (face_values_is g XHigh c.copy_at_x-in-XHigh.new.into (omega arith) (λ a b ha hb. c.copy_at_x-in-XHigh.ensures (a + s * b) (row_place_below s s a b ha hb)))

pub returns-in-YLow : goal.returns-in-YLow
unfolding face_cell
returns-in-YLow c =
    let s = c.args.side in
    let g : Grid = record { side = s; values = c.args.values.now } in
    rw c.in-YLow.is (face_values_is g YLow c.copy_at_y.new.into (omega arith) (λ a b ha hb. c.copy_at_y.ensures a b ha hb))

pub returns-in-YHigh : goal.returns-in-YHigh
unfolding face_cell
returns-in-YHigh c =
    let s = c.args.side in
    let g : Grid = record { side = s; values = c.args.values.now } in
    rw c.in-YHigh.is (face_values_is g YHigh c.copy_at_y-in-YHigh.new.into (omega arith) (λ a b ha hb. c.copy_at_y-in-YHigh.ensures a b ha hb))

pub returns-in-ZLow : goal.returns-in-ZLow
unfolding face_cell
returns-in-ZLow c =
    let s = c.args.side in
    let g : Grid = record { side = s; values = c.args.values.now } in
    rw c.in-ZLow.is (face_values_is g ZLow c.copy_at_z.new.into (omega arith) (λ a b ha hb. c.copy_at_z.ensures (a + s * b) (row_place_below s s a b ha hb)
    ∙ ap (λ k. get_or g.values k 0) (sym (place_by_squares s a b 0))))

pub returns-in-ZHigh : goal.returns-in-ZHigh
unfolding face_cell
returns-in-ZHigh c =
    let s = c.args.side in
    let g : Grid = record { side = s; values = c.args.values.now } in
    rw c.in-ZHigh.is (face_values_is g ZHigh c.copy_at_z-in-ZHigh.new.into (omega arith) (λ a b ha hb. c.copy_at_z-in-ZHigh.ensures (a + s * b) (row_place_below s s a b ha hb)
    ∙ ap (λ k. get_or g.values k 0) (sym (place_by_squares s a b (s - 1)))))
