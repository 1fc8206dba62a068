-- The squares that a shell keeps, as walls of some side, and what becomes of them where one is lent out to be written.
use Rattle.std.specs.Prelude.{List, ℕ}
use Rattle.std.specs.Borrow.{Lends, MutBor, Fml, Array, u32}
use Rattle.std.specs.Vec.{with_items}
use Rattle.bf_face.specs.declared.face.Face.{Face}
use Rattle.bf_face.specs.declared.face.Face.TheVariants.{XLow, XHigh, YLow, YHigh, ZLow, ZHigh}
use Rattle.bf_cells.specs.Shell.{Walls}
use Rattle.bf_cells.specs.contracts.squares.Squares.{the_row}
use Rattle.bf_cells.specs.declared.squares.Squares.{Squares}

-- the walls of a side that the squares make
abbrev pub walls_with : ℕ → Squares → Walls
walls_with side s = record {
  side = side;
  x_low = s.x_low.items;
  x_high = s.x_high.items;
  y_low = s.y_low.items;
  y_high = s.y_high.items;
  z_low = s.z_low.items;
  z_high = s.z_high.items;
}

-- the squares with other values at a face
abbrev pub with_square : Squares → Face → List ℕ → Squares
with_square s XLow values = record s { x_low = with_items s.x_low values }
with_square s XHigh values = record s { x_high = with_items s.x_high values }
with_square s YLow values = record s { y_low = with_items s.y_low values }
with_square s YHigh values = record s { y_high = with_items s.y_high values }
with_square s ZLow values = record s { z_low = with_items s.z_low values }
with_square s ZHigh values = record s { z_high = with_items s.z_high values }

-- the squares end with the last values behind r at this face
abbrev pub LendsSquare : MutBor Squares → Face → MutBor (List ℕ) → Fml
LendsSquare s face r = Lends the_row (Array u32 0) s r (with_square s.now face)
