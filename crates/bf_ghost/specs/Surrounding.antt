-- What lies beside a block: its own cells, over which is laid what it is told.
use Rattle.std.specs.Prelude.{List}
use Rattle.std.specs.List.{fold}
use Rattle.bf_face.specs.declared.face.Face.TheVariants.{XLow, XHigh, YLow, YHigh, ZLow, ZHigh}
use Rattle.bf_cells.specs.Grid.{Grid}
use Rattle.bf_cells.specs.Shell.{Walls, face_values}
use Rattle.bf_ghost.specs.Strips.{StripValue, with_strip}

-- a block's own cells beside each of its faces, as at the domain's edge
abbrev pub own_walls : Grid → Walls
own_walls g = record {
  side = g.side;
  x_low = face_values g XLow;
  x_high = face_values g XHigh;
  y_low = face_values g YLow;
  y_high = face_values g YHigh;
  z_low = face_values g ZLow;
  z_high = face_values g ZHigh;
}

-- and over them the strips that it is told
unfoldable pub surrounding : Grid → List StripValue → Walls
surrounding g strips = fold with_strip (own_walls g) strips
