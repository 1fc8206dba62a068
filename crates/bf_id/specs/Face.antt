-- Faces that two cubes share.
use Rattle.std.specs.Prelude.{◌+◌}
use Rattle.bf_id.specs.Axis.{JoinsOn, OverlapsOn}
use Rattle.bf_id.specs.Cube.{Cube}
use Rattle.bf_id.specs.Shape.{axis_x, axis_y, axis_z}
use Rattle.bf_id.specs.declared.shape.Shape.{Shape}
use Rattle.bf_face.specs.declared.face.Face.{Face}
use Rattle.bf_face.specs.declared.face.Face.TheVariants.{XLow, XHigh, YLow, YHigh, ZLow, ZHigh}

-- the cubes share units along the axis
abbrev pub OverlapsX : Shape → Cube → Cube → Type 0
OverlapsX shape c d = OverlapsOn (axis_x shape) c.x c.edge d.x d.edge

abbrev pub OverlapsY : Shape → Cube → Cube → Type 0
OverlapsY shape c d = OverlapsOn (axis_y shape) c.y c.edge d.y d.edge

abbrev pub OverlapsZ : Shape → Cube → Cube → Type 0
OverlapsZ shape c d = OverlapsOn (axis_z shape) c.z c.edge d.z d.edge

-- along the axis the second cube begins where the first one ends
abbrev pub JoinsX : Shape → Cube → Cube → Type 0
JoinsX shape c d = JoinsOn (axis_x shape) (c.x + c.edge) d.x

abbrev pub JoinsY : Shape → Cube → Cube → Type 0
JoinsY shape c d = JoinsOn (axis_y shape) (c.y + c.edge) d.y

abbrev pub JoinsZ : Shape → Cube → Cube → Type 0
JoinsZ shape c d = JoinsOn (axis_z shape) (c.z + c.edge) d.z

-- this face of the first cube shares a part that has area with the second cube, which lies on its other side
abbrev pub SharesFace : Shape → Face → Cube → Cube → Type 0
SharesFace shape XLow c d = JoinsX shape d c × OverlapsY shape c d × OverlapsZ shape c d
SharesFace shape XHigh c d = JoinsX shape c d × OverlapsY shape c d × OverlapsZ shape c d
SharesFace shape YLow c d = JoinsY shape d c × OverlapsX shape c d × OverlapsZ shape c d
SharesFace shape YHigh c d = JoinsY shape c d × OverlapsX shape c d × OverlapsZ shape c d
SharesFace shape ZLow c d = JoinsZ shape d c × OverlapsX shape c d × OverlapsY shape c d
SharesFace shape ZHigh c d = JoinsZ shape c d × OverlapsX shape c d × OverlapsY shape c d
