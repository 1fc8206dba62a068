-- Cubes that meet.
use Rattle.std.specs.Prelude.{◌&&◌, Bool}
use Rattle.bf_id.specs.Axis.{MeetsOn, meets_on}
use Rattle.bf_id.specs.Cube.{Cube}
use Rattle.bf_id.specs.Shape.{axis_x, axis_y, axis_z}
use Rattle.bf_id.specs.declared.shape.Shape.{Shape}

-- two closed cubes share a point
pub record Meet (shape : Shape) (c d : Cube) : Type 0 where
  pub along_x : MeetsOn (axis_x shape) c.x c.edge d.x d.edge
  pub along_y : MeetsOn (axis_y shape) c.y c.edge d.y d.edge
  pub along_z : MeetsOn (axis_z shape) c.z c.edge d.z d.edge

-- the test of meeting
abbrev pub meet : Shape → Cube → Cube → Bool
meet shape c d =
    meets_on (axis_x shape) c.x c.edge d.x d.edge && meets_on (axis_y shape) c.y c.edge d.y d.edge
    && meets_on (axis_z shape) c.z c.edge d.z d.edge
