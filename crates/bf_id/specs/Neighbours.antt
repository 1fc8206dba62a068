-- The units next to a cube, and its faces at the domain's edge.
use Rattle.std.specs.Prelude.{ℕ, ◌+◌, ◌*◌, ◌/◌, ◌%◌, ◌<◌, ◌≤◌, ◌==◌, if◌then◌else◌}
use Rattle.bf_id.specs.declared.shape.Shape.{Shape}
use Rattle.bf_face.specs.declared.face.Face.{Face}
use Rattle.bf_face.specs.declared.face.Face.TheVariants.{XLow, XHigh, YLow, YHigh, ZLow, ZHigh}
use Rattle.bf_id.specs.Axis.{Axis, IsFirst, IsLast, is_first, is_last, back, on}
use Rattle.bf_id.specs.Cube.{Cube, Voxel}
use Rattle.bf_id.specs.Shape.{root_edge, axis_x, axis_y, axis_z}

-- the cube has units, all in the domain
pub record IsPlaced (shape : Shape) (c : Cube) : Type 0 where
  pub some : 0 < c.edge
  pub along_x : c.x + c.edge ≤ root_edge * shape.nx
  pub along_y : c.y + c.edge ≤ root_edge * shape.ny
  pub along_z : c.z + c.edge ≤ root_edge * shape.nz

-- the face lies at the domain's edge
abbrev pub IsAtEdge : Shape → Cube → Face → Type 0
IsAtEdge shape c XLow = IsFirst (axis_x shape) c.x
IsAtEdge shape c XHigh = IsLast (axis_x shape) (c.x + c.edge)
IsAtEdge shape c YLow = IsFirst (axis_y shape) c.y
IsAtEdge shape c YHigh = IsLast (axis_y shape) (c.y + c.edge)
IsAtEdge shape c ZLow = IsFirst (axis_z shape) c.z
IsAtEdge shape c ZHigh = IsLast (axis_z shape) (c.z + c.edge)

-- the unit just across a face, so many units on from where the face begins along its two axes, in the order x, y, z
abbrev pub unit_across : Shape → Cube → Face → ℕ → ℕ → Voxel
unit_across shape c XLow a b = record { x = back (axis_x shape) 1 c.x; y = c.y + a; z = c.z + b }
unit_across shape c XHigh a b = record { x = on (axis_x shape) c.edge c.x; y = c.y + a; z = c.z + b }
unit_across shape c YLow a b = record { x = c.x + a; y = back (axis_y shape) 1 c.y; z = c.z + b }
unit_across shape c YHigh a b = record { x = c.x + a; y = on (axis_y shape) c.edge c.y; z = c.z + b }
unit_across shape c ZLow a b = record { x = c.x + a; y = c.y + b; z = back (axis_z shape) 1 c.z }
unit_across shape c ZHigh a b = record { x = c.x + a; y = c.y + b; z = on (axis_z shape) c.edge c.z }

-- along one axis, one of three units beside a stretch: the last before it, its first, and the first after it. At the domain's edge
-- the first of the stretch stands for one that lies outside
abbrev pub unit_beside : Axis → ℕ → ℕ → ℕ → ℕ
unit_beside axis low length side =
    if side == 0 then (if is_first axis low then low else back axis 1 low)
    else (if side == 1 then low else (if is_last axis (low + length) then low else on axis length low))

-- the places beside a cube in turn, of which there are 27 with its own corner
abbrev pub place_beside : Shape → Cube → ℕ → Voxel
place_beside shape c step = record {
  x = unit_beside (axis_x shape) c.x c.edge (step % 3);
  y = unit_beside (axis_y shape) c.y c.edge (step / 3 % 3);
  z = unit_beside (axis_z shape) c.z c.edge (step / 9);
}
