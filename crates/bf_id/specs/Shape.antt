-- The domain: a box of root blocks.
use Rattle.std.specs.Prelude.{ℕ, ◌*◌, ◌/◌, ◌%◌, ◌<◌, ◌≤◌}
use Rattle.bf_id.specs.Axis.{Axis}
use Rattle.bf_id.specs.Cube.{Cube, Voxel}
use Rattle.bf_id.specs.declared.shape.Shape.{Shape}

-- the edge of a root, in units
abbrev pub root_edge : ℕ
root_edge = 16

-- the three axes, in units
abbrev pub axis_x : Shape → Axis
axis_x shape = record { extent = root_edge * shape.nx }

abbrev pub axis_y : Shape → Axis
axis_y shape = record { extent = root_edge * shape.ny }

abbrev pub axis_z : Shape → Axis
axis_z shape = record { extent = root_edge * shape.nz }

-- each axis has 1 to 16 roots
pub record IsShape (shape : Shape) : Type 0 where
  pub some_x : 0 < shape.nx
  pub some_y : 0 < shape.ny
  pub some_z : 0 < shape.nz
  pub few_x : shape.nx ≤ 16
  pub few_y : shape.ny ≤ 16
  pub few_z : shape.nz ≤ 16

-- how many roots there are
abbrev pub root_count : Shape → ℕ
root_count shape = shape.nx * (shape.ny * shape.nz)

-- the cube of a root: x runs fastest, then y, then z
abbrev pub root_cube : Shape → ℕ → Cube
root_cube shape root = record {
  x = root_edge * (root % shape.nx);
  y = root_edge * (root / shape.nx % shape.ny);
  z = root_edge * (root / shape.nx / shape.ny);
  edge = root_edge;
}

-- the voxel lies in the domain
pub record InDomain (shape : Shape) (v : Voxel) : Type 0 where
  pub along_x : v.x < root_edge * shape.nx
  pub along_y : v.y < root_edge * shape.ny
  pub along_z : v.z < root_edge * shape.nz
