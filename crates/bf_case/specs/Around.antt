-- What lies around a root, where the leaves are the roots: each is named by its number, where x runs fastest, then y, then z.
use Rattle.std.specs.Prelude.{◌≡◌, ◌⊎◌, ℕ, ◌+◌, ◌*◌, ◌/◌, ◌%◌, List, [], Option, Some, None, option_map}
use Rattle.std.specs.List.{slice_index_or}
use Rattle.bf_id.specs.declared.shape.Shape.{Shape}
use Rattle.bf_face.specs.declared.face.Face.{Face}
use Rattle.bf_id.specs.Axis.{Axis, before, after}
use Rattle.bf_face.specs.declared.face.Face.TheVariants.{XLow, XHigh, YLow, YHigh, ZLow, ZHigh}
use Rattle.bf_face.specs.Face.{opposite_of}
use Rattle.bf_id.specs.Id.{root_id, root_ids}
use Rattle.bf_cells.specs.Grid.{Grid}
use Rattle.bf_cells.specs.Shell.{Walls, face_values}
use Rattle.bf_case.specs.Map.{Leaf, ids_of}

-- the three axes, in roots
abbrev pub roots_x : Shape → Axis
roots_x shape = record { extent = shape.nx }

abbrev pub roots_y : Shape → Axis
roots_y shape = record { extent = shape.ny }

abbrev pub roots_z : Shape → Axis
roots_z shape = record { extent = shape.nz }

-- the coordinates of a root, and the root at these coordinates
abbrev pub x_of : Shape → ℕ → ℕ
x_of shape k = k % shape.nx

abbrev pub y_of : Shape → ℕ → ℕ
y_of shape k = k / shape.nx % shape.ny

abbrev pub z_of : Shape → ℕ → ℕ
z_of shape k = k / shape.nx / shape.ny

abbrev pub root_at : Shape → ℕ → ℕ → ℕ → ℕ
root_at shape x y z = x + shape.nx * (y + shape.ny * z)

-- the root across a face, or none where the face lies at the domain's edge
abbrev pub across : Shape → ℕ → Face → Option ℕ
across shape k XLow = option_map (λ x. root_at shape x (y_of shape k) (z_of shape k)) (before (roots_x shape) 1 (x_of shape k))
across shape k XHigh = option_map (λ x. root_at shape x (y_of shape k) (z_of shape k)) (after (roots_x shape) 1 (x_of shape k))
across shape k YLow = option_map (λ y. root_at shape (x_of shape k) y (z_of shape k)) (before (roots_y shape) 1 (y_of shape k))
across shape k YHigh = option_map (λ y. root_at shape (x_of shape k) y (z_of shape k)) (after (roots_y shape) 1 (y_of shape k))
across shape k ZLow = option_map (λ z. root_at shape (x_of shape k) (y_of shape k) z) (before (roots_z shape) 1 (z_of shape k))
across shape k ZHigh = option_map (λ z. root_at shape (x_of shape k) (y_of shape k) z) (after (roots_z shape) 1 (z_of shape k))

-- the root itself, or a root across one of its faces
abbrev pub IsAround : Shape → ℕ → ℕ → Type 0
IsAround shape k j = (j ≡ k) ⊎ ((face : Face) × (across shape k face ≡ Some j))

-- the square next to a root's face: the opposite face of the root across, or the root's own face
abbrev pub wall_from : (ℕ → Grid) → ℕ → Option ℕ → Face → List ℕ
wall_from grid k None face = face_values (grid k) face
wall_from grid k (Some j) face = face_values (grid j) (opposite_of face)

-- all that lies next to a root
unfoldable pub walls_around : Shape → ℕ → (ℕ → Grid) → ℕ → Walls
walls_around shape edge grid k = record {
  side = edge;
  x_low = wall_from grid k (across shape k XLow) XLow;
  x_high = wall_from grid k (across shape k XHigh) XHigh;
  y_low = wall_from grid k (across shape k YLow) YLow;
  y_high = wall_from grid k (across shape k YHigh) YHigh;
  z_low = wall_from grid k (across shape k ZLow) ZLow;
  z_high = wall_from grid k (across shape k ZHigh) ZHigh;
}

-- the cells of this root can be asked for, and have this side
pub record IsGiven (has : ℕ → Type 0) (grid : ℕ → Grid) (side k : ℕ) : Type 0 where
  pub there : has k
  pub fits : (grid k).side ≡ side

-- the leaves are the roots in their order
abbrev pub AreRootIds : Shape → List Leaf → Type 0
AreRootIds shape leaves = ids_of leaves ≡ root_ids shape

-- past the end of a list of leaves
abbrev pub nothing : Leaf
nothing = (root_id 0, record { side = 0; values = [] })

-- the cells of the leaf at a place of the list
abbrev pub grid_at : List Leaf → ℕ → Grid
grid_at leaves k = (slice_index_or leaves k nothing).1
