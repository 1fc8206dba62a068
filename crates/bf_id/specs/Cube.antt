-- Boxes of the octree forest: cubes of whole units. A root's edge is 16 units.
use Rattle.std.specs.Prelude.{ℕ, ◌+◌, ◌-◌, ◌*◌, ◌^◌, ◌/◌, ◌%◌, ◌<◌, ◌≤◌, ◌&&◌, nat_lt, nat_le, Bool, List, [], ◌∷◌}

-- a cube, by its low corner and its edge
pub record Cube : Type 0 where
  pub x : ℕ
  pub y : ℕ
  pub z : ℕ
  pub edge : ℕ

-- the cube lies where the widest domain may be, so that its corners are small numbers
pub record IsNear (c : Cube) : Type 0 where
  pub near_x : c.x + c.edge ≤ 256
  pub near_y : c.y + c.edge ≤ 256
  pub near_z : c.z + c.edge ≤ 256

-- a cube, told in boxes of a level in place of units
abbrev pub in_boxes : ℕ → Cube → Cube
in_boxes level c = let edge = 2 ^ (4 - level) in record { x = c.x / edge; y = c.y / edge; z = c.z / edge; edge = c.edge / edge }

-- a unit of space, by its low corner
pub record Voxel : Type 0 where
  pub x : ℕ
  pub y : ℕ
  pub z : ℕ

-- along one axis, the stretch from low of this length has the unit at u
abbrev pub Spans : ℕ → ℕ → ℕ → Type 0
Spans low length u = (low ≤ u) × (u < low + length)

-- the voxel lies in the cube
pub record Holds (c : Cube) (v : Voxel) : Type 0 where
  pub along_x : Spans c.x c.edge v.x
  pub along_y : Spans c.y c.edge v.y
  pub along_z : Spans c.z c.edge v.z

-- along one axis, two closed stretches share a point
abbrev pub Meets : ℕ → ℕ → ℕ → ℕ → Type 0
Meets low length other_low other_length = (low ≤ other_low + other_length) × (other_low ≤ low + length)

-- along one axis, two stretches share a unit
abbrev pub Overlaps : ℕ → ℕ → ℕ → ℕ → Type 0
Overlaps low length other_low other_length = (low < other_low + other_length) × (other_low < low + length)

-- the first cube lies in the second
pub record Within (c d : Cube) : Type 0 where
  pub low_x : d.x ≤ c.x
  pub low_y : d.y ≤ c.y
  pub low_z : d.z ≤ c.z
  pub high_x : c.x + c.edge ≤ d.x + d.edge
  pub high_y : c.y + c.edge ≤ d.y + d.edge
  pub high_z : c.z + c.edge ≤ d.z + d.edge

-- no voxel lies in both
abbrev pub Apart : Cube → Cube → Type 0
Apart c d = (v : Voxel) → Holds c v → Holds d v → ⊥

-- the half of a cube towards an octant, which is x + 2 y + 4 z for a step of 0 or 1 along each axis
abbrev pub halved : Cube → ℕ → Cube
halved c octant = record {
  x = c.x + octant % 2 * (c.edge / 2);
  y = c.y + octant / 2 % 2 * (c.edge / 2);
  z = c.z + octant / 4 * (c.edge / 2);
  edge = c.edge / 2;
}

-- a cube halved once for each octant in turn
abbrev pub narrowed : Cube → List ℕ → Cube
narrowed c [] = c
narrowed c (octant ∷ octants) = narrowed (halved c octant) octants

-- the tests of these facts

abbrev pub spans : ℕ → ℕ → ℕ → Bool
spans low length u = nat_le low u && nat_lt u (low + length)

abbrev pub holds : Cube → Voxel → Bool
holds c v = spans c.x c.edge v.x && spans c.y c.edge v.y && spans c.z c.edge v.z

abbrev pub meets : ℕ → ℕ → ℕ → ℕ → Bool
meets low length other_low other_length = nat_le low (other_low + other_length) && nat_le other_low (low + length)
