-- Sets of leaves: tilings of the domain, and 2:1 balance.
use Rattle.std.specs.Prelude.{◌≡◌, ◌+◌, ◌≤◌, List, [], ◌∷◌, Contains, flat_map, if◌then◌else◌}
use Rattle.std.specs.List.{list_any}
use Rattle.bf_id.specs.Cube.{Voxel, Holds}
use Rattle.bf_id.specs.Shape.{InDomain}
use Rattle.bf_id.specs.Id.{BlockId, level_of, box_of, Touch, id_eq, child_of, children_of}
use Rattle.bf_id.specs.declared.shape.Shape.{Shape}

-- each unit of the domain lies in exactly one box
pub record Tiles (shape : Shape) (ids : List BlockId) : Type 0 where
  pub covered : (v : Voxel) → InDomain shape v → (i : BlockId) × Contains ids i × Holds (box_of shape i) v
  pub apart : (v : Voxel) (i j : BlockId) → Contains ids i → Contains ids j → Holds (box_of shape i) v → Holds (box_of shape j) v → i ≡ j

-- touching leaves differ by at most one level
abbrev pub IsBalanced : Shape → List BlockId → Type 0
IsBalanced shape ids = (i j : BlockId) → Contains ids i → Contains ids j → Touch shape i j → level_of i ≤ level_of j + 1

-- the leaves with a leaf's eight children in its place
abbrev pub split_at : BlockId → List BlockId → List BlockId
split_at i ids = flat_map (λ j. if id_eq j i then children_of i else j ∷ []) ids

-- the leaves with a parent in the place of its first child, and without its other children
abbrev pub merged_at : BlockId → List BlockId → List BlockId
merged_at p ids = flat_map (λ j. if id_eq j (child_of p 0) then p ∷ [] else if list_any (id_eq j) (children_of p) then [] else j ∷ []) ids
