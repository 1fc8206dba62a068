-- Identifiers of blocks: a root, and an octant for each level below it.
use Rattle.std.specs.Prelude.{◌≡◌, ◌≢◌, ℕ, ◌-◌, ◌^◌, ◌<◌, ◌≤◌, ◌&&◌, ◌==◌, not, Bool, List, [], ◌∷◌, ◌++◌, length, take, slice_index, All, map}
use Rattle.std.specs.List.{range_with_len}
use Rattle.std.specs.declared.cmp.Ordering.{Ordering}
use Rattle.std.specs.Ordering.{nat_cmp, ordering_then}
use lib.Pointwise.{pointwise}
use Rattle.std.specs.Cmp.Lexicographic.{slice_cmp}
use Rattle.bf_id.specs.Cube.{Cube, narrowed}
use Rattle.bf_id.specs.Meeting.{Meet, meet}
use Rattle.bf_id.specs.Shape.{root_cube, root_count}
use Rattle.bf_id.specs.declared.shape.Shape.{Shape}

-- what contracts see of an `Id`: the root, and the octants from the root down
pub record BlockId : Type 0 where
  pub root : ℕ
  pub digits : List ℕ

-- the root has 32 bits, and there are at most four octants
pub record IsId (i : BlockId) : Type 0 where
  pub root_fits : i.root < 2 ^ 32
  pub shallow : length i.digits ≤ 4
  pub octal : All (λ octant. octant < 8) i.digits

abbrev pub level_of : BlockId → ℕ
level_of i = length i.digits

abbrev pub root_id : ℕ → BlockId
root_id index = record { root = index; digits = [] }

abbrev pub child_of : BlockId → ℕ → BlockId
child_of i octant = record { root = i.root; digits = i.digits ++ octant ∷ [] }

-- the eight children, by rising octant
abbrev pub children_of : BlockId → List BlockId
children_of i = map (child_of i) (range_with_len 0 8)

-- the roots of a domain, in their order
abbrev pub root_ids : Shape → List BlockId
root_ids shape = map root_id (range_with_len 0 (root_count shape))

-- the box of a block
abbrev pub box_of : Shape → BlockId → Cube
box_of shape i = narrowed (root_cube shape i.root) i.digits

-- the block's root is one of the domain's
abbrev pub InShape : Shape → BlockId → Type 0
InShape shape i = i.root < root_count shape

-- two blocks touch where they differ and their closed boxes share a point
abbrev pub Touch : Shape → BlockId → BlockId → Type 0
Touch shape i j = (i ≢ j) × Meet shape (box_of shape i) (box_of shape j)

-- the test of equality
abbrev pub id_eq : BlockId → BlockId → Bool
id_eq i j = (i.root == j.root) && pointwise ◌==◌ i.digits j.digits

-- by root, and then by the octants from the first, a prefix before what it begins
abbrev pub id_cmp : BlockId → BlockId → Ordering
id_cmp i j = ordering_then (nat_cmp i.root j.root) (slice_cmp nat_cmp i.digits j.digits)

-- the first begins the second: it is the second block or one that the second lies below
abbrev pub Begins : BlockId → BlockId → Type 0
Begins i j = (i.root ≡ j.root) × ((rest : List ℕ) × (j.digits ≡ i.digits ++ rest))

-- the test of touching
abbrev pub touches : Shape → BlockId → BlockId → Bool
touches shape i j = not (id_eq i j) && meet shape (box_of shape i) (box_of shape j)

-- the block of which this is a child; a root is its own
abbrev pub parent_of : BlockId → BlockId
parent_of i = record { root = i.root; digits = take (length i.digits - 1) i.digits }

-- the octant of its parent that the block is; 0 for a root
abbrev pub octant_of : BlockId → ℕ
octant_of i = slice_index i.digits (length i.digits - 1)
