-- Building the leaves after a regrid out of those before it, which come one after another.
use Rattle.std.specs.Prelude.{◌≡◌, ◌≢◌, ℕ, ◌<◌, ◌≤◌, ◌-◌, ◌%◌, ◌==◌, if◌then◌else◌, List, [], ◌∷◌, ◌++◌, length, map, flat_map, fold, slice_set}
use Rattle.std.specs.List.{range_with_len, slice_index_or}
use Rattle.bf_id.specs.Id.{BlockId, level_of, child_of, parent_of, octant_of}
use Rattle.bf_cells.specs.Grid.{Grid, filled_with}
use Rattle.bf_cells.specs.Octant.{octant_copy_of, with_octant_mean}
use Rattle.bf_case.specs.declared.target.Target.{Target}
use Rattle.bf_case.specs.declared.target.Target.TheVariants.{Keep, Refine, Merge}
use Rattle.bf_case.specs.Around.{nothing}
use Rattle.bf_case.specs.Map.{Leaf}
use Rattle.bf_case.specs.Regrid.{heirs_by}

-- a leaf's child towards an octant, with that octant of the leaf's cells
abbrev pub octant_of_leaf : Leaf → ℕ → Leaf
octant_of_leaf leaf octant = (child_of leaf.0 octant, octant_copy_of leaf.1 octant)

-- a leaf's eight children, with its cells
abbrev pub octants_of : Leaf → List Leaf
octants_of leaf = map (octant_of_leaf leaf) (range_with_len 0 8)

-- the last of some leaves
abbrev pub last_of : List Leaf → Leaf
last_of leaves = slice_index_or leaves (length leaves - 1) nothing

-- the leaves, where an octant of the last takes the means of these cells
abbrev pub mean_in_last : ℕ → Grid → List Leaf → List Leaf
mean_in_last octant g leaves = slice_set leaves (length leaves - 1) ((last_of leaves).0, with_octant_mean g octant (last_of leaves).1)

-- the new leaves, and the parent of this block where the block is the first of its octet; the parent's cells are to be written
abbrev pub with_parent : ℕ → BlockId → List Leaf → List Leaf
with_parent side i new = if octant_of i == 0 then new ++ (parent_of i, filled_with side 0) ∷ [] else new

-- the new leaves, with what comes of one more old leaf
abbrev pub with_heirs : ℕ → Target → Leaf → List Leaf → List Leaf
with_heirs side Keep leaf new = new ++ leaf ∷ []
with_heirs side Refine leaf new = new ++ octants_of leaf
with_heirs side Merge leaf new = mean_in_last (octant_of leaf.0) leaf.1 (with_parent side leaf.0 new)

-- cubes of cells can have this side
pub record IsSide (side : ℕ) : Type 0 where
  pub even : side % 2 ≡ 0
  pub wide : 2 ≤ side
  pub narrow : side ≤ 16

-- what comes of an old leaf can be placed: a leaf that is refined lies above level 4, one that merges has a parent, and where it isn't the first of
-- its octet, the parent is the last of the new leaves
pub record CanPlace (side : ℕ) (target : Target) (leaf : Leaf) (new : List Leaf) : Type 0 where
  pub sized : IsSide side
  pub fits : leaf.1.side ≡ side
  pub above : target ≡ Refine → level_of leaf.0 < 4
  pub below : target ≡ Merge → 0 < level_of leaf.0
  pub begun : target ≡ Merge → octant_of leaf.0 ≢ 0 → 0 < length new
  pub sides : target ≡ Merge → octant_of leaf.0 ≢ 0 → (last_of new).1.side ≡ side

-- the new leaves that come of old ones, each with what becomes of it
abbrev pub rebuilt : ℕ → List (Leaf × Target) → List Leaf
rebuilt side pairs = fold (λ new (pair : Leaf × Target). with_heirs side pair.1 pair.0 new) [] pairs

-- the ids of all that comes of old leaves, each with what becomes of it
abbrev pub heirs_of_all : List (Leaf × Target) → List BlockId
heirs_of_all pairs = flat_map (λ (pair : Leaf × Target). heirs_by pair.1 pair.0.0) pairs
