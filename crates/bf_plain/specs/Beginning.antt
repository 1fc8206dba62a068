-- The beginning, fill by fill: each is painted into the roots that it meets.
use Rattle.std.specs.Prelude.{◌≡◌, ℕ, ◌/◌, ◌<◌, ◌≤◌, List, length, slice_index}
use Rattle.std.specs.List.{slice_index_or}
use Rattle.bf_id.specs.Cube.{Voxel}
use Rattle.bf_case.specs.declared.case.Case.{Case}
use Rattle.bf_case.specs.declared.case.Fill.{Fill}
use Rattle.bf_case.specs.Around.{nothing}
use Rattle.bf_case.specs.Filling.{with_fill}
use Rattle.bf_case.specs.Map.{Leaf}
use Rattle.bf_case.specs.Model.{first_cell, initial}
use Rattle.bf_plain.specs.Atlas.{box_at}

-- the roots of a case with their cells, after these fills in turn
abbrev pub roots_after : Case → List Fill → List Leaf
roots_after c fills = initial (record c { fills = fills })

-- where a root stands among the roots
abbrev pub root_place : Case → ℕ → Voxel
root_place c root = box_at c.roots.nx c.roots.ny root

-- along an axis, a stretch of cells has some of the root that stands there
pub record IsMet (side low high at : ℕ) : Type 0 where
  pub from : low / side ≤ at
  pub upto : at ≤ high / side

-- a root of this row that a fill meets
pub record IsMetInRow (c : Case) (f : Fill) (y z root : ℕ) : Type 0 where
  pub along_x : IsMet c.side (slice_index f.low 0) (slice_index f.high 0) (root_place c root).x
  pub in_row : (root_place c root).y ≡ y
  pub in_layer : (root_place c root).z ≡ z

-- a root of this layer that a fill meets
pub record IsMetInLayer (c : Case) (f : Fill) (z root : ℕ) : Type 0 where
  pub along_x : IsMet c.side (slice_index f.low 0) (slice_index f.high 0) (root_place c root).x
  pub along_y : IsMet c.side (slice_index f.low 1) (slice_index f.high 1) (root_place c root).y
  pub in_layer : (root_place c root).z ≡ z

-- a root that a fill meets
pub record IsMetBy (c : Case) (f : Fill) (root : ℕ) : Type 0 where
  pub along_x : IsMet c.side (slice_index f.low 0) (slice_index f.high 0) (root_place c root).x
  pub along_y : IsMet c.side (slice_index f.low 1) (slice_index f.high 1) (root_place c root).y
  pub along_z : IsMet c.side (slice_index f.low 2) (slice_index f.high 2) (root_place c root).z

-- a leaf at a place of the list
abbrev pub leaf_of : List Leaf → ℕ → Leaf
leaf_of leaves k = slice_index_or leaves k nothing

-- a root after a fill
abbrev pub painted_root : Case → Fill → ℕ → Leaf → Leaf
painted_root c f root leaf = (leaf.0, with_fill leaf.1 (first_cell c.roots c.side root) f)

-- some roots have a fill painted into them, and the others stay as they were
pub record Paints (c : Case) (f : Fill) (some : ℕ → Type 0) (before after : List Leaf) : Type 0 where
  pub full : length after ≡ length before
  pub painted : (root : ℕ) → root < length before → some root → leaf_of after root ≡ painted_root c f root (leaf_of before root)
  pub kept : (root : ℕ) → (some root → ⊥) → leaf_of after root ≡ leaf_of before root
