-- One step of a map.
use Rattle.std.specs.Prelude.{◌≡◌, ℕ, ◌*◌, ◌<◌, List, length, slice_index}
use Rattle.bf_id.specs.declared.shape.Shape.{Shape}
use Rattle.bf_id.specs.Id.{BlockId, level_of}
use Rattle.bf_cells.specs.Grid.{Grid, table}
use Rattle.bf_cells.specs.Rows.{piece_at}
use Rattle.std.specs.List.{slice_index_or}
use Rattle.bf_case.specs.Around.{nothing}
use Rattle.bf_case.specs.Map.{Leaf, ids_of}
use Rattle.bf_case.specs.Sample.{cell_corner}
use Rattle.bf_case.specs.Stencil.{stepped_value}
use Rattle.bf_plain.specs.Atlas.{id_at}

-- how many cells there are in a block of this side
abbrev pub cube_of : ℕ → ℕ
cube_of side = side * side * side

-- the cells of a leaf after a step
abbrev pub stepped_cells : Shape → ℕ → List Leaf → BlockId → Grid
stepped_cells shape side leaves i =
    table side (λ x y z. stepped_value shape side leaves (level_of i) (cell_corner shape side i x y z))

-- every leaf has cells of this side
abbrev pub HaveSide : ℕ → List Leaf → Type 0
HaveSide side leaves = (k : ℕ) → k < length leaves → (slice_index_or leaves k nothing).1.side ≡ side

-- the list has the values of the leaves after a step, one leaf after another
abbrev pub HoldsStep : Shape → ℕ → List Leaf → List ℕ → Type 0
HoldsStep shape side leaves fresh =
    (j k : ℕ) → j < cube_of side → k < length leaves
    → piece_at fresh (cube_of side) k j ≡ slice_index (stepped_cells shape side leaves (id_at (ids_of leaves) k)).values j

-- the leaves keep their ids and their side, and the first so many have these values, one leaf after another
pub record AreLoaded (side : ℕ) (old new : List Leaf) (fresh : List ℕ) (count : ℕ) : Type 0 where
  pub full : length new ≡ length old
  pub names : (k : ℕ) → (slice_index_or new k nothing).0 ≡ (slice_index_or old k nothing).0
  pub sides : (k : ℕ) → k < length old → (slice_index_or new k nothing).1.side ≡ side
  pub lengths : (k : ℕ) → k < count → length (slice_index_or new k nothing).1.values ≡ cube_of side
  pub values : (j k : ℕ) → j < cube_of side → k < count
      → slice_index (slice_index_or new k nothing).1.values j ≡ piece_at fresh (cube_of side) k j
