-- Maps: leaves with their cells.
use Rattle.std.specs.Prelude.{◌≡◌, ◌≤◌, ℕ, List, Option, map, find, option_map, All, AllPairs}
use Rattle.bf_id.specs.declared.shape.Shape.{Shape}
use Rattle.bf_id.specs.Id.{BlockId, IsId, InShape, id_eq, level_of}
use Rattle.bf_id.specs.Tiling.{Tiles, IsBalanced}
use Rattle.bf_id.specs.Walk.{IsBefore}
use Rattle.bf_cells.specs.Grid.{Grid, IsGrid}
use Rattle.bf_case.specs.declared.case.Case.{Case}

-- a leaf: its id and its cells
abbrev pub Leaf : Type 0
Leaf = BlockId × Grid

-- the ids of the leaves, in their order
abbrev pub ids_of : List Leaf → List BlockId
ids_of leaves = map (λ (leaf : Leaf). leaf.0) leaves

-- the cells of a leaf, or none where no leaf has this id
abbrev pub cells_at : List Leaf → BlockId → Option Grid
cells_at leaves i = option_map (λ (leaf : Leaf). leaf.1) (find (λ (leaf : Leaf). id_eq leaf.0 i) leaves)

-- a leaf with a cube of cells of this side
pub record HasCells (side : ℕ) (leaf : Leaf) : Type 0 where
  pub valid : IsGrid leaf.1
  pub fits : leaf.1.side ≡ side

-- the leaves of a forest: they tile the domain, in rising order, and each has its cells
pub record IsMap (shape : Shape) (side : ℕ) (leaves : List Leaf) : Type 0 where
  pub tiling : Tiles shape (ids_of leaves)
  pub ids : All IsId (ids_of leaves)
  pub in_shape : All (InShape shape) (ids_of leaves)
  pub rising : AllPairs IsBefore (ids_of leaves)
  pub cells : All (HasCells side) leaves

-- a map of a case: no leaf lies below the finest level, and touching leaves differ by at most one
pub record IsBalancedMap (c : Case) (leaves : List Leaf) : Type 0 where
  pub map : IsMap c.roots c.side leaves
  pub shallow : All (λ i. level_of i ≤ c.levels) (ids_of leaves)
  pub balanced : IsBalanced c.roots (ids_of leaves)
