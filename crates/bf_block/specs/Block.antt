-- What contracts see of a block, and how it changes.
use Rattle.std.specs.Prelude.{◌≡◌, ℕ, ◌+◌, true, false, List, Some, map, IsFalse, IsTrue}
use Rattle.std.specs.List.{range_with_len}
use Rattle.bf_id.specs.Id.{BlockId, child_of, root_id}
use Rattle.bf_cells.specs.Grid.{Grid}
use Rattle.bf_cells.specs.Kernel.{relaxed_grid}
use Rattle.bf_cells.specs.Octant.{octant_copy_of}
use Rattle.bf_cells.specs.Shell.{Walls}
use Rattle.bf_case.specs.declared.case.Case.{Case}
use Rattle.bf_case.specs.declared.target.Target.{Target}
use Rattle.bf_case.specs.Map.{Leaf, cells_at}
use Rattle.bf_case.specs.Model.{filled_root, model, model_at, regrids}
use Rattle.bf_case.specs.Regrid.{target_in}
use Rattle.bf_block.specs.declared.point.Point.{Point}
use Rattle.bf_block.specs.Runs.{CanRun}

-- a block: the case that it is of, the point at which it stands, its id and its cells
pub record BlockValue : Type 0 where
  pub case : Case
  pub point : Point
  pub id : BlockId
  pub cells : Grid

-- the leaf that a block is
abbrev pub leaf_of : BlockValue → Leaf
leaf_of b = (b.id, b.cells)

-- the model's map at a point
abbrev pub map_at : Case → Point → List Leaf
map_at c p = model_at c p.time p.regridded

-- its case can run, and the block is a leaf of the model at its point, with its cells
pub record IsModels (b : BlockValue) : Type 0 where
  pub runs : CanRun b.case
  pub leaf : cells_at (map_at b.case b.point) b.id ≡ Some b.cells

-- the point before a time's regrid, and after it
abbrev pub before_regrid : ℕ → Point
before_regrid time = record { time = time; regridded = false }

abbrev pub after_regrid : ℕ → Point
after_regrid time = record { time = time; regridded = true }

-- a block by its parts
abbrev pub block_with : Case → Point → BlockId → Grid → BlockValue
block_with c p i g = record { case = c; point = p; id = i; cells = g }

-- the time of the point regrids, the point is before that, and this becomes of the leaf
pub record IsRegriddedTo (target : Target) (c : Case) (p : Point) (i : BlockId) : Type 0 where
  pub regrids : IsTrue (regrids c p.time)
  pub fresh : IsFalse p.regridded
  pub target_is : target_in c (model c p.time) i ≡ target

-- the block that a regrid has kept
abbrev pub kept_block : BlockValue → BlockValue
kept_block b = record b { point = after_regrid b.point.time }

-- the child of a refined block towards an octant
abbrev pub child_block : BlockValue → ℕ → BlockValue
child_block b octant = block_with b.case (after_regrid b.point.time) (child_of b.id octant) (octant_copy_of b.cells octant)

-- its eight children, by rising octant
abbrev pub split_blocks : BlockValue → List BlockValue
split_blocks b = map (child_block b) (range_with_len 0 8)

-- the block after a step between these walls
abbrev pub stepped_block : BlockValue → Walls → BlockValue
stepped_block b walls = record b { point = before_regrid (b.point.time + 1); cells = relaxed_grid b.cells walls }

-- a root at the beginning, filled
abbrev pub initial_block : Case → ℕ → BlockValue
initial_block c root = record {
  case = c;
  point = before_regrid 0;
  id = root_id root;
  cells = (filled_root c root).1;
}
