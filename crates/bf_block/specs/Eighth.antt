-- What contracts see of an eighth of a parent, and of the parent that eight of them make.
use Rattle.std.specs.Prelude.{◌≡◌, ℕ, ◌/◌, ◌%◌, List, [], Some, map, option_map, All}
use Rattle.std.specs.List.{slice_index_or}
use Rattle.bf_id.specs.Id.{BlockId, children_of}
use Rattle.bf_cells.specs.Grid.{Grid, table, cell_at, grid_with}
use Rattle.bf_cells.specs.Means.{means_of}
use Rattle.bf_case.specs.declared.case.Case.{Case}
use Rattle.bf_case.specs.declared.target.Target.TheVariants.{Merge}
use Rattle.bf_case.specs.Map.{cells_at}
use Rattle.bf_case.specs.Regrid.{octant_at}
use Rattle.bf_block.specs.declared.point.Point.{Point}
use Rattle.bf_block.specs.Runs.{CanRun}
use Rattle.bf_block.specs.Block.{BlockValue, IsRegriddedTo, map_at, before_regrid, after_regrid}

-- an eighth: the case, the point and the leaf that it is of, and the means of that leaf's cells
pub record EighthValue : Type 0 where
  pub case : Case
  pub point : Point
  pub id : BlockId
  pub means : Grid

-- the eighth is of a leaf of the model that merges, with the means of its cells
pub record AreMeans (e : EighthValue) : Type 0 where
  pub runs : CanRun e.case
  pub merges : IsRegriddedTo Merge e.case e.point e.id
  pub means : option_map means_of (cells_at (map_at e.case e.point) e.id) ≡ Some e.means
  pub side : e.means.side ≡ e.case.side / 2

-- the eighth of a block
abbrev pub eighth_of : BlockValue → EighthValue
eighth_of b = record { case = b.case; point = b.point; id = b.id; means = means_of b.cells }

-- a cell of a parent whose octants have these values
abbrev pub joined_value : ℕ → List Grid → ℕ → ℕ → ℕ → ℕ
joined_value side octants x y z =
    let half = side / 2 in
    cell_at (slice_index_or octants (octant_at half x y z) (grid_with 0 [])) (x % half) (y % half) (z % half)

-- its cells
unfoldable pub octants_joined : ℕ → List Grid → Grid
octants_joined side octants = table side (joined_value side octants)

-- the means of eighths, in their order
abbrev pub means_in : List EighthValue → List Grid
means_in parts = map (λ (e : EighthValue). e.means) parts

-- eighths of the eight children of a block, by rising octant, of one case and time
pub record AreOctet (c : Case) (time : ℕ) (parent : BlockId) (parts : List EighthValue) : Type 0 where
  pub ids : map (λ (e : EighthValue). e.id) parts ≡ children_of parent
  pub cases : All (λ (e : EighthValue). e.case ≡ c) parts
  pub points : All (λ (e : EighthValue). e.point ≡ before_regrid time) parts

-- the eight children of a block as blocks, by rising octant, before the regrid of one time
pub record AreSiblings (c : Case) (time : ℕ) (parent : BlockId) (blocks : List BlockValue) : Type 0 where
  pub ids : map (λ (b : BlockValue). b.id) blocks ≡ children_of parent
  pub cases : All (λ (b : BlockValue). b.case ≡ c) blocks
  pub points : All (λ (b : BlockValue). b.point ≡ before_regrid time) blocks

-- the block into which eight eighths merge
abbrev pub merged_block : Case → ℕ → BlockId → List EighthValue → BlockValue
merged_block c time parent parts = record { case = c; point = after_regrid time; id = parent; cells = octants_joined c.side (means_in parts) }
