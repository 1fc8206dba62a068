-- The model's blocks of a point with their links, of which each rank has a part.
use Rattle.std.specs.Prelude.{◌≡◌, ℕ, [], Option}
use Rattle.std.specs.Option.{option_map_or}
use Rattle.bf_id.specs.Id.{BlockId}
use Rattle.bf_cells.specs.Grid.{Grid, grid_with}
use Rattle.bf_case.specs.declared.case.Case.{Case}
use Rattle.bf_case.specs.Case.{first_rank_of}
use Rattle.bf_case.specs.Map.{cells_at, ids_of}
use Rattle.bf_case.specs.Model.{regrids}
use Rattle.bf_block.specs.declared.point.Point.{Point}
use Rattle.bf_block.specs.Block.{BlockValue, IsModels, before_regrid, map_at}
use Rattle.bf_links.specs.Links.{links_of}
use Rattle.bf_parts.specs.Leaves.{Leaves}
use Rattle.bf_msg.specs.declared.linked_block.LinkedBlock.{LinkedBlock}

-- the cells found, or others where none were
abbrev pub cells_or : Option Grid → Grid → Grid
cells_or found others = option_map_or (λ g. g) found others

-- the model's block of an id at a point
abbrev pub block_on : Case → (p : Point) → (i : BlockId) → BlockValue
block_on c p i = record { case = c; point = p; id = i; cells = cells_or (cells_at (map_at c p) i) (grid_with 0 []) }

-- and with its links: to the leaves of that point that touch it, each with its owner
abbrev pub linked_on : Case → (p : Point) → (owner : BlockId → ℕ) → (i : BlockId) → LinkedBlock
linked_on c p owner i = record { block = block_on c p i; links = links_of c.roots (ids_of (map_at c p)) owner i }

-- the leaves of the model's map at a point
unfoldable pub blocks_on : Case → (p : Point) → Leaves BlockId LinkedBlock
blocks_on c p = record { keys = ids_of (map_at c p); item = linked_on c p }

-- and at a time, before its regrid
abbrev pub block_at : Case → (time : ℕ) → (i : BlockId) → BlockValue
block_at c time = block_on c (before_regrid time)

abbrev pub linked_at : Case → (time : ℕ) → (owner : BlockId → ℕ) → (i : BlockId) → LinkedBlock
linked_at c time = linked_on c (before_regrid time)

abbrev pub blocks_at : Case → (time : ℕ) → Leaves BlockId LinkedBlock
blocks_at c time = blocks_on c (before_regrid time)

-- the point at which the step from a time begins: after its regrid, where it has one
abbrev pub ready : Case → (time : ℕ) → Point
ready c time = record { time = time; regridded = regrids c time }

-- a block of a case at a point, with the model's cells
pub record IsBlockOn (c : Case) (p : Point) (b : BlockValue) : Type 0 where
  pub of_case : b.case ≡ c
  pub at : b.point ≡ p
  pub models : IsModels b

-- the rank at which a root begins, and so its home at first
abbrev pub first_home : Case → (i : BlockId) → ℕ
first_home c i = first_rank_of c i.root
