-- When a case is valid.
use Rattle.std.specs.Prelude.{◌≡◌, ℕ, ◌*◌, ◌/◌, ◌%◌, ◌^◌, ◌<◌, ◌≤◌, length, slice_index, map, All}
use Rattle.std.specs.List.Sorted.{IsStrictlyIncreasing}
use Rattle.bf_id.specs.declared.shape.Shape.{Shape}
use Rattle.bf_id.specs.Shape.{IsShape, root_count}
use Rattle.bf_case.specs.declared.case.Case.{Case}
use Rattle.bf_case.specs.declared.case.Fill.{Fill}

-- the greatest number of cells in a whole domain of finest blocks
abbrev pub cell_limit : ℕ
cell_limit = 2097152

-- along one axis with so many cells, a stretch whose ends are both in it
pub record IsStretch (low high cells : ℕ) : Type 0 where
  pub ordered : low ≤ high
  pub inside : high < cells

-- the box of the fill lies in the domain of level-0 cells, and its value has 32 bits
pub record IsFill (shape : Shape) (side : ℕ) (f : Fill) : Type 0 where
  pub low_axes : length f.low ≡ 3
  pub high_axes : length f.high ≡ 3
  pub along_x : IsStretch (slice_index f.low 0) (slice_index f.high 0) (shape.nx * side)
  pub along_y : IsStretch (slice_index f.low 1) (slice_index f.high 1) (shape.ny * side)
  pub along_z : IsStretch (slice_index f.low 2) (slice_index f.high 2) (shape.nz * side)
  pub value_fits : f.value < 2 ^ 32

-- the sizes of the blocks and of the domain
pub record IsSized (c : Case) : Type 0 where
  pub shape : IsShape c.roots
  pub even : c.side % 2 ≡ 0
  pub wide : 2 ≤ c.side
  pub narrow : c.side ≤ 16
  pub shallow : c.levels ≤ 4
  pub few_cells : root_count c.roots * 8 ^ c.levels * (c.side * c.side * c.side) ≤ cell_limit

-- the numbers of the run
pub record IsScheduled (c : Case) : Type 0 where
  pub some_ranks : 1 ≤ c.ranks
  pub few_ranks : c.ranks ≤ 16
  pub few_steps : c.steps ≤ 128
  pub some_snapshot : 1 ≤ c.snapshot
  pub short_snapshot : c.snapshot ≤ 128
  pub short_regrid : c.regrid ≤ 128
  pub refine_fits : c.refine < 2 ^ 32
  pub uncrossed : c.coarsen ≤ c.refine
  pub few_flow : c.flow ≤ 8
  pub few_turns : c.turns ≤ 8
  pub near : c.shift ≤ 1000

-- a rank that dies, with the number of events that it has by then
abbrev pub IsDeath : ℕ → ℕ × ℕ → Type 0
IsDeath ranks death = (death.0 < ranks) × (death.1 < 2 ^ 32)

-- every field is in its range; the deaths name rising ranks
pub record IsValid (c : Case) : Type 0 where
  pub sized : IsSized c
  pub scheduled : IsScheduled c
  pub fills : All (IsFill c.roots c.side) c.fills
  pub deaths : All (IsDeath c.ranks) c.dies
  pub rising_deaths : IsStrictlyIncreasing (map (λ (death : ℕ × ℕ). death.0) c.dies)
  pub order : All (λ rank. rank < c.ranks) c.order

-- the rank at which a root begins: the roots in order, dealt evenly
abbrev pub first_rank_of : Case → ℕ → ℕ
first_rank_of c root = root * c.ranks / root_count c.roots
