-- What a leaf wishes by its cells.
use Rattle.std.specs.Prelude.{nat_lt, nat_le, ◌&&◌, Bool, false, List}
use Rattle.std.specs.Option.{option_map_or}
use Rattle.bf_id.specs.Id.{BlockId, level_of}
use Rattle.bf_cells.specs.Grid.{spread_of}
use Rattle.bf_case.specs.declared.case.Case.{Case}
use Rattle.bf_case.specs.Map.{Leaf, cells_at}

-- which blocks wish to be refined, and which to be coarsened
pub record Wishes : Type 0 where
  pub finer : BlockId → Bool
  pub coarser : BlockId → Bool

-- a leaf whose spread is above `refine` wishes to be refined, if it is not of the finest level; one whose spread is at most `coarsen`
-- wishes to be coarsened, if it is no root
abbrev pub wishes_of : Case → List Leaf → Wishes
wishes_of c leaves = record {
  finer = λ i. option_map_or (λ g. nat_lt c.refine (spread_of g) && nat_lt (level_of i) c.levels) (cells_at leaves i) false;
  coarser = λ i. option_map_or (λ g. nat_le (spread_of g) c.coarsen && nat_lt 0 (level_of i)) (cells_at leaves i) false;
}
