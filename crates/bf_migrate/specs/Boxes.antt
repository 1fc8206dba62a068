-- The boxes of blocks and of cargo, by the ids of the blocks that have them.
use Rattle.std.specs.Prelude.{◌≡◌, ◌<◌, Bool, List, map}
use Rattle.std.specs.List.{count_by}
use Rattle.bf_id.specs.Id.{BlockId, level_of, children_of}
use Rattle.bf_parts.specs.Counts.{once}
use Rattle.bf_block.specs.declared.cargo.Cargo.{Cargo}
use Rattle.bf_block.specs.Block.{BlockValue}
use Rattle.bf_migrate.specs.Lots.{cargo_id}

abbrev pub boxes_of : List BlockValue → List BlockId
boxes_of blocks = map (λ (b : BlockValue). b.id) blocks

abbrev pub boxes_in : List Cargo → List BlockId
boxes_in cargo = map cargo_id cargo

-- what is counted of a box is counted once in all of its eight children, as whether it holds a unit
abbrev pub IsHalved : (BlockId → Bool) → Type 0
IsHalved test = (i : BlockId) → level_of i < 4 → count_by test (children_of i) ≡ once (test i)
