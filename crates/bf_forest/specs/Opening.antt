-- What the opening is made of.
use Rattle.std.specs.Prelude.{ℕ, List, [], map}
use Rattle.std.specs.List.{range_with_len}
use Rattle.bf_id.specs.Shape.{root_count}
use Rattle.bf_case.specs.declared.case.Case.{Case}
use Rattle.bf_case.specs.Case.{first_rank_of}
use Rattle.bf_parts.specs.Leaves.{part_of}
use Rattle.bf_msg.specs.declared.linked_block.LinkedBlock.{LinkedBlock}
use Rattle.bf_forest.specs.declared.local.ForestLocal.{ForestLocal}
use Rattle.bf_forest.specs.Meanings.{opened}
use Rattle.bf_forest.specs.ModelBlocks.{blocks_at, first_home}

-- the rank at which each root begins
unfoldable pub first_owners : Case → List ℕ
first_owners c = map (first_rank_of c) (range_with_len 0 (root_count c.roots))

-- the roots that begin at each rank, filled and linked
unfoldable pub first_parts : Case → List (List LinkedBlock)
first_parts c = map (part_of (blocks_at c 0) (first_home c)) (range_with_len 0 c.ranks)

-- a rank's local at the opening, without its own blocks
abbrev pub unfilled : Case → (rank : ℕ) → ForestLocal
unfilled c rank = record (opened c rank) { blocks = [] }
