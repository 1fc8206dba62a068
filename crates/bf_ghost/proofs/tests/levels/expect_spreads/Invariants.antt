use Rattle.std.proofs.Common.{◌≤◌, All, take}
use Rattle.bf_cells.specs.Grid.{spread_of}
use Rattle.bf_block.specs.Block.{BlockValue}
use Rattle.bf_ghost.proofs.tests.levels.expect_spreads.Given as goal

abbrev pub invariant-loop-block : goal.invariant-loop-block
invariant-loop-block g l = All (λ (b : BlockValue). spread_of b.cells ≤ l.limit) (take l.block-index l.blocks)
