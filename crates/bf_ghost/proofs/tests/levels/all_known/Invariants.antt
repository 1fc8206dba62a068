use Rattle.std.proofs.Common.{All, take}
use Rattle.bf_block.specs.Block.{IsModels}
use Rattle.bf_ghost.proofs.tests.levels.all_known.Given as goal

abbrev pub invariant-loop-block : goal.invariant-loop-block
invariant-loop-block l = All IsModels (take l.block-index l.blocks)
