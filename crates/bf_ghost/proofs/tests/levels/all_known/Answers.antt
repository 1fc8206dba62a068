use Rattle.std.proofs.Common.{All, arith, subst}
use Rattle.std.proofs.lemmas.List.{take_all}
use Rattle.std.proofs.lemmas.List.Elements.{All-more}
use Rattle.bf_block.specs.Block.{IsModels}
use Rattle.bf_ghost.proofs.tests.levels.all_known.Goals as goal

pub loop-block-preserved : goal.loop-block-preserved
loop-block-preserved c =
    All-more IsModels c.args.blocks.now c.loop-block.block-index c.block-item.result (omega arith) c.loop-block.invariant
    (subst IsModels c.block-item.is c.cells-model.ensures.model)

pub returns : goal.returns
returns c = subst (All IsModels) (take_all c.loop-block.block-index c.args.blocks.now (omega arith)) c.loop-block.invariant
