use Rattle.bf_block.specs.BlockFields.{block_in}
use Rattle.bf_block.proofs.BlockLemmas.{block_side}
use Rattle.bf_block.proofs.block.Block.cells.Goals as goal

pub returns-clause-side : goal.returns-clause-side
returns-clause-side c = block_side (block_in c.self.inside) c.args.self.now c.self.view_is c.self.invariant
