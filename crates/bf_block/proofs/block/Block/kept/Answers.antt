use Rattle.bf_block.specs.BlockFields.{block_in}
use Rattle.bf_block.proofs.BlockLemmas.{kept_is_models}
use Rattle.bf_block.proofs.block.Block.kept.Goals as goal

pub invariant_of-result : goal.invariant_of-result
invariant_of-result c =
    rw c.after_regrid.ensures (kept_is_models (block_in c.self.inside) c.args.self c.self.view_is c.self.invariant c.requires.fresh c.requires.leaf)
