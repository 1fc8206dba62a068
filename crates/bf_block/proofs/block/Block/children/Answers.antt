use Rattle.std.proofs.Common.{◌∙◌}
use Rattle.bf_block.specs.Block.{child_block}
use Rattle.bf_block.proofs.BlockLemmas.{pushed_more}
use Rattle.bf_block.proofs.block.Block.children.Goals as goal

pub loop-octant-preserved : goal.loop-octant-preserved
loop-octant-preserved c =
    c.in_ok-push.ensures.items
    ∙ pushed_more (child_block c.args.self.now) c.loop-octant.octant c.loop-octant.blocks.items _ c.loop-octant.invariant c.in_ok-child.ensures
