use Rattle.std.proofs.Common.{◌∙◌}
use Rattle.bf_case.specs.Filling.{voxel_at}
use Rattle.bf_case.proofs.BoxLemmas.{box_is_fill}
use Rattle.bf_case.proofs.filling.paint.Goals as goal

pub returns : goal.returns
returns c = c.paint_region.ensures ∙ box_is_fill c.args.cells.now c.side-side.result _ _ _ _ _ _ (voxel_at c.args.first) c.args.fill.now
    c.side-side.ensures.side c.of_block.ensures.cells c.of_block-2.ensures.cells c.of_block-3.ensures.cells
