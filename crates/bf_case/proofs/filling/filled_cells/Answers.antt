use Rattle.std.proofs.Common.{◌∙◌}
use Rattle.bf_case.specs.Filling.{voxel_at}
use Rattle.bf_case.proofs.BoxLemmas.{filled_none, filled_next}
use Rattle.bf_case.proofs.filling.filled_cells.Goals as goal

pub loop-fill-init : goal.loop-fill-init
loop-fill-init c = c.in_ok-cells.ensures.cells ∙ filled_none c.args.side (voxel_at c.args.first)

pub loop-fill-preserved : goal.loop-fill-preserved
loop-fill-preserved c = filled_next c.args.side (voxel_at c.args.first) c.args.fills.now c.loop-fill.fill-index _ c.loop-fill.cells _
    c.loop-fill-test.true c.loop-fill.invariant c.paint.ensures
