use Rattle.std.proofs.Common.{arith}
use Rattle.bf_plain.proofs.BeginningLemmas.{LayerBefore-none, LayerBefore-more, LayerBefore-all}
use Rattle.bf_plain.proofs.beginning.paint_layer.Goals as goal

pub loop-y-init : goal.loop-y-init
loop-y-init c = LayerBefore-none c.args.case.now c.args.fill.now c.args.z _ c.args.leaves.now c.of_cells-along.ensures.from

pub loop-y-preserved : goal.loop-y-preserved
loop-y-preserved c =
    LayerBefore-more c.args.case.now c.args.fill.now c.args.z c.loop-y.y c.of_cells-along.result.from c.of_cells-along.result.end
    c.args.leaves.now c.loop-y.leaves _ c.loop-y.invariant
    c.of_cells-along.ensures.from (omega arith) c.of_cells-along.ensures.end (omega arith) c.paint_row.ensures

pub returns : goal.returns
returns c = LayerBefore-all c.args.case.now c.args.fill.now c.args.z c.loop-y.y c.args.leaves.now c.loop-y.leaves
    (omega (arith, c.of_cells-along.ensures.end)) c.loop-y.invariant
