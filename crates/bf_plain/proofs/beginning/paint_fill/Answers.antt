use Rattle.std.proofs.Common.{arith}
use Rattle.bf_plain.proofs.BeginningLemmas.{FillBefore-none, FillBefore-more, FillBefore-all}
use Rattle.bf_plain.proofs.beginning.paint_fill.Goals as goal

pub loop-z-init : goal.loop-z-init
loop-z-init c = FillBefore-none c.args.case.now c.args.fill.now _ c.args.leaves.now c.of_cells-along.ensures.from

pub loop-z-preserved : goal.loop-z-preserved
loop-z-preserved c =
    FillBefore-more c.args.case.now c.args.fill.now c.loop-z.z c.of_cells-along.result.from c.of_cells-along.result.end
    c.args.leaves.now c.loop-z.leaves _ c.loop-z.invariant
    c.of_cells-along.ensures.from (omega arith) c.of_cells-along.ensures.end (omega arith) c.paint_layer.ensures

pub returns : goal.returns
returns c = FillBefore-all c.args.case.now c.args.fill.now c.loop-z.z c.args.leaves.now c.loop-z.leaves
    (omega (arith, c.of_cells-along.ensures.end)) c.loop-z.invariant
