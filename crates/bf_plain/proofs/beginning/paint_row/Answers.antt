use Rattle.std.proofs.Common.{arith}
use Rattle.bf_plain.proofs.BeginningLemmas.{Paints-one, RowBefore-none, RowBefore-more, RowBefore-all}
use Rattle.bf_plain.proofs.beginning.paint_row.Goals as goal

pub loop-x-init : goal.loop-x-init
loop-x-init c = RowBefore-none c.args.case.now c.args.fill.now c.args.y c.args.z _ c.args.leaves.now c.of_cells-along.ensures.from

pub loop-x-preserved : goal.loop-x-preserved
loop-x-preserved c =
    let case = c.args.case.now in
    let fill = c.args.fill.now in
    RowBefore-more case fill c.args.y c.args.z c.loop-x.x c.of_cells-along.result.from c.of_cells-along.result.end c.root_at-root.result
    c.args.leaves.now c.loop-x.leaves _ c.loop-x.invariant (omega (arith, c.of_cells-along.ensures.inside)) c.requires.y_in
    c.of_cells-along.ensures.from (omega arith) c.of_cells-along.ensures.end (omega arith) c.root_at-root.ensures.exact
    (Paints-one case fill c.root_at-root.result c.loop-x.leaves _ c.fill_root.new.cells
    (omega (arith, c.loop-x.invariant.full, c.requires.full, c.root_at-root.ensures.in_shape)) c.index-leaves-root.is c.fill_root.ensures)

pub returns : goal.returns
returns c = RowBefore-all c.args.case.now c.args.fill.now c.args.y c.args.z c.loop-x.x c.args.leaves.now c.loop-x.leaves
    (omega (arith, c.of_cells-along.ensures.end)) c.loop-x.invariant
