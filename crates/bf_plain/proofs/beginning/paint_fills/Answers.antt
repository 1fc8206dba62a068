use Rattle.std.proofs.Common.{◌∙◌, length, take, ap, arith}
use Rattle.bf_plain.proofs.BeginningLemmas.{next_fill_is_painted, length-roots_after}
use Rattle.bf_plain.proofs.beginning.paint_fills.Goals as goal

pub paint_fill-requires-clause-full : goal.paint_fill-requires-clause-full
paint_fill-requires-clause-full c =
    ap length c.loop-fill.invariant ∙ length-roots_after c.args.case.now (take c.loop-fill.fill-index c.args.case.now.fills)

pub loop-fill-preserved : goal.loop-fill-preserved
loop-fill-preserved c =
    next_fill_is_painted c.args.case.now c.args.case.now.fills c.as_slice-fill-items.result.now c.loop-fill.fill-index _ c.loop-fill.leaves c.paint_fill.new.leaves
    c.as_slice-fill-items.ensures (omega (arith, c.requires.valid.sized.wide)) c.loop-fill-test.true c.loop-fill.invariant c.paint_fill.ensures
