use Rattle.std.proofs.Common.{refl, arith}
use Rattle.bf_edge.proofs.SheetLemmas.{prints_none, prints_item}
use Rattle.bf_case.specs.CaseText.{fill_text}
use Rattle.bf_text.proofs.writer.print_fill_lines.Goals as goal

pub loop-fill-init : goal.loop-fill-init
loop-fill-init g c = prints_none g.W.Sink.written g.W.Sink.faults c.args.sink.now c.args.sheet.now

pub loop-fill-preserved : goal.loop-fill-preserved
loop-fill-preserved g c =
    prints_item fill_text c.args.fills.now c.loop-fill.fill-index _ _ (omega arith) refl c.loop-fill.invariant c.print_fill.ensures
