use Rattle.std.proofs.Common.{refl, arith}
use Rattle.bf_edge.proofs.SheetLemmas.{prints_none, prints_item}
use Rattle.bf_case.specs.CaseText.{death_text}
use Rattle.bf_text.proofs.writer.print_death_lines.Goals as goal

pub loop-rank-init : goal.loop-rank-init
loop-rank-init g c = prints_none g.W.Sink.written g.W.Sink.faults c.args.sink.now c.args.sheet.now

pub loop-rank-preserved : goal.loop-rank-preserved
loop-rank-preserved g c =
    prints_item death_text c.args.deaths.now c.loop-rank.rank-index _ _ (omega arith) refl c.loop-rank.invariant c.print_line.ensures
