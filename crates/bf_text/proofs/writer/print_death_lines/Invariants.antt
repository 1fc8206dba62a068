use Rattle.std.proofs.Common.{take, flat_map}
use Rattle.bf_edge.specs.Sheet.{Prints}
use Rattle.bf_case.specs.CaseText.{death_text}
use Rattle.bf_text.proofs.writer.print_death_lines.Given as goal

abbrev pub invariant-loop-rank : goal.invariant-loop-rank
invariant-loop-rank g l =
    Prints g.W.Sink.written g.W.Sink.faults l.initial.sink l.sink l.initial.sheet l.sheet (flat_map death_text (take l.rank-index l.deaths))
