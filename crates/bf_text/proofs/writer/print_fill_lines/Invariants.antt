use Rattle.std.proofs.Common.{take, flat_map}
use Rattle.bf_edge.specs.Sheet.{Prints}
use Rattle.bf_case.specs.CaseText.{fill_text}
use Rattle.bf_text.proofs.writer.print_fill_lines.Given as goal

abbrev pub invariant-loop-fill : goal.invariant-loop-fill
invariant-loop-fill g l =
    Prints g.W.Sink.written g.W.Sink.faults l.initial.sink l.sink l.initial.sheet l.sheet (flat_map fill_text (take l.fill-index l.fills))
