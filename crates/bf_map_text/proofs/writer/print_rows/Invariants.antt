use Rattle.std.proofs.Common.{◌+◌, ◌*◌, take, flat_map}
use Rattle.std.specs.Prelude.{slice_range}
use Rattle.std.specs.List.{range_with_len}
use Rattle.bf_case.specs.MapText.{row_text}
use Rattle.bf_edge.specs.Sheet.{Prints}
use Rattle.bf_map_text.proofs.writer.print_rows.Given as goal

abbrev pub invariant-loop-row : goal.invariant-loop-row
invariant-loop-row g l =
    Prints g.W.Sink.written g.W.Sink.faults l.initial.sink l.sink l.initial.sheet l.sheet
    (flat_map (λ k. row_text (slice_range l.values (l.side * k) (l.side * k + l.side))) (take l.row (range_with_len 0 (l.side * l.side))))
