use Rattle.std.proofs.Common.{◌∷◌, take, flat_map, decimal}
use Rattle.bf_edge.specs.Sheet.{Prints}
use Rattle.bf_edge.proofs.sheet.print_numbers.Given as goal

abbrev pub invariant-loop-number : goal.invariant-loop-number
invariant-loop-number g l =
    Prints g.W.Sink.written g.W.Sink.faults l.initial.sink l.sink l.initial.sheet l.sheet (flat_map (λ n. 32 ∷ decimal n) (take l.number-index l.numbers))
