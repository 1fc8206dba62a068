use Rattle.std.proofs.Common.{◌∷◌, decimal, refl, arith}
use Rattle.bf_edge.proofs.SheetLemmas.{prints_none, prints_item}
use Rattle.bf_edge.proofs.sheet.print_numbers.Goals as goal

pub loop-number-init : goal.loop-number-init
loop-number-init g c = prints_none g.W.Sink.written g.W.Sink.faults c.args.sink.now c.args.sheet.now

pub loop-number-preserved : goal.loop-number-preserved
loop-number-preserved g c =
    prints_item (λ n. 32 ∷ decimal n) c.args.numbers.now c.loop-number.number-index 0 _ (omega arith) refl c.loop-number.invariant c.print_next.ensures
