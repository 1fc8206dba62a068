use Rattle.std.proofs.Common.{sym, subst}
use Rattle.bf_edge.specs.Sheet.{Prints}
use Rattle.bf_cli.specs.Answers.{status_line}
use Rattle.bf_cli.specs.declared.status.Status.{Status}
use Rattle.bf_cli.proofs.answer.print_status.Goals as goal

pub returns-in-ReadFault : goal.returns-in-ReadFault
returns-in-ReadFault g c =
    subst (λ (status : Status). Prints g.W.Sink.written g.W.Sink.faults c.args.sink.now c.print-in-ReadFault.new.sink c.args.sheet.now c.print-in-ReadFault.new.sheet (status_line status))
    (sym c.in-ReadFault.is) c.print-in-ReadFault.ensures
