use Rattle.bf_edge.proofs.SheetLemmas.{prints_then}
use Rattle.bf_cli.proofs.answer.print_numbered.Goals as goal

pub returns : goal.returns
returns g c = prints_then c.print.ensures c.print_number.ensures
