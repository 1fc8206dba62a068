use Rattle.bf_edge.proofs.SheetLemmas.{prints_then}
use Rattle.bf_cli.proofs.answer.print_loss.Goals as goal

pub returns : goal.returns
returns g c = prints_then c.print_numbered.ensures (prints_then c.print_numbered-2.ensures (prints_then c.print_numbered-3.ensures c.print.ensures))
