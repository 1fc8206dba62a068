use Rattle.bf_edge.proofs.SheetLemmas.{prints_then}
use Rattle.bf_text.proofs.writer.print_case.Goals as goal

pub returns : goal.returns
returns g c = prints_then c.print_head.ensures (prints_then c.print_fills.ensures (prints_then c.print_deaths.ensures (prints_then c.print_order.ensures c.print_line.ensures)))
