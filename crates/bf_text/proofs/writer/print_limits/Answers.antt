use Rattle.bf_edge.proofs.SheetLemmas.{prints_then}
use Rattle.bf_text.proofs.writer.print_limits.Goals as goal

pub returns : goal.returns
returns g c = prints_then c.print_line.ensures (prints_then c.print_line-2.ensures (prints_then c.print_line-3.ensures (prints_then c.print_line-4.ensures c.print_line-5.ensures)))
