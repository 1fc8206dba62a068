use Rattle.bf_edge.proofs.SheetLemmas.{prints_then}
use Rattle.bf_map_text.proofs.writer.print_line.Goals as goal

pub returns : goal.returns
returns g c = prints_then c.print_number.ensures (prints_then c.print_numbers.ensures c.print.ensures)
