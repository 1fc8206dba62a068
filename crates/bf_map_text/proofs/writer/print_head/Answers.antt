use Rattle.bf_edge.proofs.SheetLemmas.{prints_then}
use Rattle.bf_map_text.proofs.writer.print_head.Goals as goal

pub returns : goal.returns
returns g c = prints_then c.print.ensures (prints_then c.print_id.ensures c.print-2.ensures)
