use Rattle.bf_edge.proofs.SheetLemmas.{prints_then}
use Rattle.bf_map_text.proofs.writer.print_leaf.Goals as goal

pub returns : goal.returns
returns g c = prints_then c.print_head.ensures c.print_grid.ensures
