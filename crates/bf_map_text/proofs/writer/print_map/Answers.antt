use Rattle.bf_case.specs.MapText.{map_text}
use Rattle.bf_edge.proofs.SheetLemmas.{prints_then}
use Rattle.bf_map_text.proofs.writer.print_map.Goals as goal

pub returns : goal.returns
unfolding map_text
returns g c = prints_then c.print_leaves.ensures c.print.ensures
