use Rattle.bf_edge.proofs.SheetLemmas.{prints_then}
use Rattle.bf_text.proofs.WriteLemmas.{prints_head}
use Rattle.bf_text.proofs.writer.print_head.Goals as goal

pub returns : goal.returns
returns g c = prints_head c.args.case.now (prints_then c.print_sizes.ensures (prints_then c.print_times.ensures c.print_limits.ensures))
