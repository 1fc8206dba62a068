use Rattle.std.proofs.Common.{rules}
use Rattle.bf_cells.proofs.GridLemmas.{filled_is}
use Rattle.bf_cells.proofs.cells.Cells.filled.Goals as goal

pub returns-clause-cells : goal.returns-clause-cells
returns-clause-cells c = filled_is c.args.side c.args.value _ (search rules)
