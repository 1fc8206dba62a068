use Rattle.bf_case.proofs.RowLemmas.{equal_coarsen, eight_merge_row}
use Rattle.bf_case.proofs.rows.eight_leaves_merge.Goals as goal

pub returns-clause-equal_spread : goal.returns-clause-equal_spread
returns-clause-equal_spread c = equal_coarsen

pub returns-clause-text : goal.returns-clause-text
returns-clause-text c = eight_merge_row
