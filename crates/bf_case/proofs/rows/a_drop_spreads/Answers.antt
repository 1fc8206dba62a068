use Rattle.bf_case.proofs.RowLemmas.{one_drop_row}
use Rattle.bf_case.proofs.rows.a_drop_spreads.Goals as goal

pub returns : goal.returns
returns c = one_drop_row
