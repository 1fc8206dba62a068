use Rattle.bf_case.proofs.RowLemmas.{seven_wish_row}
use Rattle.bf_case.proofs.rows.seven_leaves_stay.Goals as goal

pub returns : goal.returns
returns c = seven_wish_row
