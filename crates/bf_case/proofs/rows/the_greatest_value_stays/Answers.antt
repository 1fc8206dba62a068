use Rattle.bf_case.proofs.RowLemmas.{brim_full_row}
use Rattle.bf_case.proofs.rows.the_greatest_value_stays.Goals as goal

pub returns : goal.returns
returns c = brim_full_row
