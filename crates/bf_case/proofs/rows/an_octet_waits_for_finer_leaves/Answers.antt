use Rattle.bf_case.proofs.RowLemmas.{spotted_row}
use Rattle.bf_case.proofs.rows.an_octet_waits_for_finer_leaves.Goals as goal

pub returns : goal.returns
returns c = spotted_row
