use Rattle.bf_case.proofs.RowLemmas.{full_block_row}
use Rattle.bf_case.proofs.rows.a_block_is_filled.Goals as goal

pub returns : goal.returns
returns c = full_block_row
