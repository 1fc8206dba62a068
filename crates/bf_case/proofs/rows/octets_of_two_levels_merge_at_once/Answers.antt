use Rattle.bf_case.proofs.RowLemmas.{merged_row}
use Rattle.bf_case.proofs.rows.octets_of_two_levels_merge_at_once.Goals as goal

pub returns : goal.returns
returns c = merged_row
