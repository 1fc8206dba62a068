use Rattle.bf_case.proofs.RowLemmas.{beside_wishes, beside_refined, beside_row}
use Rattle.bf_case.proofs.rows.an_octet_beside_a_refined_leaf_stays.Goals as goal

pub returns-clause-wishes : goal.returns-clause-wishes
returns-clause-wishes c = beside_wishes

pub returns-clause-refined : goal.returns-clause-refined
returns-clause-refined c = beside_refined

pub returns-clause-ids : goal.returns-clause-ids
returns-clause-ids c = beside_row
