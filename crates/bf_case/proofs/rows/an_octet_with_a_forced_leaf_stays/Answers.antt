use Rattle.bf_case.proofs.RowLemmas.{forced_leaf_wishes, forced_leaf_refined, forced_leaf_row}
use Rattle.bf_case.proofs.rows.an_octet_with_a_forced_leaf_stays.Goals as goal

pub returns-clause-wishes : goal.returns-clause-wishes
returns-clause-wishes c = forced_leaf_wishes

pub returns-clause-refined : goal.returns-clause-refined
returns-clause-refined c = forced_leaf_refined

pub returns-clause-ids : goal.returns-clause-ids
returns-clause-ids c = forced_leaf_row
