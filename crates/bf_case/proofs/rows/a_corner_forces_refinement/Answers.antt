use Rattle.bf_case.proofs.RowLemmas.{forced_first, forced_wishes, forced_refined, forced_row, forced_count}
use Rattle.bf_case.proofs.rows.a_corner_forces_refinement.Goals as goal

pub returns-clause-first : goal.returns-clause-first
returns-clause-first c = forced_first

pub returns-clause-wishes : goal.returns-clause-wishes
returns-clause-wishes c = forced_wishes

pub returns-clause-refined : goal.returns-clause-refined
returns-clause-refined c = forced_refined

pub returns-clause-ids : goal.returns-clause-ids
returns-clause-ids c = forced_row

pub returns-clause-count : goal.returns-clause-count
returns-clause-count c = forced_count
