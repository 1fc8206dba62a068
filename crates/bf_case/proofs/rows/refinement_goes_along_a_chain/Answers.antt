use Rattle.bf_case.proofs.RowLemmas.{chain_from_level_2_row, chain_from_level_3_row}
use Rattle.bf_case.proofs.rows.refinement_goes_along_a_chain.Goals as goal

pub returns-clause-from_level_2 : goal.returns-clause-from_level_2
returns-clause-from_level_2 c = chain_from_level_2_row

pub returns-clause-from_level_3 : goal.returns-clause-from_level_3
returns-clause-from_level_3 c = chain_from_level_3_row
