use Rattle.bf_case.proofs.RowLemmas.{equal_spread, two_levels_row}
use Rattle.bf_case.proofs.rows.two_levels_meet.Goals as goal

pub returns-clause-equal_spread : goal.returns-clause-equal_spread
returns-clause-equal_spread c = equal_spread

pub returns-clause-text : goal.returns-clause-text
returns-clause-text c = two_levels_row
