use Rattle.bf_case.proofs.NewCells.{cells_at-kept, cells_at-refined, cells_at-merged}
use Rattle.bf_case.proofs.laws.a_regrid_gives_each_leaf_its_cells.Goals as goal

pub returns-clause-kept : goal.returns-clause-kept
returns-clause-kept c = cells_at-kept

pub returns-clause-refined : goal.returns-clause-refined
returns-clause-refined c = cells_at-refined

pub returns-clause-merged : goal.returns-clause-merged
returns-clause-merged c = cells_at-merged
