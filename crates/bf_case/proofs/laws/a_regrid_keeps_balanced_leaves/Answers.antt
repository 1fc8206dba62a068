use Rattle.bf_case.proofs.ChoiceLemmas.{regridded_are_balanced}
use Rattle.bf_case.proofs.laws.a_regrid_keeps_balanced_leaves.Goals as goal

pub returns : goal.returns
returns c = regridded_are_balanced
