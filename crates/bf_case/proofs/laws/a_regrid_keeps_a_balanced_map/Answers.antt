use Rattle.bf_case.proofs.ModelLemmas.{balanced-regrid}
use Rattle.bf_case.proofs.laws.a_regrid_keeps_a_balanced_map.Goals as goal

pub returns : goal.returns
returns c = balanced-regrid
