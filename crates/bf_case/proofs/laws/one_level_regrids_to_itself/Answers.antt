use Rattle.bf_case.proofs.MapLemmas.{regrid_same}
use Rattle.bf_case.proofs.laws.one_level_regrids_to_itself.Goals as goal

pub returns : goal.returns
returns c = regrid_same
