use Rattle.bf_case.proofs.PlaceLemmas.{one_leaf_holds}
use Rattle.bf_case.proofs.laws.a_unit_has_one_place.Goals as goal

pub returns : goal.returns
returns c shape ids v j k d = one_leaf_holds shape ids v j k d d
