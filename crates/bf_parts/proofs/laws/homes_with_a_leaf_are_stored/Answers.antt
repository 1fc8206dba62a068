use Rattle.bf_parts.specs.ViewLaws.{stored_seen}
use Rattle.bf_parts.proofs.laws.homes_with_a_leaf_are_stored.Goals as goal

pub returns : goal.returns
returns g c = λ look shift epoch is_made leaves owner home_of at seen held. stored_seen look shift epoch is_made leaves owner home_of at seen held
