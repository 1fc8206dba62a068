use Rattle.bf_forest.specs.ForestLaws.{lawful_forest}
use Rattle.bf_forest.proofs.laws.a_round_keeps_a_good_vector.Goals as goal

pub returns : goal.returns
returns c = λ setup epoch round locals good within. (lawful_forest setup).goods.next epoch round locals good within
