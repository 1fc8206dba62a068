use Rattle.bf_forest.specs.ForestLaws.{lawful_forest}
use Rattle.bf_forest.proofs.laws.the_opening_is_good.Goals as goal

pub returns : goal.returns
returns c = λ setup. (lawful_forest setup).goods.opening
