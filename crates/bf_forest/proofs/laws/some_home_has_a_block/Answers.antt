use Rattle.bf_forest.specs.LeafLaws.{some_home}
use Rattle.bf_forest.proofs.laws.some_home_has_a_block.Goals as goal

pub returns : goal.returns
returns c = λ setup epoch round locals good. some_home setup epoch round locals good
