use Rattle.bf_forest.specs.LeafLaws.{good_leaves}
use Rattle.bf_forest.proofs.laws.the_blocks_are_the_models_leaves.Goals as goal

pub returns : goal.returns
returns c = λ setup epoch round locals good. good_leaves setup epoch round locals good
