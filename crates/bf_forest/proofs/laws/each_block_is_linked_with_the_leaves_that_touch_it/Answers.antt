use Rattle.bf_forest.specs.VectorLaws.{all_linked}
use Rattle.bf_forest.proofs.laws.each_block_is_linked_with_the_leaves_that_touch_it.Goals as goal

pub returns : goal.returns
returns c = all_linked
