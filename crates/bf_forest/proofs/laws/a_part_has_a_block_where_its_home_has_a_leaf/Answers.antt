use Rattle.bf_forest.specs.VectorLaws.{all_stored}
use Rattle.bf_forest.proofs.laws.a_part_has_a_block_where_its_home_has_a_leaf.Goals as goal

pub returns : goal.returns
returns c = all_stored
