use Rattle.bf_forest.specs.LeafLaws.{all_regained}
use Rattle.bf_forest.proofs.laws.a_restore_gives_heirs_their_blocks.Goals as goal

pub returns : goal.returns
returns c = all_regained
