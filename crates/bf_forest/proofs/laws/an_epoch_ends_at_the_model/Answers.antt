use Rattle.bf_forest.specs.LeafLaws.{last_leaves}
use Rattle.bf_forest.proofs.laws.an_epoch_ends_at_the_model.Goals as goal

pub returns : goal.returns
returns c = λ setup epoch locals good. last_leaves setup epoch locals good
