use Rattle.bf_forest.specs.LeafLaws.{round_each, ends_at}
use Rattle.bf_forest.proofs.laws.an_epoch_has_a_round_for_each_step.Goals as goal

pub returns : goal.returns
returns c = record {
  rounds = λ setup epoch round locals good. round_each setup epoch round locals good;
  target = λ setup epoch round locals good. ends_at setup epoch round locals good;
}
