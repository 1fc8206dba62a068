use Rattle.bf_forest.proofs.PointSteps.{knows_sending}
use Rattle.bf_forest.proofs.laws.a_sender_knows_its_local.Goals as goal

pub returns : goal.returns
returns c = λ setup epoch round to local at. knows_sending setup epoch round to local at
