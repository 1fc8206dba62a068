use Rattle.bf_forest.proofs.PointSteps.{knows_receiving}
use Rattle.bf_forest.proofs.laws.a_receiver_knows_its_local.Goals as goal

pub returns : goal.returns
returns c = λ setup epoch round peer msg local at. knows_receiving setup epoch round peer msg local at
