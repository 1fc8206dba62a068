use Rattle.bf_forest.proofs.PointSteps.{knows_finishing}
use Rattle.bf_forest.proofs.laws.a_finisher_knows_its_local.Goals as goal

pub returns : goal.returns
returns c = λ setup epoch round local at. knows_finishing setup epoch round local at
