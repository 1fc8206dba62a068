use Rattle.bf_forest.specs.VectorLaws.{step_peers}
use Rattle.bf_forest.proofs.laws.a_steps_peers_own_leaves_that_touch.Goals as goal

pub returns : goal.returns
returns c = step_peers
