use Rattle.bf_forest.specs.VectorLaws.{step_tells}
use Rattle.bf_forest.proofs.laws.a_step_tells_what_lies_at_shared_faces.Goals as goal

pub returns : goal.returns
returns c = step_tells
