use Rattle.bf_case.proofs.RootModel.{root_steps}
use Rattle.bf_case.proofs.laws.a_root_steps_between_its_walls.Goals as goal

pub returns : goal.returns
returns c = root_steps
