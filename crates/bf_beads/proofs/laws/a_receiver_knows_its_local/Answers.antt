use Rattle.bf_beads.proofs.LawSteps.{receiver_knows}
use Rattle.bf_beads.proofs.laws.a_receiver_knows_its_local.Goals as goal

pub returns : goal.returns
returns c = receiver_knows
