use Rattle.bf_beads.proofs.LawSteps.{sender_knows}
use Rattle.bf_beads.proofs.laws.a_sender_knows_its_local.Goals as goal

pub returns : goal.returns
returns c = sender_knows
