use Rattle.bf_beads.proofs.LawSteps.{finisher_knows}
use Rattle.bf_beads.proofs.laws.a_finisher_knows_its_local.Goals as goal

pub returns : goal.returns
returns c = finisher_knows
