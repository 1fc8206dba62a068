use Rattle.bf_beads.proofs.LawSteps.{has_its_part}
use Rattle.bf_beads.proofs.laws.a_member_has_its_part.Goals as goal

pub returns : goal.returns
returns c = has_its_part
