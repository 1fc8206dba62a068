use Rattle.bf_beads.proofs.LawSteps.{one_each}
use Rattle.bf_beads.proofs.laws.each_bead_is_at_one_member.Goals as goal

pub returns : goal.returns
returns c = one_each
