use Rattle.bf_beads.proofs.LawSteps.{none_dead}
use Rattle.bf_beads.proofs.laws.a_restore_leaves_no_dead_owner.Goals as goal

pub returns : goal.returns
returns c = none_dead
