use Rattle.bf_beads.proofs.LawSteps.{heirs_part}
use Rattle.bf_beads.proofs.laws.a_restore_gives_an_heir_its_part.Goals as goal

pub returns : goal.returns
returns c = heirs_part
