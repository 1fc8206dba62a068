use Rattle.bf_beads.proofs.LawSteps.{owners_kept}
use Rattle.bf_beads.proofs.laws.a_commit_makes_owners_homes.Goals as goal

pub returns : goal.returns
returns c = owners_kept
