use Rattle.bf_beads.proofs.LawSteps.{all_owned}
use Rattle.bf_beads.proofs.laws.links_name_members.Goals as goal

pub returns : goal.returns
returns c = all_owned
