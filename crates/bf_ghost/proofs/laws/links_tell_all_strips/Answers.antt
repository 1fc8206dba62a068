use Rattle.bf_ghost.proofs.TellingLemmas.{links_tell}
use Rattle.bf_ghost.proofs.laws.links_tell_all_strips.Goals as goal

pub returns : goal.returns
returns c = links_tell
