use Rattle.bf_ghost.proofs.TellingLemmas.{strips_of_links}
use Rattle.bf_ghost.proofs.laws.strips_of_links_are_all.Goals as goal

pub returns : goal.returns
returns c = strips_of_links
