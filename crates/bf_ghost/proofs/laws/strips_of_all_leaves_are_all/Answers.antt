use Rattle.bf_ghost.proofs.TellingLemmas.{strips_of_all}
use Rattle.bf_ghost.proofs.laws.strips_of_all_leaves_are_all.Goals as goal

pub returns : goal.returns
returns c = strips_of_all
