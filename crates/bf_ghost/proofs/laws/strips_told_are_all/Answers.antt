use Rattle.bf_ghost.proofs.TellingLemmas.{told_are_all}
use Rattle.bf_ghost.proofs.laws.strips_told_are_all.Goals as goal

pub returns : goal.returns
returns c = told_are_all
