use Rattle.bf_ghost.proofs.SurroundingLemmas.{surrounding_holds}
use Rattle.bf_ghost.proofs.laws.all_strips_surround_a_block.Goals as goal

pub returns : goal.returns
returns c = surrounding_holds
