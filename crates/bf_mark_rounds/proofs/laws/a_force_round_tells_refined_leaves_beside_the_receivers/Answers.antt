use Rattle.bf_mark_rounds.proofs.TellLemmas.{forced_told}
use Rattle.bf_mark_rounds.proofs.laws.a_force_round_tells_refined_leaves_beside_the_receivers.Goals as goal

pub returns : goal.returns
returns c = λ shape ids w owner rounds from to i rises. forced_told shape ids w owner rises rounds from to i
