use Rattle.bf_mark_rounds.proofs.TellLemmas.{heard_settled, own_settled}
use Rattle.bf_mark_rounds.proofs.laws.as_many_force_rounds_as_levels_are_enough.Goals as goal

pub returns : goal.returns
returns c = record {
  own = λ shape ids w owner levels rank few stop. own_settled shape ids w owner levels rank few stop;
  heard = λ shape ids w owner before rank few stop. heard_settled shape ids w owner before rank few stop;
}
