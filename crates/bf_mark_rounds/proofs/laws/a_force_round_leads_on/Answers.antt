use Rattle.bf_mark_rounds.proofs.ForceLemmas.{force_leads}
use Rattle.bf_mark_rounds.proofs.laws.a_force_round_leads_on.Goals as goal

pub returns : goal.returns
returns c = λ shape ids w owner rounds members rises rise owned. force_leads shape ids rises w owner rounds members rise owned
