use Rattle.bf_mark_rounds.proofs.FirstLemmas.{first_leads}
use Rattle.bf_mark_rounds.proofs.laws.the_first_force_round_leads_on.Goals as goal

pub returns : goal.returns
returns c = λ shape ids w owner finish members after leads. first_leads shape ids w owner finish members after leads
