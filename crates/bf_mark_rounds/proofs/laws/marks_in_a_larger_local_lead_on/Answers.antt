use Rattle.bf_mark_rounds.proofs.ViewLemmas.{view_leads}
use Rattle.bf_mark_rounds.proofs.laws.marks_in_a_larger_local_lead_on.Goals as goal

pub returns : goal.returns
returns g c = λ view shape ids w owner with is_view flag play told all members after leads. view_leads view shape ids w owner with is_view flag play told all members after leads
