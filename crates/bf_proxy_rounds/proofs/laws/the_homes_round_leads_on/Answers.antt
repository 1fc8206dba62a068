use Rattle.bf_proxy_rounds.proofs.HomesLemmas.{homes_lead}
use Rattle.bf_proxy_rounds.proofs.laws.the_homes_round_leads_on.Goals as goal

pub returns : goal.returns
returns c = λ shape levels ids w owner members can rise owned. homes_lead shape levels ids w can owner members rise owned
