use Rattle.bf_proxy_rounds.proofs.LinkedLemmas.{homes_owned}
use Rattle.bf_proxy_rounds.proofs.laws.proxies_are_made_at_members.Goals as goal

pub returns : goal.returns
returns c = λ shape levels ids w owner members can owned. homes_owned shape levels ids w can owner members owned
