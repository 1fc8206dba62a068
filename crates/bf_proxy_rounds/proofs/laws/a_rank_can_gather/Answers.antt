use Rattle.bf_proxy_rounds.proofs.GatherLemmas.{can_gather}
use Rattle.bf_proxy_rounds.proofs.laws.a_rank_can_gather.Goals as goal

pub returns : goal.returns
returns c = λ shape levels ids w owner rank before leaves can. can_gather shape levels ids w can owner rank before leaves
