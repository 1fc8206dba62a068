use Rattle.bf_proxy_rounds.proofs.MakableLemmas.{can_make}
use Rattle.bf_proxy_rounds.proofs.laws.a_rank_can_make_its_proxies.Goals as goal

pub returns : goal.returns
returns c = λ shape levels ids w owner proxies rank can. can_make shape levels ids w can owner proxies rank
