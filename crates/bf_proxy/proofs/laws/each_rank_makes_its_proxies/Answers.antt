use Rattle.bf_proxy.proofs.LawLemmas.{rank_makes}
use Rattle.bf_proxy.proofs.laws.each_rank_makes_its_proxies.Goals as goal

pub returns : goal.returns
returns c = rank_makes
