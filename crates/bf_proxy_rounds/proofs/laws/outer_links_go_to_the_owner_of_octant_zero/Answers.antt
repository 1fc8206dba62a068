use Rattle.bf_proxy_rounds.proofs.SiblingsLemmas.{told_is}
use Rattle.bf_proxy_rounds.specs.Making.{made_proxies}
use Rattle.bf_proxy_rounds.proofs.laws.outer_links_go_to_the_owner_of_octant_zero.Goals as goal

pub returns : goal.returns
returns c = λ shape levels ids w owner from to can. told_is shape levels ids w can owner (made_proxies shape ids w owner from) from to
