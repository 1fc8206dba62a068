use Rattle.bf_proxy.proofs.LawLemmas.{few, inside, others, rises, sources_named}
use Rattle.bf_proxy.proofs.laws.the_proxies_of_a_leaf_can_be_made.Goals as goal

pub returns : goal.returns
returns c = record { sources = sources_named; inside = inside; rising = rises; others = others; few = few }
