use Rattle.bf_links.proofs.LinkLemmas.{links_exact, links_both}
use Rattle.bf_links.proofs.laws.links_go_both_ways.Goals as goal

pub returns : goal.returns
returns c = record { exact = links_exact; both = links_both }
