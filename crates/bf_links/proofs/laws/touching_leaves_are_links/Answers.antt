use Rattle.bf_links.proofs.LinkLemmas.{touching-links, links_are_links}
use Rattle.bf_links.proofs.laws.touching_leaves_are_links.Goals as goal

pub returns : goal.returns
returns c = record { links = touching-links; valid = links_are_links }
