use Rattle.bf_links.proofs.LinkLemmas.{links_remapped, links_changed, links_alike}
use Rattle.bf_links.proofs.laws.links_follow_their_owners.Goals as goal

pub returns : goal.returns
returns c = record { remapped = links_remapped; changed = links_changed; alike = links_alike }
