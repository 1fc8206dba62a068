use Rattle.bf_links.proofs.LinkLemmas.{is_member-owners_of, owner_found, owner_not_found}
use Rattle.bf_links.proofs.laws.links_tell_owners.Goals as goal

pub returns : goal.returns
returns c = record { found = owner_found; none = owner_not_found; owners = is_member-owners_of }
