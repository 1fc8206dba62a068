use Rattle.std.proofs.Common.{◌≡◌, drop}
use Rattle.bf_links.specs.Links.{owner_of}
use Rattle.bf_proxy_rounds.proofs.going.sibling_owner.Given as goal

abbrev pub invariant-loop-link : goal.invariant-loop-link
invariant-loop-link l = owner_of (drop l.link-index l.links) l.sibling ≡ owner_of l.links l.sibling
