use Rattle.std.proofs.Common.{◌≡◌, take}
use Rattle.bf_links.specs.Links.{owners_of}
use Rattle.bf_links.proofs.links.owners_of.Given as goal

abbrev pub invariant-loop-link : goal.invariant-loop-link
invariant-loop-link l = l.owners ≡ owners_of (take l.link-index l.links)
