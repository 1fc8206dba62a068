use Rattle.std.proofs.Common.{◌≡◌, map}
use Rattle.std.specs.List.{range_with_len}
use Rattle.bf_id.specs.Id.{child_of}
use Rattle.bf_links.specs.Links.{link_to}
use Rattle.bf_proxy_rounds.specs.Calls.{sibling_by}
use Rattle.bf_proxy_rounds.proofs.making.octet_sources.Given as goal

abbrev pub invariant-loop-octant : goal.invariant-loop-octant
invariant-loop-octant l = l.sources.items ≡ map (λ o. link_to (sibling_by l.rank l.links) (child_of l.parent o)) (range_with_len 0 l.octant)
