use Rattle.std.proofs.Common.{◌≡◌, ◌++◌, map}
use Rattle.std.specs.List.{range_with_len}
use Rattle.bf_id.specs.Id.{child_of}
use Rattle.bf_links.specs.Links.{link_to}
use Rattle.bf_proxy_rounds.proofs.going.add_children.Given as goal

abbrev pub invariant-loop-octant : goal.invariant-loop-octant
invariant-loop-octant l = l.goals.items ≡ l.fn.goals.items ++ map (λ o. link_to (λ q. l.home) (child_of l.id o)) (range_with_len 0 l.octant)
