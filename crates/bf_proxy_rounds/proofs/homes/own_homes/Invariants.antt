use Rattle.std.proofs.Common.{◌≡◌, [], filter, map, take}
use Rattle.bf_links.specs.Links.{link_to}
use Rattle.bf_proxy_rounds.specs.Calls.{knowing}
use Rattle.bf_proxy_rounds.specs.Plays.{is_merge, known_target, linked_leaves, octet_home, LinkedLeaf}
use Rattle.bf_proxy_rounds.proofs.homes.own_homes.Given as goal

abbrev pub invariant-loop-place : goal.invariant-loop-place
invariant-loop-place g l =
    let local = knowing l.rank l.marks (map g.L.HasLinks.linked l.links) [] in
    l.homes.items
    ≡ map (λ (leaf : LinkedLeaf). link_to (λ i. octet_home local i leaf.1) leaf.0)
    (filter (λ (leaf : LinkedLeaf). is_merge (known_target local leaf.0)) (take l.place (linked_leaves local)))
