use Rattle.std.proofs.Common.{◌≡◌, ◌&&◌, filter, map, take}
use Rattle.bf_proxy_rounds.specs.Calls.{knowing}
use Rattle.bf_proxy_rounds.specs.Plays.{is_merge, is_told_to, known_target, linked_leaves, outer_by, LinkedLeaf}
use Rattle.bf_proxy_rounds.proofs.telling.outer_told.Given as goal

abbrev pub invariant-loop-place : goal.invariant-loop-place
invariant-loop-place g l =
    let local = knowing l.rank l.marks (map g.L.HasLinks.linked l.links) l.homes in
    l.told.items
    ≡ map (outer_by l.shape local) (filter (λ (leaf : LinkedLeaf). is_merge (known_target local leaf.0) && is_told_to local l.to leaf) (take l.place (linked_leaves local)))
