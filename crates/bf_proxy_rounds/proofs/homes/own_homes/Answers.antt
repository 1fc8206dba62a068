use Rattle.std.proofs.Common.{◌∙◌, ◌+◌, ◌++◌, ◌∷◌, [], ap, cond, filter, map, sym, take}
use Rattle.bf_id.specs.Id.{BlockId, child_of, parent_of}
use Rattle.bf_links.specs.Links.{link_to}
use Rattle.bf_proxy_rounds.specs.Calls.{knowing, sibling_by}
use Rattle.bf_proxy_rounds.specs.Plays.{is_merge, known_target, linked_leaves, octet_home, LinkedLeaf, Proxying}
use Rattle.bf_proxy_rounds.proofs.CallLemmas.{taken_all, taken_next, tested_next}
use Rattle.bf_proxy_rounds.proofs.homes.own_homes.Goals as goal

pub loop-place-preserved : goal.loop-place-preserved
loop-place-preserved g c =
    let local : Proxying = knowing c.args.rank c.args.marks.now (map g.L.HasLinks.linked c.args.links.now) [] in
    let i = c.id-item.result in
    let next = taken_next g.L.HasLinks.linked c.args.marks.now.leaves c.leaves-id-items.result.now c.args.links.now c.leaves-id-items.ensures c.requires
    c.loop-place.place i c.index-links-place.result c.loop-place-test.true c.id-item.is c.index-links-place.is in
    c.in_ok-add_home.ensures
    ∙ (λ k. cond (is_merge (c.target-target.ensures k)) (c.loop-place.invariant k ++ link_to (λ (j : BlockId). sibling_by c.args.rank (c.links.ensures k) (child_of (parent_of j) 0)) i ∷ []) (c.loop-place.invariant k))
    ∙ sym (tested_next (λ (leaf : LinkedLeaf). is_merge (known_target local leaf.0)) (λ (leaf : LinkedLeaf). link_to (λ i. octet_home local i leaf.1) leaf.0)
    (take c.loop-place.place (linked_leaves local)) (take (c.loop-place.place + 1) (linked_leaves local)) (i, g.L.HasLinks.linked c.index-links-place.result) next)

pub returns : goal.returns
returns g c =
    let local : Proxying = knowing c.args.rank c.args.marks.now (map g.L.HasLinks.linked c.args.links.now) [] in
    c.of.ensures
    ∙ c.loop-place.invariant
    ∙ ap (λ leaves. map (λ (leaf : LinkedLeaf). link_to (λ i. octet_home local i leaf.1) leaf.0) (filter (λ (leaf : LinkedLeaf). is_merge (known_target local leaf.0)) leaves))
    (taken_all g.L.HasLinks.linked c.args.marks.now.leaves c.leaves-id-items.result.now c.args.links.now c.leaves-id-items.ensures c.requires
    c.loop-place.place c.loop-place-test.false)
