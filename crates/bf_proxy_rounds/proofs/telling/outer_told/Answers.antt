use Rattle.std.proofs.Common.{◌≡◌, ◌∙◌, ◌+◌, ◌++◌, ◌∷◌, ◌==◌, ◌&&◌, not, [], List, ap, filter, map, subst, sym, take}
use Rattle.std.specs.Prelude.{AllPairs}
use Rattle.std.proofs.lemmas.List.Elements.{All-contains}
use Rattle.bf_lemmas.proofs.Lists.{filter_twice}
use Rattle.bf_id.specs.Id.{child_of, octant_of, parent_of}
use Rattle.bf_links.specs.Links.{touching, ComesBefore}
use Rattle.bf_links.specs.declared.link.Link.{Link}
use Rattle.bf_proxy_rounds.specs.Calls.{knowing, near_by, sibling_by, IsMakable}
use Rattle.bf_proxy_rounds.specs.Plays.{is_merge, is_told_to, known_target, linked_leaves, outer_by, own_homes, LinkedLeaf, Proxying}
use Rattle.bf_proxy_rounds.proofs.CallLemmas.{homes_rise, kept_next, passed_next, taken_all, taken_among, taken_next}
use Rattle.bf_proxy_rounds.proofs.telling.outer_told.Goals.{then-is_for+in_ok-outer+in_ok-push, else-is_for}
use Rattle.bf_proxy_rounds.proofs.telling.outer_told.Goals as goal

pub outer_of-requires-clause-own : goal.outer_of-requires-clause-own
outer_of-requires-clause-own g c =
    let local : Proxying = knowing c.args.rank c.args.marks.now (map g.L.HasLinks.linked c.args.links.now) c.args.homes.now in
    let own : c.as_slice.result.now ≡ own_homes local = c.as_slice.ensures ∙ c.in_ok-own.ensures in
    subst (AllPairs ComesBefore) (sym own) (homes_rise local c.requires.known.rising)

pub outer_of-requires-clause-makable : goal.outer_of-requires-clause-makable
outer_of-requires-clause-makable g c =
    let local : Proxying = knowing c.args.rank c.args.marks.now (map g.L.HasLinks.linked c.args.links.now) c.args.homes.now in
    let own : c.as_slice.result.now ≡ own_homes local = c.as_slice.ensures ∙ c.in_ok-own.ensures in
    let i = c.id-item.result in
    let among = taken_among g.L.HasLinks.linked c.args.marks.now.leaves c.leaves-id-items.result.now c.args.links.now c.leaves-id-items.ensures c.requires.aligned
    c.loop-place.place i c.index-links-place.result c.loop-place-test.true c.id-item.is c.index-links-place.is in (
      c.args.rank,
      subst (λ (homes : List Link). IsMakable c.args.shape c.args.rank c.args.marks.now (homes ++ c.args.homes.now) (i, c.links-beside.result.now)) (sym own)
          (subst (λ (ls : List Link). IsMakable c.args.shape c.args.rank c.args.marks.now (own_homes local ++ c.args.homes.now) (i, ls)) (sym c.links-beside.ensures)
          (All-contains (IsMakable c.args.shape c.args.rank c.args.marks.now (own_homes local ++ c.args.homes.now)) (linked_leaves local) (i, g.L.HasLinks.linked c.index-links-place.result)
          c.requires.known.leaves among)),
    )

pub loop-place-preserved : goal.loop-place-preserved
loop-place-preserved g c =
    let local : Proxying = knowing c.args.rank c.args.marks.now (map g.L.HasLinks.linked c.args.links.now) c.args.homes.now in
    let i = c.id-item.result in
    let leaf : LinkedLeaf = (i, g.L.HasLinks.linked c.index-links-place.result) in
    let next = taken_next g.L.HasLinks.linked c.args.marks.now.leaves c.leaves-id-items.result.now c.args.links.now c.leaves-id-items.ensures c.requires.aligned
    c.loop-place.place i c.index-links-place.result c.loop-place-test.true c.id-item.is c.index-links-place.is in
    let test : c.is_for.result ≡ (is_merge (known_target local i) && is_told_to local c.args.to leaf) =
    c.is_for.ensures
    ∙ (λ k. is_merge (c.target.ensures k) && (not (octant_of i == 0) && sibling_by c.args.rank (c.links-beside.ensures k) (child_of (parent_of i) 0) == c.args.to)) in
    elim c.if-is_for.branch [
      | then-is_for+in_ok-outer+in_ok-push w ↦
          let outer : w.in_ok-outer.outer ≡ outer_by c.args.shape local leaf =
          w.in_ok-outer.ensures
          ∙ (λ k. (parent_of i, touching c.args.shape (parent_of i) (near_by c.args.marks.now ((w.as_slice.ensures ∙ c.in_ok-own.ensures) k ++ c.args.homes.now) i (c.links-beside.ensures k)))) in
          (λ k. (w.told-is k).items)
          ∙ w.in_ok-push.ensures.items
          ∙ (λ k. c.loop-place.invariant k ++ outer k ∷ [])
          ∙ sym (kept_next (λ (leaf : LinkedLeaf). is_merge (known_target local leaf.0) && is_told_to local c.args.to leaf) (outer_by c.args.shape local) (take c.loop-place.place (linked_leaves local))
          (take (c.loop-place.place + 1) (linked_leaves local)) leaf next (sym test ∙ w.if-is_for.true))
      | else-is_for w ↦
          (λ k. (w.told-is k).items)
          ∙ c.loop-place.invariant
          ∙ sym (passed_next (λ (leaf : LinkedLeaf). is_merge (known_target local leaf.0) && is_told_to local c.args.to leaf) (outer_by c.args.shape local) (take c.loop-place.place (linked_leaves local))
          (take (c.loop-place.place + 1) (linked_leaves local)) leaf next (sym test ∙ w.if-is_for.false))
    ]

pub returns : goal.returns
returns g c =
    let local : Proxying = knowing c.args.rank c.args.marks.now (map g.L.HasLinks.linked c.args.links.now) c.args.homes.now in
    c.of.ensures
    ∙ c.loop-place.invariant
    ∙ ap (λ leaves. map (outer_by c.args.shape local) (filter (λ (leaf : LinkedLeaf). is_merge (known_target local leaf.0) && is_told_to local c.args.to leaf) leaves))
    (taken_all g.L.HasLinks.linked c.args.marks.now.leaves c.leaves-id-items.result.now c.args.links.now c.leaves-id-items.ensures c.requires.aligned
    c.loop-place.place c.loop-place-test.false)
    ∙ ap (map (outer_by c.args.shape local))
    (sym (filter_twice (is_told_to local c.args.to) (λ (leaf : LinkedLeaf). is_merge (known_target local leaf.0)) (linked_leaves local)))
