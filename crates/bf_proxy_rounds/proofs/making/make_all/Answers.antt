use Rattle.std.proofs.Common.{◌≡◌, ◌∙◌, ◌+◌, ◌++◌, List, ap, flat_map, map, subst, sym, take}
use Rattle.std.specs.Prelude.{AllPairs}
use Rattle.std.proofs.lemmas.List.Elements.{All-contains}
use Rattle.bf_links.specs.Links.{ComesBefore}
use Rattle.bf_links.specs.declared.link.Link.{Link}
use Rattle.bf_proxy_rounds.specs.Calls.{knowing, proxies_by, IsMakable}
use Rattle.bf_proxy_rounds.specs.Plays.{linked_leaves, own_homes, LinkedLeaf, Proxying}
use Rattle.bf_proxy_rounds.proofs.CallLemmas.{flat_next, homes_rise, taken_all, taken_among, taken_next}
use Rattle.bf_proxy_rounds.proofs.making.make_all.Goals as goal

pub make_of-requires-clause-own : goal.make_of-requires-clause-own
make_of-requires-clause-own g c =
    let local : Proxying = knowing c.args.rank c.args.marks.now (map g.L.HasLinks.linked c.args.links.now) c.args.homes.now in
    let own : c.as_slice.result.now ≡ own_homes local = c.as_slice.ensures ∙ c.in_ok-own.ensures in
    subst (AllPairs ComesBefore) (sym own) (homes_rise local c.requires.known.rising)

pub make_of-requires-clause-makable : goal.make_of-requires-clause-makable
make_of-requires-clause-makable g c =
    let local : Proxying = knowing c.args.rank c.args.marks.now (map g.L.HasLinks.linked c.args.links.now) c.args.homes.now in
    let own : c.as_slice.result.now ≡ own_homes local = c.as_slice.ensures ∙ c.in_ok-own.ensures in
    let i = c.id-item.result in
    let among = taken_among g.L.HasLinks.linked c.args.marks.now.leaves c.leaves-id-items.result.now c.args.links.now c.leaves-id-items.ensures c.requires.aligned
    c.loop-place.place i c.index-links-place.result c.loop-place-test.true c.id-item.is c.index-links-place.is in
    subst (λ (homes : List Link). IsMakable c.args.shape c.args.rank c.args.marks.now (homes ++ c.args.homes.now) (i, c.links-beside.result.now)) (sym own)
    (subst (λ (ls : List Link). IsMakable c.args.shape c.args.rank c.args.marks.now (own_homes local ++ c.args.homes.now) (i, ls)) (sym c.links-beside.ensures)
    (All-contains (IsMakable c.args.shape c.args.rank c.args.marks.now (own_homes local ++ c.args.homes.now)) (linked_leaves local) (i, g.L.HasLinks.linked c.index-links-place.result)
    c.requires.known.leaves among))

pub loop-place-preserved : goal.loop-place-preserved
loop-place-preserved g c =
    let local : Proxying = knowing c.args.rank c.args.marks.now (map g.L.HasLinks.linked c.args.links.now) c.args.homes.now in
    let own : c.as_slice.result.now ≡ own_homes local = c.as_slice.ensures ∙ c.in_ok-own.ensures in
    let i = c.id-item.result in
    let leaf : LinkedLeaf = (i, g.L.HasLinks.linked c.index-links-place.result) in
    let next = taken_next g.L.HasLinks.linked c.args.marks.now.leaves c.leaves-id-items.result.now c.args.links.now c.leaves-id-items.ensures c.requires.aligned
    c.loop-place.place i c.index-links-place.result c.loop-place-test.true c.id-item.is c.index-links-place.is in
    let made : c.in_ok-made.made.items ≡ proxies_by c.args.shape c.args.rank c.args.marks.now (own_homes local ++ c.args.homes.now) leaf =
    c.in_ok-made.ensures ∙ (λ k. proxies_by c.args.shape c.args.rank c.args.marks.now (own k ++ c.args.homes.now) (i, c.links-beside.ensures k)) in
    c.in_ok-append.ensures.items
    ∙ (λ k. c.loop-place.invariant k ++ made k)
    ∙ sym (flat_next (proxies_by c.args.shape c.args.rank c.args.marks.now (own_homes local ++ c.args.homes.now)) (take c.loop-place.place (linked_leaves local))
    (take (c.loop-place.place + 1) (linked_leaves local)) leaf next)

pub returns : goal.returns
returns g c =
    let local : Proxying = knowing c.args.rank c.args.marks.now (map g.L.HasLinks.linked c.args.links.now) c.args.homes.now in
    c.loop-place.invariant
    ∙ ap (flat_map (proxies_by c.args.shape c.args.rank c.args.marks.now (own_homes local ++ c.args.homes.now)))
    (taken_all g.L.HasLinks.linked c.args.marks.now.leaves c.leaves-id-items.result.now c.args.links.now c.leaves-id-items.ensures c.requires.aligned
    c.loop-place.place c.loop-place-test.false)
