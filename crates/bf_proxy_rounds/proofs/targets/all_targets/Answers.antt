use Rattle.std.proofs.Common.{◌≡◌, ◌∙◌, ◌+◌, ◌++◌, [], ap, cond, flat_map, map, sym, take}
use Rattle.bf_id.specs.Id.{child_of, parent_of}
use Rattle.bf_proxy_rounds.specs.Calls.{goals_of, knowing, sibling_by}
use Rattle.bf_proxy_rounds.specs.Plays.{is_merge, known_target, leaf_targets, linked_leaves, own_home, LinkedLeaf, Proxying}
use Rattle.bf_proxy_rounds.proofs.CallLemmas.{flat_next, taken_all, taken_next}
use Rattle.bf_proxy_rounds.proofs.targets.all_targets.Goals as goal

pub loop-place-preserved : goal.loop-place-preserved
loop-place-preserved g c =
    let local : Proxying = knowing c.args.rank c.args.marks.now (map g.L.HasLinks.linked c.args.links.now) [] in
    let i = c.id-item.result in
    let leaf : LinkedLeaf = (i, g.L.HasLinks.linked c.index-links-place.result) in
    let next = taken_next g.L.HasLinks.linked c.args.marks.now.leaves c.leaves-id-items.result.now c.args.links.now c.leaves-id-items.ensures c.requires.aligned
    c.loop-place.place i c.index-links-place.result c.loop-place-test.true c.id-item.is c.index-links-place.is in
    let goes : c.target-target.result ≡ known_target local i = c.target-target.ensures in
    let home : c.own_home-home.result ≡ own_home local leaf =
    c.own_home-home.ensures ∙ (λ k. cond (is_merge (goes k)) (sibling_by c.args.rank (c.links.ensures k) (child_of (parent_of i) 0)) c.args.rank) in
    c.in_ok-add_goals.ensures
    ∙ (λ k. c.loop-place.invariant k ++ goals_of (goes k) i (home k))
    ∙ sym (flat_next (leaf_targets local) (take c.loop-place.place (linked_leaves local)) (take (c.loop-place.place + 1) (linked_leaves local)) leaf next)

pub returns : goal.returns
returns g c =
    let local : Proxying = knowing c.args.rank c.args.marks.now (map g.L.HasLinks.linked c.args.links.now) [] in
    c.loop-place.invariant
    ∙ ap (flat_map (leaf_targets local)) (taken_all g.L.HasLinks.linked c.args.marks.now.leaves c.leaves-id-items.result.now c.args.links.now c.leaves-id-items.ensures c.requires.aligned
    c.loop-place.place c.loop-place-test.false)
