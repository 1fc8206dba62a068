use Rattle.std.proofs.Common.{◌≡◌, ◌++◌, flat_map, map, take}
use Rattle.bf_proxy_rounds.specs.Calls.{knowing, proxies_by}
use Rattle.bf_proxy_rounds.specs.Plays.{linked_leaves, own_homes}
use Rattle.bf_proxy_rounds.proofs.making.make_all.Given as goal

abbrev pub invariant-loop-place : goal.invariant-loop-place
invariant-loop-place g l =
    let local = knowing l.rank l.marks (map g.L.HasLinks.linked l.links) l.homes in
    l.proxies.items ≡ flat_map (proxies_by l.shape l.rank l.marks (own_homes local ++ l.homes)) (take l.place (linked_leaves local))
