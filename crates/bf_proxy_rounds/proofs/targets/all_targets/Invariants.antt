use Rattle.std.proofs.Common.{◌≡◌, [], flat_map, map, take}
use Rattle.bf_proxy_rounds.specs.Calls.{knowing}
use Rattle.bf_proxy_rounds.specs.Plays.{leaf_targets, linked_leaves}
use Rattle.bf_proxy_rounds.proofs.targets.all_targets.Given as goal

abbrev pub invariant-loop-place : goal.invariant-loop-place
invariant-loop-place g l =
    let local = knowing l.rank l.marks (map g.L.HasLinks.linked l.links) [] in
    l.goals.items ≡ flat_map (leaf_targets local) (take l.place (linked_leaves local))
