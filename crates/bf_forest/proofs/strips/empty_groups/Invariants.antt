use Rattle.std.proofs.Common.{◌≡◌, [], map, replicate}
use Rattle.bf_forest.proofs.strips.empty_groups.Given as goal

abbrev pub invariant-loop : goal.invariant-loop
invariant-loop l = map (λ group. group.items) l.groups.items ≡ replicate l.counter []
