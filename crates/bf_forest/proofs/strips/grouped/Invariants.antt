use Rattle.std.proofs.Common.{◌≡◌, map}
use Rattle.bf_forest.specs.Ready.{groups_of}
use Rattle.bf_forest.proofs.strips.grouped.Given as goal

abbrev pub invariant-loop-strip : goal.invariant-loop-strip
invariant-loop-strip l = map (λ group. group.items) l.groups.items ≡ groups_of l.yielded l.blocks
