use Rattle.std.proofs.Common.{◌≡◌, [], replicate}
use Rattle.bf_forest.proofs.opening.no_parts.Given as goal

abbrev pub invariant-loop : goal.invariant-loop
invariant-loop l = l.parts.items ≡ replicate l.counter []
