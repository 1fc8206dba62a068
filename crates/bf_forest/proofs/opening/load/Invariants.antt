use Rattle.std.proofs.Common.{◌≡◌, map}
use Rattle.bf_forest.proofs.OpeningSteps.{with_blocks}
use Rattle.bf_forest.proofs.opening.load.Given as goal

abbrev pub invariant-loop-local : goal.invariant-loop-local
invariant-loop-local l = l.locals.items ≡ map with_blocks l.yielded
