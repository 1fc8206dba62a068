use Rattle.std.proofs.Common.{◌≡◌}
use Rattle.bf_forest.specs.Setup.{case_of}
use Rattle.bf_forest.proofs.StartSteps.{laid_below}
use Rattle.bf_forest.proofs.start.laid.Given as goal

abbrev pub invariant-loop-rank : goal.invariant-loop-rank
invariant-loop-rank l = l.laid ≡ laid_below (case_of l.setup) l.rank
