use Rattle.std.proofs.Common.{◌≡◌, false}
use Rattle.bf_forest.specs.Setup.{case_of}
use Rattle.bf_forest.proofs.StartSteps.{has_below}
use Rattle.bf_forest.proofs.start.has_root.Given as goal

abbrev pub invariant-loop-root : goal.invariant-loop-root
invariant-loop-root l = has_below (case_of l.setup) l.rank l.root ≡ false
