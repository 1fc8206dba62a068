use Rattle.std.proofs.Common.{◌≡◌}
use Rattle.bf_forest.specs.Setup.{case_of}
use Rattle.bf_forest.proofs.OpeningSteps.{parts_below}
use Rattle.bf_forest.proofs.opening.first_parts.Given as goal

abbrev pub invariant-loop-root : goal.invariant-loop-root
invariant-loop-root l = l.parts.items ≡ parts_below (case_of l.setup) l.root
