use Rattle.std.proofs.Common.{◌≡◌, map}
use Rattle.bf_forest.specs.Rounds.{stepped_between}
use Rattle.bf_forest.specs.Setup.{case_of}
use Rattle.bf_forest.proofs.step.all_stepped.Given as goal

abbrev pub invariant-loop-linked : goal.invariant-loop-linked
invariant-loop-linked l = (l.all.items ≡ map (λ pair. stepped_between pair.1.items pair.0) l.yielded) × (l.shell.side ≡ (case_of l.setup).side)
