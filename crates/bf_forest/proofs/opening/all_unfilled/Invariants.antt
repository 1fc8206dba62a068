use Rattle.std.proofs.Common.{◌≡◌, map}
use Rattle.std.specs.List.{range_with_len}
use Rattle.bf_forest.specs.Setup.{case_of}
use Rattle.bf_forest.specs.Opening.{unfilled}
use Rattle.bf_forest.proofs.opening.all_unfilled.Given as goal

abbrev pub invariant-loop-rank : goal.invariant-loop-rank
invariant-loop-rank l = l.locals.items ≡ map (unfilled (case_of l.setup)) (range_with_len 0 l.rank)
