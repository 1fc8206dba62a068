use Rattle.std.proofs.Common.{◌≡◌, map}
use Rattle.std.specs.List.{range_with_len}
use Rattle.bf_case.specs.Case.{first_rank_of}
use Rattle.bf_forest.specs.Setup.{case_of}
use Rattle.bf_forest.proofs.opening.first_owners.Given as goal

abbrev pub invariant-loop-root : goal.invariant-loop-root
invariant-loop-root l = l.owners.items ≡ map (first_rank_of (case_of l.setup)) (range_with_len 0 l.root)
