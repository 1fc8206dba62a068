use Rattle.std.proofs.Common.{◌≡◌, [], map}
use Rattle.std.specs.List.{range_with_len}
use Rattle.bf_plain.proofs.BeginningLemmas.{root_after}
use Rattle.bf_plain.proofs.beginning.blank_roots.Given as goal

abbrev pub invariant-loop-root : goal.invariant-loop-root
invariant-loop-root l = l.leaves.items ≡ map (root_after l.case []) (range_with_len 0 l.root)
