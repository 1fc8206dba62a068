use Rattle.bf_case.specs.Map.{ids_of}
use Rattle.bf_plain.proofs.MarkLemmas.{ReachedBy}
use Rattle.bf_plain.proofs.marks.mark_reached.Given as goal

abbrev pub invariant-loop-leaf : goal.invariant-loop-leaf
invariant-loop-leaf l = ReachedBy l.shape (ids_of l.leaves) l.finer l.leaf l.fn.marks l.sources l.marks
