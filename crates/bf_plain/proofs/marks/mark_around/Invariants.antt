use Rattle.bf_case.specs.Map.{ids_of}
use Rattle.bf_plain.proofs.MarkLemmas.{Around}
use Rattle.bf_plain.proofs.marks.mark_around.Given as goal

abbrev pub invariant-loop-step : goal.invariant-loop-step
invariant-loop-step l = Around l.shape (ids_of l.leaves) l.atlas l.finer l.leaf l.fn.marks l.step l.marks
