use Rattle.bf_plain.specs.Beginning.{Paints}
use Rattle.bf_plain.proofs.BeginningLemmas.{FillBefore}
use Rattle.bf_plain.proofs.beginning.paint_fill.Given as goal

abbrev pub invariant-loop-z : goal.invariant-loop-z
invariant-loop-z l = Paints l.case l.fill (FillBefore l.case l.fill l.z) l.fn.leaves l.leaves
