use Rattle.bf_plain.specs.Beginning.{Paints}
use Rattle.bf_plain.proofs.BeginningLemmas.{RowBefore}
use Rattle.bf_plain.proofs.beginning.paint_row.Given as goal

abbrev pub invariant-loop-x : goal.invariant-loop-x
invariant-loop-x l = Paints l.case l.fill (RowBefore l.case l.fill l.y l.z l.x) l.fn.leaves l.leaves
