use Rattle.bf_plain.specs.Beginning.{Paints}
use Rattle.bf_plain.proofs.BeginningLemmas.{LayerBefore}
use Rattle.bf_plain.proofs.beginning.paint_layer.Given as goal

abbrev pub invariant-loop-y : goal.invariant-loop-y
invariant-loop-y l = Paints l.case l.fill (LayerBefore l.case l.fill l.z l.y) l.fn.leaves l.leaves
