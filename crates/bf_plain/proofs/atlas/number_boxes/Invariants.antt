use Rattle.bf_case.specs.Map.{ids_of}
use Rattle.bf_plain.proofs.AtlasLemmas.{Filled}
use Rattle.bf_plain.proofs.atlas.number_boxes.Given as goal

abbrev pub invariant-loop-number : goal.invariant-loop-number
invariant-loop-number l = Filled l.shape (ids_of l.leaves) l.level l.number l.numbers
