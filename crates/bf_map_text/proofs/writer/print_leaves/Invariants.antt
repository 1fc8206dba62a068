use Rattle.std.proofs.Common.{map, take, flat_map}
use Rattle.bf_case.specs.MapText.{leaf_text}
use Rattle.bf_edge.specs.Sheet.{Prints}
use Rattle.bf_map_text.proofs.writer.print_leaves.Given as goal

abbrev pub invariant-loop-leaf : goal.invariant-loop-leaf
invariant-loop-leaf g l =
    Prints g.W.Sink.written g.W.Sink.faults l.initial.sink l.sink l.initial.sheet l.sheet (flat_map leaf_text (take l.leaf-index (map g.L.AsLeaf.leaf l.leaves)))
