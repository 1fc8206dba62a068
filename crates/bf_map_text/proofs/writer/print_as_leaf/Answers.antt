use Rattle.std.proofs.Common.{subst}
use Rattle.bf_edge.specs.Sheet.{Prints}
use Rattle.bf_map_text.proofs.LeafTexts.{same_text}
use Rattle.bf_map_text.proofs.writer.print_as_leaf.Goals as goal

pub returns : goal.returns
returns g c =
    subst (Prints g.W.Sink.written g.W.Sink.faults c.args.sink.now c.print_leaf.new.sink c.args.sheet.now c.print_leaf.new.sheet)
    (same_text c.id.result c.cells.result.now (g.L.AsLeaf.leaf c.args.leaf.now) c.id.ensures c.cells.ensures) c.print_leaf.ensures
