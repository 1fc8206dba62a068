use Rattle.std.proofs.Common.{map, arith}
use Rattle.std.proofs.lemmas.List.{length-map}
use Rattle.bf_case.specs.MapText.{leaf_text}
use Rattle.bf_edge.proofs.SheetLemmas.{prints_none, prints_item, prints_items}
use Rattle.bf_map_text.proofs.LeafTexts.{leaf_below, leaf_read}
use Rattle.bf_map_text.proofs.writer.print_leaves.Goals as goal

pub loop-leaf-init : goal.loop-leaf-init
loop-leaf-init g c = prints_none g.W.Sink.written g.W.Sink.faults c.args.sink.now c.args.sheet.now

pub loop-leaf-preserved : goal.loop-leaf-preserved
loop-leaf-preserved g c =
    let leaf = g.L.AsLeaf.leaf in
    let item = c.leaf-item.result in
    prints_item leaf_text (map leaf c.args.leaves.now) c.loop-leaf.leaf-index (leaf item) (leaf item)
    (leaf_below leaf c.args.leaves.now c.loop-leaf.leaf-index c.loop-leaf-test.true)
    (leaf_read leaf c.args.leaves.now c.loop-leaf.leaf-index item c.loop-leaf-test.true c.leaf-item.is)
    c.loop-leaf.invariant c.print_as_leaf.ensures

pub returns : goal.returns
returns g c =
    let leaf = g.L.AsLeaf.leaf in
    prints_items leaf_text (map leaf c.args.leaves.now) c.loop-leaf.leaf-index
    (omega (arith, length-map c.args.leaves.now leaf, c.loop-leaf-test.false)) c.loop-leaf.invariant
