use Rattle.std.proofs.Common.{◌+◌, ◌*◌, arith}
use Rattle.std.specs.Prelude.{slice_range}
use Rattle.std.specs.List.{range_with_len}
use Rattle.std.proofs.lemmas.List.FromFn.{length-range_with_len}
use Rattle.bf_case.specs.MapText.{row_text, grid_text}
use Rattle.bf_edge.proofs.SheetLemmas.{prints_none, prints_item, prints_items}
use Rattle.bf_map_text.proofs.LeafTexts.{number_below, number_at}
use Rattle.bf_map_text.proofs.writer.print_rows.Goals as goal

pub loop-row-init : goal.loop-row-init
loop-row-init g c = prints_none g.W.Sink.written g.W.Sink.faults c.args.sink.now c.args.sheet.now

pub loop-row-preserved : goal.loop-row-preserved
loop-row-preserved g c =
    prints_item (λ k. row_text (slice_range c.args.values.now (c.args.side * k) (c.args.side * k + c.args.side)))
    (range_with_len 0 (c.args.side * c.args.side)) c.loop-row.row 0 c.loop-row.row
    (number_below _ _ c.loop-row-test.true) (number_at _ _ c.loop-row-test.true) c.loop-row.invariant c.print_row.ensures

pub returns : goal.returns
unfolding grid_text
returns g c =
    prints_items (λ k. row_text (slice_range c.args.values.now (c.args.side * k) (c.args.side * k + c.args.side)))
    (range_with_len 0 (c.args.side * c.args.side)) c.loop-row.row
    (omega (arith, length-range_with_len 0 (c.args.side * c.args.side))) c.loop-row.invariant
