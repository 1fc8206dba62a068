use Rattle.std.proofs.Common.{refl, ap, ◌∙◌, ◌+◌, arith}
use Rattle.bf_cells.specs.Grid.{with_row}
use Rattle.bf_case.proofs.BoxLemmas.{box_of_no_rows, box_and_row}
use Rattle.bf_case.proofs.filling.paint_layer.Goals as goal

pub loop-y-init : goal.loop-y-init
loop-y-init c = record {
  painted = box_of_no_rows c.args.cells.now c.args.region.along_x.from c.args.region.along_x.end c.args.region.along_y.from c.args.z (c.args.z + 1) c.args.value c.requires.grid;
  side = refl;
}

pub loop-y-preserved : goal.loop-y-preserved
loop-y-preserved c =
    let xs = c.args.region.along_x in
    record {
      painted = c.put_row.ensures.cells
          ∙ ap (λ g. with_row g xs.from xs.end c.loop-y.y c.args.z c.args.value) c.loop-y.invariant.painted
          ∙ box_and_row c.args.cells.now xs.from xs.end c.args.region.along_y.from c.loop-y.y c.args.z c.args.value (omega arith);
      side = c.put_row.ensures.side ∙ c.loop-y.invariant.side;
    }
