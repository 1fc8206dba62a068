use Rattle.std.proofs.Common.{refl, sym, ap, subst, ◌∙◌, ◌+◌, arith}
use Rattle.bf_cells.specs.Grid.{Grid, IsGrid}
use Rattle.bf_case.specs.Filling.{with_box}
use Rattle.bf_case.proofs.BoxLemmas.{side-with_box, IsGrid-with_box, box_of_no_layers, box_and_layer}
use Rattle.bf_case.proofs.filling.paint_region.Goals as goal

pub loop-z-init : goal.loop-z-init
loop-z-init c =
    let region = c.args.region in
    record {
      painted = box_of_no_layers c.args.cells.now region.along_x.from region.along_x.end region.along_y.from region.along_y.end region.along_z.from c.args.value c.requires.grid;
      side = refl;
      grid = c.requires.grid;
    }

pub loop-z-preserved : goal.loop-z-preserved
loop-z-preserved c =
    let xs = c.args.region.along_x in
    let ys = c.args.region.along_y in
    let z = c.loop-z.z in
    record {
      painted = c.paint_layer.ensures
          ∙ ap (λ g. with_box g xs.from xs.end ys.from ys.end z (z + 1) c.args.value) c.loop-z.invariant.painted
          ∙ box_and_layer c.args.cells.now xs.from xs.end ys.from ys.end c.args.region.along_z.from z c.args.value (omega arith);
      side = ap (λ (g : Grid). g.side) c.paint_layer.ensures
          ∙ side-with_box c.loop-z.cells xs.from xs.end ys.from ys.end z (z + 1) c.args.value ∙ c.loop-z.invariant.side;
      grid = subst IsGrid (sym c.paint_layer.ensures)
          (IsGrid-with_box c.loop-z.cells xs.from xs.end ys.from ys.end z (z + 1) c.args.value c.loop-z.invariant.grid c.ranges.value.fits);
    }
