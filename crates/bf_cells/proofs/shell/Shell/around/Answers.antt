-- Each square is full.
use Rattle.std.proofs.Common.{◌≡◌, ◌∙◌, ap, length}
use Rattle.bf_face.specs.declared.face.Face.TheVariants.{XLow, XHigh, YLow, YHigh, ZLow, ZHigh}
use Rattle.bf_cells.specs.Shell.{Walls}
use Rattle.bf_cells.proofs.shell.Shell.around.Goals as goal

pub invariant_of-result : goal.invariant_of-result
invariant_of-result c =
    let side : c.self.inside.side ≡ c.args.self.now.side = ap (λ (w : Walls). w.side) c.self.view_is in
    let valid = c.self.invariant in record {
      low = valid.low;
      high = valid.high;
      cells_fit = rw side c.requires;
      x_low_fits = ap length c.as_slice.ensures.value ∙ (valid.full XLow).full;
      x_high_fits = ap length c.as_slice-2.ensures.value ∙ (valid.full XHigh).full;
      y_low_fits = ap length c.as_slice-3.ensures.value ∙ (valid.full YLow).full;
      y_high_fits = ap length c.as_slice-4.ensures.value ∙ (valid.full YHigh).full;
      z_low_fits = ap length c.as_slice-5.ensures.value ∙ (valid.full ZLow).full;
      z_high_fits = ap length c.as_slice-6.ensures.value ∙ (valid.full ZHigh).full;
    }
