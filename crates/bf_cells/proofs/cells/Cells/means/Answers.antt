use Rattle.std.proofs.Common.{◌∙◌, ap}
use Rattle.std.proofs.lemmas.List.{with_items_is}
use Rattle.bf_cells.specs.Grid.{Grid}
use Rattle.bf_cells.proofs.MeanLemmas.{means_by_rows}
use Rattle.bf_cells.proofs.cells.Cells.means.Goals as goal

pub returns : goal.returns
returns c =
    with_items_is c.in_ok-means.means c.mean_all.new.into (c.mean_all.auto.into ∙ c.as_mut_slice.ensures.len)
    ∙ means_by_rows c.args.self.now c.self.inside.side c.as_slice.result.now c.mean_all.new.into (ap (λ (g : Grid). g.side) c.self.view_is)
    (c.as_slice.ensures.value ∙ ap (λ (g : Grid). g.values) c.self.view_is) (c.mean_all.auto.into ∙ c.as_mut_slice.ensures.len ∙ c.in_ok-means.ensures.len)
    c.mean_all.ensures
