use Rattle.std.proofs.Common.{◌∙◌, ap}
use Rattle.bf_cells.specs.Grid.{grid_with}
use Rattle.bf_cells.specs.Levels.{mean_values}
use Rattle.bf_cells.proofs.cells.Cells.read_means.Goals as goal

pub returns : goal.returns
returns c =
    c.mean_face.ensures ∙ ap (λ h. mean_values h c.args.face) (ap (grid_with c.self.inside.side) c.as_slice.ensures.value ∙ c.self.view_is)
