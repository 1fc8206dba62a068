use Rattle.std.proofs.Common.{◌∙◌, ap}
use Rattle.bf_cells.specs.Grid.{grid_with}
use Rattle.bf_cells.specs.Levels.{quarter_values}
use Rattle.bf_cells.proofs.cells.Cells.read_quarter.Goals as goal

pub returns : goal.returns
returns c =
    c.copy_quarter.ensures
    ∙ ap (λ h. quarter_values h c.args.face c.args.half_a c.args.half_b) (ap (grid_with c.self.inside.side) c.as_slice.ensures.value ∙ c.self.view_is)
