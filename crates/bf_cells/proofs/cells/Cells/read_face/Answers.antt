use Rattle.std.proofs.Common.{◌∙◌, ap}
use Rattle.bf_cells.specs.Grid.{grid_with}
use Rattle.bf_cells.specs.Shell.{face_values}
use Rattle.bf_cells.proofs.cells.Cells.read_face.Goals as goal

pub returns : goal.returns
returns c =
    c.copy_face.ensures ∙ ap (λ h. face_values h c.args.face) (ap (grid_with c.self.inside.side) c.as_slice.ensures.value ∙ c.self.view_is)
