-- The square of the face is the copied face, and the others stay.
use Rattle.std.proofs.Common.{◌≡◌, ◌∙◌, ap, subst, length}
use Rattle.bf_cells.specs.Shell.{Walls, IsWall, face_values}
use Rattle.bf_cells.proofs.ShellLemmas.{IsLaid, laid}
use Rattle.bf_cells.proofs.WallLemmas.{IsWall-face_values, read_grid}
use Rattle.bf_cells.proofs.shell.Shell.set_wall.Goals as goal

pub copy_face-requires-clause-into : goal.copy_face-requires-clause-into
copy_face-requires-clause-into c = ap length (c.square_mut-square.ensures.value c.self.inside.side) ∙ (c.self.invariant.full c.args.face).full

copied : (c : goal.After-self-1) → IsLaid c.self.inside c.args.self.now c.args.face c.copy_face.new.into (face_values c.args.cells.now c.args.of_face)
copied c =
    let old = c.args.self.now in
    let g = c.args.cells.now in
    let wall = face_values g c.args.of_face in
    let side : c.self.inside.side ≡ old.side = ap (λ (w : Walls). w.side) c.self.view_is in
    laid c.self.inside old c.args.face _ wall c.self.view_is c.self.invariant
    (c.copy_face.ensures ∙ ap (λ h. face_values h c.args.of_face) (read_grid g _ old.side _ c.requires.sides side c.values.ensures.values))
    (subst (λ s. IsWall s wall) c.requires.sides (IsWall-face_values g c.args.of_face c.values.ensures.valid))

pub invariant_of-self : goal.invariant_of-self
invariant_of-self c = (copied c).full

pub returns-clause-values : goal.returns-clause-values
returns-clause-values c = (copied c).is
