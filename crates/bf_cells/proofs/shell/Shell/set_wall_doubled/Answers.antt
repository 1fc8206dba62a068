-- The square of the face is the doubled quarter, and the others stay.
use Rattle.std.proofs.Common.{◌≡◌, ◌∙◌, ap, subst, length}
use Rattle.bf_cells.specs.Levels.{doubled_face}
use Rattle.bf_cells.specs.Shell.{Walls, IsWall}
use Rattle.bf_cells.proofs.LevelLemmas.{IsWall-doubled_face}
use Rattle.bf_cells.proofs.ShellLemmas.{IsLaid, laid}
use Rattle.bf_cells.proofs.WallLemmas.{read_grid}
use Rattle.bf_cells.proofs.shell.Shell.set_wall_doubled.Goals as goal

pub double_face-requires-clause-into : goal.double_face-requires-clause-into
double_face-requires-clause-into c = ap length (c.square_mut-square.ensures.value c.self.inside.side) ∙ (c.self.invariant.full c.args.face).full

doubled : (c : goal.After-self-1)
    → IsLaid c.self.inside c.args.self.now c.args.face c.double_face.new.into (doubled_face c.args.cells.now c.args.of_face c.args.half_a c.args.half_b)
doubled c =
    let a = c.args in
    let old = a.self.now in
    let g = a.cells.now in
    let wall = doubled_face g a.of_face a.half_a a.half_b in
    let side : c.self.inside.side ≡ old.side = ap (λ (w : Walls). w.side) c.self.view_is in
    laid c.self.inside old a.face _ wall c.self.view_is c.self.invariant
    (c.double_face.ensures ∙ ap (λ h. doubled_face h a.of_face a.half_a a.half_b) (read_grid g _ old.side _ c.requires.sides side c.values.ensures.values))
    (subst (λ s. IsWall s wall) c.requires.sides (IsWall-doubled_face g a.of_face a.half_a a.half_b c.values.ensures.valid))

pub invariant_of-self : goal.invariant_of-self
invariant_of-self c = (doubled c).full

pub returns-clause-values : goal.returns-clause-values
returns-clause-values c = (doubled c).is
