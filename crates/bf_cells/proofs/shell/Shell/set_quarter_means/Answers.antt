-- A quarter of the face's square has the means, and the others stay.
use Rattle.std.proofs.Common.{◌≡◌, ◌∙◌, ℕ, List, ap, subst, length}
use Rattle.bf_cells.specs.Grid.{Grid, grid_with}
use Rattle.bf_cells.specs.Levels.{face_mean, with_quarter}
use Rattle.bf_cells.specs.Shell.{Walls, IsShell, wall_of}
use Rattle.bf_cells.proofs.LevelLemmas.{face_mean_small, IsWall-with_quarter}
use Rattle.bf_cells.proofs.ShellLemmas.{IsLaid, laid}
use Rattle.bf_cells.proofs.WallLemmas.{read_grid}
use Rattle.bf_cells.proofs.shell.Shell.set_quarter_means.Goals as goal

pub mean_quarter-requires-clause-into : goal.mean_quarter-requires-clause-into
mean_quarter-requires-clause-into c = ap length (c.square_mut-square.ensures.value c.self.inside.side) ∙ (c.self.invariant.full c.args.face).full

averaged : (c : goal.After-self-1) → IsLaid c.self.inside c.args.self.now c.args.face c.mean_quarter.new.into
    (with_quarter c.args.self.now.side c.args.half_a c.args.half_b (face_mean c.args.cells.now c.args.of_face) (wall_of c.args.self.now c.args.face))
averaged c =
    let a = c.args in
    let old = a.self.now in
    let g = a.cells.now in
    let was = wall_of old a.face in
    let before = c.square_mut-square.result.now in
    let quarter = λ (s : ℕ) (h : Grid) (l : List ℕ). with_quarter s a.half_a a.half_b (face_mean h a.of_face) l in
    let side : c.self.inside.side ≡ old.side = ap (λ (w : Walls). w.side) c.self.view_is in
    let read = read_grid g c.self.inside.side old.side c.values.result.now c.requires.sides side c.values.ensures.values in
    laid c.self.inside old a.face _ (quarter old.side g was) c.self.view_is c.self.invariant
    (c.mean_quarter.ensures ∙ ap (λ s. quarter s (grid_with c.self.inside.side c.values.result.now) before) side ∙ ap (λ h. quarter old.side h before) read
    ∙ ap (quarter old.side g) (c.square_mut-square.ensures.value c.self.inside.side ∙ ap (λ w. wall_of w a.face) c.self.view_is))
    (IsWall-with_quarter old.side a.half_a a.half_b (face_mean g a.of_face) was (face_mean_small g c.values.ensures.valid a.of_face)
    ((subst IsShell c.self.view_is c.self.invariant).full a.face))

pub invariant_of-self : goal.invariant_of-self
invariant_of-self c = (averaged c).full

pub returns-clause-values : goal.returns-clause-values
returns-clause-values c = (averaged c).is
