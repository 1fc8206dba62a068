-- The square of the face has the value, and the others stay.
use Rattle.std.proofs.Common.{arith, ◌≡◌, ◌*◌, ◌∙◌, ap, subst, length, set}
use Rattle.bf_cells.specs.Shell.{Walls, IsShell, wall_of, wall_place}
use Rattle.bf_cells.proofs.PlaceLemmas.{row_place_below}
use Rattle.bf_cells.proofs.ShellLemmas.{IsLaid, laid}
use Rattle.bf_cells.proofs.WallLemmas.{IsWall-set}
use Rattle.bf_cells.proofs.shell.Shell.put.Goals as goal

pub bounds-square_mut-at : goal.bounds-square_mut-at
bounds-square_mut-at c =
    let s = c.self.inside.side in
    let side : s ≡ c.args.self.now.side = ap (λ (w : Walls). w.side) c.self.view_is in
    let full : length c.square_mut.result.now ≡ s * s = ap length (c.square_mut.ensures.value s) ∙ (c.self.invariant.full c.args.face).full in
    let below = row_place_below s s c.args.a c.args.b (omega (arith, side, c.requires.a_below)) (omega (arith, side, c.requires.b_below)) in
    omega (arith, full, below, c.square_place-at.ensures)

put_in : (c : goal.After-self-1) → IsLaid c.self.inside c.args.self.now c.args.face (set c.square_mut.result.now c.square_place-at.result c.args.value)
    (set (wall_of c.args.self.now c.args.face) (wall_place c.args.self.now.side c.args.a c.args.b) c.args.value)
put_in c =
    let old = c.args.self.now in
    let side : c.self.inside.side ≡ old.side = ap (λ (w : Walls). w.side) c.self.view_is in
    let was = wall_of old c.args.face in
    laid c.self.inside old c.args.face _ (set was (wall_place old.side c.args.a c.args.b) c.args.value) c.self.view_is c.self.invariant
    (ap (λ l. set l c.square_place-at.result c.args.value) (c.square_mut.ensures.value c.self.inside.side ∙ ap (λ w. wall_of w c.args.face) c.self.view_is)
    ∙ ap (λ k. set was k c.args.value) (c.square_place-at.ensures ∙ ap (λ s. wall_place s c.args.a c.args.b) side))
    (IsWall-set old.side was _ c.args.value ((subst IsShell c.self.view_is c.self.invariant).full c.args.face) c.ranges.value.fits)

pub invariant_of-self : goal.invariant_of-self
invariant_of-self c = (put_in c).full

pub returns-clause-values : goal.returns-clause-values
returns-clause-values c = (put_in c).is
