-- A quarter of the face's square has the values, and the others stay.
use Rattle.std.proofs.Common.{All, ◌<◌, ◌^◌, ◌≡◌, ◌*◌, ◌/◌, ◌∙◌, ℕ, List, ap, sym, subst, length}
use Rattle.std.proofs.lemmas.List.Elements.{All-from_get_or}
use Rattle.bf_cells.specs.Levels.{square_at, with_quarter}
use Rattle.bf_cells.specs.Shell.{Walls, IsShell, wall_of, wall_place}
use Rattle.bf_cells.proofs.LevelLemmas.{item_small, IsWall-with_quarter}
use Rattle.bf_cells.proofs.ShellLemmas.{IsLaid, laid}
use Rattle.bf_cells.proofs.shell.Shell.lay_quarter.Goals as goal

pub write_quarter-requires-clause-source : goal.write_quarter-requires-clause-source
write_quarter-requires-clause-source c = c.requires.values ∙ ap (λ (w : Walls). w.side / 2 * (w.side / 2)) (sym c.self.view_is)

pub write_quarter-requires-clause-into : goal.write_quarter-requires-clause-into
write_quarter-requires-clause-into c = ap length (c.square_mut-square.ensures.value c.self.inside.side) ∙ (c.self.invariant.full c.args.face).full

-- the values have 32 bits
small : (c : goal.After-self-1) → All (λ v. v < 2 ^ 32) c.args.values.now
small c = All-from_get_or (λ v. v < 2 ^ 32) c.args.values.now 0 (λ k within. (c.type_inv.values k).fits)

written : (c : goal.After-self-1) → IsLaid c.self.inside c.args.self.now c.args.face c.write_quarter.new.into
    (with_quarter c.args.self.now.side c.args.half_a c.args.half_b (square_at (c.args.self.now.side / 2) c.args.values.now) (wall_of c.args.self.now c.args.face))
written c =
    let a = c.args in
    let old = a.self.now in
    let was = wall_of old a.face in
    let before = c.square_mut-square.result.now in
    let quarter = λ (s : ℕ) (l : List ℕ). with_quarter s a.half_a a.half_b (square_at (s / 2) a.values.now) l in
    let side : c.self.inside.side ≡ old.side = ap (λ (w : Walls). w.side) c.self.view_is in
    laid c.self.inside old a.face _ (quarter old.side was) c.self.view_is c.self.invariant
    (c.write_quarter.ensures ∙ ap (λ s. quarter s before) side
    ∙ ap (quarter old.side) (c.square_mut-square.ensures.value c.self.inside.side ∙ ap (λ w. wall_of w a.face) c.self.view_is))
    (IsWall-with_quarter old.side a.half_a a.half_b (square_at (old.side / 2) a.values.now) was
    (λ x y. item_small a.values.now (small c) (wall_place (old.side / 2) x y))
    ((subst IsShell c.self.view_is c.self.invariant).full a.face))

pub invariant_of-self : goal.invariant_of-self
invariant_of-self c = (written c).full

pub returns-clause-values : goal.returns-clause-values
returns-clause-values c = (written c).is
