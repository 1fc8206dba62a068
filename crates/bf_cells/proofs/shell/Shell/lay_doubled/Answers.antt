-- The square of the face has each value at four places, and the others stay.
use Rattle.std.proofs.Common.{All, ◌<◌, ◌^◌, ◌≡◌, ◌*◌, ◌/◌, ◌∙◌, ap, sym, length}
use Rattle.std.proofs.lemmas.List.Elements.{All-from_get_or}
use Rattle.bf_cells.specs.Levels.{doubled_square}
use Rattle.bf_cells.specs.Shell.{Walls}
use Rattle.bf_cells.proofs.LevelLemmas.{IsWall-doubled_square}
use Rattle.bf_cells.proofs.ShellLemmas.{IsLaid, laid}
use Rattle.bf_cells.proofs.shell.Shell.lay_doubled.Goals as goal

pub double_square-requires-clause-source : goal.double_square-requires-clause-source
double_square-requires-clause-source c = c.requires ∙ ap (λ (w : Walls). w.side / 2 * (w.side / 2)) (sym c.self.view_is)

pub double_square-requires-clause-into : goal.double_square-requires-clause-into
double_square-requires-clause-into c = ap length (c.square_mut-square.ensures.value c.self.inside.side) ∙ (c.self.invariant.full c.args.face).full

-- the values have 32 bits
small : (c : goal.After-self-1) → All (λ v. v < 2 ^ 32) c.args.values.now
small c = All-from_get_or (λ v. v < 2 ^ 32) c.args.values.now 0 (λ k within. (c.type_inv.values k).fits)

doubled : (c : goal.After-self-1)
    → IsLaid c.self.inside c.args.self.now c.args.face c.double_square.new.into (doubled_square c.args.self.now.side c.args.values.now)
doubled c =
    let old = c.args.self.now in
    let side : c.self.inside.side ≡ old.side = ap (λ (w : Walls). w.side) c.self.view_is in
    laid c.self.inside old c.args.face _ (doubled_square old.side c.args.values.now) c.self.view_is c.self.invariant
    (c.double_square.ensures ∙ ap (λ s. doubled_square s c.args.values.now) side) (IsWall-doubled_square old.side c.args.values.now (small c))

pub invariant_of-self : goal.invariant_of-self
invariant_of-self c = (doubled c).full

pub returns-clause-values : goal.returns-clause-values
returns-clause-values c = (doubled c).is
