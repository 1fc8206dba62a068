-- The square of the face has the values, and the others stay.
use Rattle.std.proofs.Common.{All, ◌<◌, ◌^◌, ◌≡◌, ◌*◌, ◌∙◌, ap, sym, length}
use Rattle.std.proofs.lemmas.List.Elements.{All-from_get_or}
use Rattle.bf_cells.specs.Shell.{Walls}
use Rattle.bf_cells.proofs.ShellLemmas.{IsLaid, laid}
use Rattle.bf_cells.proofs.shell.Shell.lay.Goals as goal

pub copy_from_slice-requires : goal.copy_from_slice-requires
copy_from_slice-requires c =
    let side : c.self.inside.side ≡ c.args.self.now.side = ap (λ (w : Walls). w.side) c.self.view_is in
    ap length (c.square_mut-square.ensures.value c.self.inside.side) ∙ (c.self.invariant.full c.args.face).full ∙ ap (λ s. s * s) side ∙ sym c.requires

-- the values have 32 bits
small : (c : goal.After-self-1) → All (λ v. v < 2 ^ 32) c.args.values.now
small c = All-from_get_or (λ v. v < 2 ^ 32) c.args.values.now 0 (λ k within. (c.type_inv.values k).fits)

copied : (c : goal.After-self-1) → IsLaid c.self.inside c.args.self.now c.args.face c.copy_from_slice.new.self c.args.values.now
copied c =
    laid c.self.inside c.args.self.now c.args.face _ c.args.values.now c.self.view_is c.self.invariant c.copy_from_slice.ensures.after
    (record { full = c.requires; small = small c })

pub invariant_of-self : goal.invariant_of-self
invariant_of-self c = (copied c).full

pub returns-clause-values : goal.returns-clause-values
returns-clause-values c = (copied c).is
