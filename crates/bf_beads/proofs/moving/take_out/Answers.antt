use Rattle.std.proofs.Common.{◌≡◌, false, List, sym, ap, ◌∙◌}
use Rattle.std.specs.Prelude.{◌==◌}
use Rattle.std.specs.List.{list_any}
use Rattle.bf_beads.specs.declared.bead.Bead.{Bead}
use Rattle.bf_beads.specs.Rounds.{goes_to}
use Rattle.bf_beads.proofs.MovingSteps.{none_goes, all_stay}
use Rattle.bf_beads.proofs.moving.take_out.Goals as goal

pub returns-then-not-any_goes-clause-going : goal.returns-then-not-any_goes-clause-going
returns-then-not-any_goes-clause-going c =
    let none : list_any (λ (bead : Bead). goes_to c.args.members c.args.time bead.number c.args.local.now.rank == c.args.to) c.args.local.now.beads ≡ false =
    ap (λ (beads : List Bead). list_any (λ (bead : Bead). goes_to c.args.members c.args.time bead.number c.args.local.now.rank == c.args.to) beads) (sym c.as_slice.ensures) ∙ sym c.if-not-any_goes.ensures in
    c.new.ensures ∙ sym (none_goes (λ (bead : Bead). goes_to c.args.members c.args.time bead.number c.args.local.now.rank == c.args.to) c.args.local.now.beads none)

pub returns-then-not-any_goes-clause-staying : goal.returns-then-not-any_goes-clause-staying
returns-then-not-any_goes-clause-staying c =
    let none : list_any (λ (bead : Bead). goes_to c.args.members c.args.time bead.number c.args.local.now.rank == c.args.to) c.args.local.now.beads ≡ false =
    ap (λ (beads : List Bead). list_any (λ (bead : Bead). goes_to c.args.members c.args.time bead.number c.args.local.now.rank == c.args.to) beads) (sym c.as_slice.ensures) ∙ sym c.if-not-any_goes.ensures in
    ap (λ (beads : List Bead). record c.args.local.now { beads = beads })
    (sym (all_stay (λ (bead : Bead). goes_to c.args.members c.args.time bead.number c.args.local.now.rank == c.args.to) c.args.local.now.beads none))
