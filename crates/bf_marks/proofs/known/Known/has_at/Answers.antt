use Rattle.std.proofs.Common.{◌≡◌, refl, subst, sym}
use Rattle.std.specs.Prelude.{Some, slice_get}
use Rattle.bf_id.specs.Id.{BlockId}
use Rattle.bf_case.specs.Refinement.{is_among}
use Rattle.bf_marks.specs.Marks.{MarksValue, flagged_in}
use Rattle.bf_marks.specs.declared.flag.Flag.{Flag}
use Rattle.bf_marks.proofs.KnownLemmas.{flag_there}
use Rattle.bf_marks.proofs.known.Known.has_at.Goals as goal

pub returns-in-Refined : goal.returns-in-Refined
returns-in-Refined c =
    let k = c.self.inside in
    let m = c.args.self.now in
    subst (λ (flag : Flag). (i : BlockId) → slice_get m.leaves c.args.place ≡ Some i → c.index.result.now ≡ is_among (flagged_in flag m).own i) (sym c.in-Refined.is)
    (flag_there k m (λ (m : MarksValue). m.refined.own) k.refined.own.items c.args.place c.index.result.now c.self.view_is c.self.invariant refl c.self.invariant.refined c.requires c.index.ensures)

pub returns-in-May : goal.returns-in-May
returns-in-May c =
    let k = c.self.inside in
    let m = c.args.self.now in
    subst (λ (flag : Flag). (i : BlockId) → slice_get m.leaves c.args.place ≡ Some i → c.index-in-May.result.now ≡ is_among (flagged_in flag m).own i) (sym c.in-May.is)
    (flag_there k m (λ (m : MarksValue). m.may.own) k.may.own.items c.args.place c.index-in-May.result.now c.self.view_is c.self.invariant refl c.self.invariant.may c.requires c.index-in-May.ensures)

pub returns-in-Merges : goal.returns-in-Merges
returns-in-Merges c =
    let k = c.self.inside in
    let m = c.args.self.now in
    subst (λ (flag : Flag). (i : BlockId) → slice_get m.leaves c.args.place ≡ Some i → c.index-in-Merges.result.now ≡ is_among (flagged_in flag m).own i) (sym c.in-Merges.is)
    (flag_there k m (λ (m : MarksValue). m.merging.own) k.merging.own.items c.args.place c.index-in-Merges.result.now c.self.view_is c.self.invariant refl c.self.invariant.merging c.requires c.index-in-Merges.ensures)
