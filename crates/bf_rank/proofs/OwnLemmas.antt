-- What a rank has is what it owns by the journal.
use Rattle.std.proofs.Common.{◌≡◌, ◌≢◌, ℕ, ◌<◌, true, false, List, refl, sym, subst, ◌∙◌, ap}
use Rattle.std.specs.Prelude.{◌==◌, Option, Some, None, is_some, if◌then◌else◌}
use Rattle.std.specs.Option.{option_map}
use Rattle.std.proofs.lemmas.Bool.{eq-eqb, both_ways}
use Rattle.bf_buddy.specs.Members.{is_member}
use Rattle.bf_program.specs.declared.epoch.Epoch.{Epoch}
use Rattle.bf_program.specs.Meanings.{Meanings, Regions}
use Rattle.bf_program.specs.Laws.{Laws, times}
use Rattle.bf_program.specs.Lockstep.{local_of}
use Rattle.bf_core.specs.declared.event.How.TheVariants.{Done, Broken, Memory}
use Rattle.bf_core.specs.declared.outcome.Outcome.{Outcome}
use Rattle.bf_core.specs.declared.outcome.Outcome.TheVariants.{Finished}
use Rattle.bf_core.specs.declared.place.Place.{Place}
use Rattle.bf_core.specs.declared.place.Place.TheVariants.{Rounds, Past}
use Rattle.bf_core.specs.declared.standing.Stage.{Stage}
use Rattle.bf_core.specs.declared.standing.Stage.TheVariants.{Running, Arrived, Leaving, Ended, Dead, Gone}
use Rattle.bf_core.specs.Stages.{is_leaving, is_short, goes_on}
use Rattle.bf_core.specs.States.{stage}
use Rattle.bf_core.proofs.SoundLemmas.{leaving_stage}
use Rattle.bf_world.specs.Course.{local_in_round, local_at_place}
use Rattle.bf_world.specs.Runs.{Run, place, run_after}
use Rattle.bf_world.specs.Worlds.{View, IsView}
use Rattle.bf_world.proofs.LawfulLemmas.{IsLawful, after_lawful}
use Rattle.bf_world.proofs.ResultLemmas.{after_result}
use Rattle.bf_owners.specs.Owners.{local_left, local_by, boxes_of, held}
use Rattle.bf_owners.proofs.KeptLemmas.{after_kept, register}
use Rattle.bf_owners.proofs.LedgerLemmas.{weight_with}
use Rattle.bf_owners.proofs.OwnerLemmas.{local_times, boxes_weigh, held_weighs, left_weighs, begins_with}
use Rattle.bf_rank.specs.declared.stand.Stand.{Stand}
use Rattle.bf_rank.specs.declared.stand.Stand.TheVariants as stands
use Rattle.bf_rank.proofs.ArriveLemmas.{arrived_has}
use Rattle.bf_rank.specs.Ranks.{RankView, sight, IsLocalAt, HasFinished, HasLocal, WillBegin, HasArrived, Agrees, IsAt}

module _ {S L M T R : Type 0} (m : Meanings S L M T R) (good : S → Epoch → ℕ → List L → Type 0) (setup : S) (run : Run L T) (rank : ℕ) where
  -- where a rank's local is the lockstep's, the lockstep's is that
  local_of_place : (at : Place) (local : L) → IsLocalAt m good setup (sight run rank) rank at local
      → local_at_place m setup run.core.epoch run.start rank at ≡ Some local
  unfolding local_at_place
  local_of_place Past local here = here.its ∙ ap Some (sym here.here)
  local_of_place (Rounds round sent received peers) local here =
      ap (option_map (local_in_round m setup run.core.epoch run.start rank round sent received peers)) here.its ∙ ap Some (sym here.here)

module _ {S L M T R : Type 0} (m : Meanings S L M T R) (good : S → Epoch → ℕ → List L → Type 0) (setup : S) (run : Run L T) (view : RankView L) where
  -- what the account of a rank says that must leave
  leaving_local : (stand : Stand) → stage run.core view.rank ≡ Leaving → Agrees m good setup (sight run view.rank) view stand
      → HasLocal m good setup (sight run view.rank) view Leaving
  leaving_local stands.Opening leaves agrees = absurd (let both : Leaving ≡ Running = sym leaves ∙ agrees.0 in cc)
  leaving_local (stands.Placed at) leaves agrees = absurd (let both : Leaving ≡ Running = sym leaves ∙ agrees.0 in cc)
  leaving_local stands.Failed leaves agrees = absurd (let both : Leaving ≡ Running = sym leaves ∙ agrees.0 in cc)
  leaving_local stands.Ended leaves agrees = absurd (let both : true ≡ false = sym (ap goes_on leaves) ∙ agrees in cc)
  leaving_local stands.Arrived leaves agrees = let P : Stage → Type 0 = HasLocal m good setup (sight run view.rank) view in subst P leaves agrees

module _ {S L M T R B U : Type 0} (m : Meanings S L M T R) (regions : Regions S L M T R B U) (good : S → Epoch → ℕ → List L → Type 0) (setup : S)
    (laws : Laws m regions good setup) (unit : U) (run : Run L T) (lawful : IsLawful m good setup laws.goods laws.stores run) (view : RankView L) where
  -- a rank's local holds of the unit what that holds which the journal tells for its stage
  abbrev HoldsTold : Stage → Type 0
  HoldsTold s = weight_with (local_times m regions unit) view.local ≡ weight_with (local_times m regions unit) (local_by m setup run view.rank s)

  -- whoever has arrived has that local, or for want of memory none
  arrived_holds : (s : Stage) → HasArrived m good setup (sight run view.rank) view s → HoldsTold s
  arrived_holds (Arrived Done filled) (local, (its, has)) =
      ap (weight_with (local_times m regions unit)) (its ∙ sym (ap (option_map (local_left m setup run)) has.its ∙ ap Some (sym has.here)))
  arrived_holds (Arrived Broken filled) (local, (its, here)) =
      ap (weight_with (local_times m regions unit)) (its ∙ sym (local_of_place m good setup run view.rank (place run view.rank) local here))
  arrived_holds (Arrived Memory filled) none = ap (weight_with (local_times m regions unit)) none
  arrived_holds Running has = absurd has
  arrived_holds Leaving has = absurd has
  arrived_holds Ended has = absurd has
  arrived_holds Dead has = absurd has
  arrived_holds Gone has = absurd has

  -- so has each rank in its rounds that has not failed, or at its opening one with the same pieces
  stand_holds : (stand : Stand) → ((y : ℕ) → is_member run.core.epoch.members y ≡ true → y < m.ranks setup)
      → goes_on (stage run.core view.rank) ≡ true → is_leaving (stage run.core view.rank) ≡ false
      → (stand ≡ stands.Failed → ⊥) → Agrees m good setup (sight run view.rank) view stand → HoldsTold (stage run.core view.rank)
  stand_holds stands.Opening below goes stays unfailed agrees =
      subst HoldsTold (sym agrees.0)
      (ap (weight_with (local_times m regions unit)) (agrees.1.1.1.1.0 ∙ sym agrees.1.1.1.1.1)
      ∙ begins_with m regions good setup laws unit run lawful below view.rank agrees.1.1.0)
  stand_holds (stands.Placed at) below goes stays unfailed agrees =
      subst HoldsTold (sym agrees.0)
      (ap (weight_with (local_times m regions unit))
      (agrees.1.1.1.1.0 ∙ sym (ap (local_at_place m setup run.core.epoch run.start view.rank) agrees.1.1.0
      ∙ local_of_place m good setup run view.rank at agrees.1.1.1.0 agrees.1.1.1.1.1)))
  stand_holds stands.Failed below goes stays unfailed agrees = absurd (unfailed refl)
  stand_holds stands.Ended below goes stays unfailed agrees = absurd (both_ways (goes_on (stage run.core view.rank)) agrees goes)
  stand_holds stands.Arrived below goes stays unfailed agrees =
      arrived_holds (stage run.core view.rank) (arrived_has m good setup (sight run view.rank) view (stage run.core view.rank) stays agrees)

  -- who must leave into an epoch that a commit began has a local with the pieces of that with which it begins
  leaving_holds : (stand : Stand) → stage run.core view.rank ≡ Leaving → run.core.outcome ≡ None → run.core.epoch.restored ≡ false
      → Agrees m good setup (sight run view.rank) view stand → HoldsTold (stage run.core view.rank)
  leaving_holds stand leaves none commits agrees =
      let mine : (local : L) × ((view.local ≡ Some local) × WillBegin m good setup run.core.epoch.restored (sight run view.rank) view.rank local) =
      ((leaving_local m good setup run view stand leaves agrees).0 none).1 in
      let will : local_of run.core.epoch.members run.start view.rank ≡ Some (m.keep mine.0) =
      subst (λ b. WillBegin m good setup b (sight run view.rank) view.rank mine.0) commits mine.1.1 in
      subst HoldsTold (sym leaves)
      (ap (weight_with (local_times m regions unit)) mine.1.0
      ∙ sym (laws.pieces.keep mine.0 unit)
      ∙ sym (ap (λ (o : Option Outcome). weight_with (local_times m regions unit) (if is_some o then None else local_of run.core.epoch.members run.start view.rank)) none
      ∙ ap (weight_with (local_times m regions unit)) will))

module _ {S L M T R B U : Type 0} (m : Meanings S L M T R) (regions : Regions S L M T R B U) (good : S → Epoch → ℕ → List L → Type 0) (world : View S M T)
    (laws : Laws m regions good world.setup) (seen : IsView m world) (view : RankView L) (at : IsAt m good world.setup world.journal view) (unit : U) where
  -- the run that the journal tells
  abbrev told : Run L T
  told = run_after m world.setup world.journal

  lawful : IsLawful m good world.setup laws.goods laws.stores told
  lawful = after_lawful m good world.setup laws.goods laws.stores laws.limits world.journal seen.legal

  -- a rank's local holds of a unit what it owns of it by the journal
  abbrev HasOwn : Type 0
  HasOwn = times regions (boxes_of regions view.local) unit ≡ times regions (held m regions world view.rank) unit

  own : HoldsTold m regions good world.setup laws unit told lawful view (stage told.core view.rank) → HasOwn
  own holds = boxes_weigh m regions unit view.local ∙ holds ∙ sym (held_weighs m regions unit world view.rank)

  pub staying_has_own : goes_on (stage told.core view.rank) ≡ true → is_leaving (stage told.core view.rank) ≡ false
      → view.stand ≢ stands.Failed → HasOwn
  staying_has_own goes stays unfailed =
      own (stand_holds m regions good world.setup laws unit told lawful view view.stand
      (register m good world.setup laws.goods laws.stores told lawful
      (after_result m good world.setup laws.goods laws.stores laws.limits world.journal seen.legal)
      (after_kept m good world.setup laws.goods laws.stores laws.limits world.journal seen.legal)).below
      goes stays unfailed at.agrees)

  pub leaving_has_own : is_leaving (stage told.core view.rank) ≡ true → told.core.outcome ≡ None → told.core.epoch.restored ≡ false → HasOwn
  leaving_has_own leaves none commits =
      own (leaving_holds m regions good world.setup laws unit told lawful view view.stand (leaving_stage told.core view.rank leaves) none commits at.agrees)

  -- who must leave a finished run has given all that it had
  pub finished_has_nothing : is_leaving (stage told.core view.rank) ≡ true → told.core.outcome ≡ Some Finished → times regions (boxes_of regions view.local) unit ≡ 0
  finished_has_nothing leaves ends =
      let mine : (local : L) × ((view.local ≡ Some local) × HasFinished m good world.setup (sight told view.rank) view.rank local) =
      (leaving_local m good world.setup told view view.stand (leaving_stage told.core view.rank leaves) at.agrees).1 ends in
      let last : (told.core.epoch.target == told.core.steps) ≡ true =
      eq-eqb told.core.epoch.target told.core.steps
      ((after_result m good world.setup laws.goods laws.stores laws.limits world.journal seen.legal).at_end ends) in
      boxes_weigh m regions unit view.local
      ∙ ap (weight_with (local_times m regions unit))
      (mine.1.0 ∙ ap Some (mine.1.1.here ∙ ap (λ b. if b then (m.parcel mine.1.1.last).0 else mine.1.1.last) last)
      ∙ sym (ap (option_map (λ local. (m.parcel local).0)) mine.1.1.its))
      ∙ left_weighs m regions good world.setup laws unit told lawful view.rank
