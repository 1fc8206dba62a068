-- What a rank's account gives for its arrivals, its leaves and its waiting.
use Rattle.std.proofs.Common.{◌≡◌, ℕ, Bool, true, false, cond, ◌&&◌, not, List, [], ◌∷◌, length, nat_lt, refl, sym, ◌∙◌, ap}
use Rattle.std.specs.Prelude.{◌==◌, Option, Some, None, slice_get, if◌then◌else◌}
use Rattle.std.proofs.lemmas.Bool.{eq-eqb, ltb-false, both_ways, and_parts}
use Rattle.std.proofs.lemmas.Option.{slice_get_past}
use Rattle.bf_program.specs.declared.epoch.Epoch.{Epoch}
use Rattle.bf_program.specs.Meanings.{Meanings}
use Rattle.bf_program.specs.Lockstep.{local_of, after_sends, after_receives, lockstep}
use Rattle.bf_program.specs.Laws.{KeepsReads}
use Rattle.bf_program.proofs.ReadLemmas.{reads_sends, reads_receives, reads_lockstep}
use Rattle.bf_core.specs.declared.event.Event.{Event}
use Rattle.bf_core.specs.declared.event.Event.TheVariants.{Send, Recv, Arrive, Leave, Die}
use Rattle.bf_core.specs.declared.event.How.TheVariants.{Done, Broken, Memory}
use Rattle.bf_core.specs.declared.place.Place.{Place}
use Rattle.bf_core.specs.declared.place.Place.TheVariants.{Rounds, Past}
use Rattle.bf_core.specs.declared.standing.Stage.{Stage}
use Rattle.bf_core.specs.declared.standing.Stage.TheVariants.{Running, Arrived, Leaving, Ended, Dead, Gone}
use Rattle.bf_core.specs.Stages.{is_running, is_arrived, is_leaving, is_short, goes_on}
use Rattle.bf_core.specs.Places.{is_just, next_send, next_receive, is_past}
use Rattle.bf_core.specs.States.{State, stage, queue, is_active, is_due, has_dead_member, is_short_of_memory}
use Rattle.bf_core.specs.Legal.{is_legal, is_empty_from, waits, actor, IsOffered}
use Rattle.bf_world.specs.Runs.{Run, place, will_be_filled, parcel_of, parcel_with}
use Rattle.bf_rank.specs.declared.stand.Stand.{Stand}
use Rattle.bf_rank.specs.declared.stand.Stand.TheVariants as stands
use Rattle.bf_rank.specs.Ranks.{RankView, Sight, sight, IsLocalAt, IsSaved, HasFinished, HasArrived, HasLocal, Agrees}

module _ {S L M T R : Type 0} (m : Meanings S L M T R) (good : S → Epoch → ℕ → List L → Type 0) (setup : S) where
  -- the last local tells whether the part of the new snapshot is filled, and gives the parcel
  pub done_filled : (run : Run L T) (rank : ℕ) (local : L) → IsLocalAt m good setup (sight run rank) rank Past local → will_be_filled m setup run rank ≡ m.filled local
  unfolding will_be_filled
  done_filled run rank local here = ap filled_of here.its ∙ ap m.filled (sym here.here)
    where
      filled_of : Option L → Bool
      filled_of (Some l) = m.filled l
      filled_of None = false

  pub done_parcel : (run : Run L T) (rank : ℕ) (local : L) → IsLocalAt m good setup (sight run rank) rank Past local → parcel_of m setup run rank ≡ (rank, (m.parcel local).1) ∷ []
  unfolding parcel_of
  done_parcel run rank local here = ap (λ o. parcel_with m setup rank o) here.its ∙ ap (λ l. (rank, (m.parcel l).1) ∷ []) (sym here.here)

module _ {S L M T R : Type 0} (m : Meanings S L M T R) (good : S → Epoch → ℕ → List L → Type 0) (setup : S) (saves : KeepsReads m setup) (seen : Sight L) (rank : ℕ) where
  -- wherever a rank is in its rounds, it has the agreed snapshot
  pub saved_at : (at : Place) (local : L) → IsLocalAt m good setup seen rank at local → IsSaved m good setup seen rank local
  saved_at Past local here =
      let from : (first : L) × ((local_of seen.epoch.members seen.start rank ≡ Some first) × (m.reads here.first ≡ m.reads first)) =
      reads_lockstep m setup saves seen.epoch seen.start rank (m.rounds setup seen.epoch) here.first here.its in
      record { first = from.0; its = from.1.0; same = ap m.reads here.here ∙ from.1.1 }
  saved_at (Rounds round sent received peers) local here =
      let from : (first : L) × ((local_of seen.epoch.members seen.start rank ≡ Some first) × (m.reads here.first ≡ m.reads first)) =
      reads_lockstep m setup saves seen.epoch seen.start rank round here.first here.its in
      record { first = from.0; its = from.1.0; same = ap m.reads here.here ∙ by_sent (nat_lt sent (length peers)) ∙ from.1.1 }
    where
      by_sent : (b : Bool) → m.reads (cond b (after_sends m setup seen.epoch round here.first sent)
          (after_receives m setup seen.epoch round (lockstep m setup seen.epoch seen.start round) rank here.first received)) ≡ m.reads here.first
      by_sent true = reads_sends m setup saves seen.epoch round here.first sent
      by_sent false = reads_receives m setup saves seen.epoch round (lockstep m setup seen.epoch seen.start round) rank here.first received

  -- whoever has arrived done has it too
  pub saved_done : (local : L) → HasFinished m good setup seen rank local → IsSaved m good setup seen rank local
  saved_done local has =
      let from : (first : L) × ((local_of seen.epoch.members seen.start rank ≡ Some first) × (m.reads has.last ≡ m.reads first)) =
      reads_lockstep m setup saves seen.epoch seen.start rank (m.rounds setup seen.epoch) has.last has.its in
      record { first = from.0; its = from.1.0; same = ap m.reads has.here ∙ by_end (seen.epoch.target == seen.steps) ∙ from.1.1 }
    where
      by_end : (b : Bool) → m.reads (if b then (m.parcel has.last).0 else has.last) ≡ m.reads has.last
      by_end true = saves.parcel has.last
      by_end false = refl

module _ {S L M T R : Type 0} (m : Meanings S L M T R) (good : S → Epoch → ℕ → List L → Type 0) (setup : S) (seen : Sight L) (rank : ℕ) where
  -- who arrives done before the last epoch has its last local
  pub arrives_done : (local : L) → IsLocalAt m good setup seen rank Past local → (seen.epoch.target == seen.steps) ≡ false → HasFinished m good setup seen rank local
  arrives_done local here goes = record {
    last = here.first;
    its = here.its;
    here = here.here ∙ ap (λ b. if b then (m.parcel here.first).0 else here.first) (sym goes);
  }

  -- and who has given its parcel in the last epoch what the parcel leaves of it
  pub arrives_with_parcel : (local : L) → IsLocalAt m good setup seen rank Past local → (seen.epoch.target == seen.steps) ≡ true → HasFinished m good setup seen rank (m.parcel local).0
  arrives_with_parcel local here ends = record {
    last = here.first;
    its = here.its;
    here = ap (λ l. (m.parcel l).0) here.here ∙ ap (λ b. if b then (m.parcel here.first).0 else here.first) (sym ends);
  }

-- whoever has arrived for want of memory goes on, and need not leave
short_goes_on : (s : Stage) → is_short s ≡ true → goes_on s ≡ true
short_goes_on (Arrived how filled) short = refl
short_goes_on Running short = absurd (cc)
short_goes_on Leaving short = absurd (cc)
short_goes_on Ended short = absurd (cc)
short_goes_on Dead short = absurd (cc)
short_goes_on Gone short = absurd (cc)

short_stays : (s : Stage) → is_short s ≡ true → is_leaving s ≡ false
short_stays (Arrived how filled) short = refl
short_stays Running short = absurd (cc)
short_stays Leaving short = absurd (cc)
short_stays Ended short = absurd (cc)
short_stays Dead short = absurd (cc)
short_stays Gone short = absurd (cc)

module _ {S L M T R : Type 0} (m : Meanings S L M T R) (good : S → Epoch → ℕ → List L → Type 0) (setup : S) (seen : Sight L) (view : RankView L) where
  -- what a rank has from its arrival on is that with which it has arrived, until it must leave
  pub arrived_has : (s : Stage) → is_leaving s ≡ false → HasLocal m good setup seen view s → HasArrived m good setup seen view s
  arrived_has (Arrived how filled) _ has = has
  arrived_has Leaving leaves has = absurd (cc)
  arrived_has Running _ has = absurd has
  arrived_has Ended _ has = absurd has
  arrived_has Dead _ has = absurd has
  arrived_has Gone _ has = absurd has

  -- whoever has arrived for want of memory has no local
  pub short_has_none : (s : Stage) → is_short s ≡ true → HasArrived m good setup seen view s → view.local ≡ None
  short_has_none (Arrived Memory filled) short none = none
  short_has_none (Arrived Done filled) short has = absurd (cc)
  short_has_none (Arrived Broken filled) short has = absurd (cc)
  short_has_none Running short has = absurd has
  short_has_none Leaving short has = absurd has
  short_has_none Ended short has = absurd has
  short_has_none Dead short has = absurd has
  short_has_none Gone short has = absurd has

  -- so it is in each account of a rank at such a stage
  pub short_stand_has_none : (stand : Stand) → is_short seen.stage ≡ true → Agrees m good setup seen view stand → view.local ≡ None
  short_stand_has_none stands.Opening short agrees = absurd (let e : false ≡ true = ap is_short (sym agrees.0) ∙ short in cc)
  short_stand_has_none (stands.Placed at) short agrees = absurd (let e : false ≡ true = ap is_short (sym agrees.0) ∙ short in cc)
  short_stand_has_none stands.Failed short agrees = agrees.1
  short_stand_has_none stands.Ended short agrees = absurd (both_ways (goes_on seen.stage) agrees (short_goes_on seen.stage short))
  short_stand_has_none stands.Arrived short agrees = short_has_none seen.stage short (arrived_has seen.stage (short_stays seen.stage short) agrees)

-- the number that there may be
lacks : (o : Option ℕ) (n : ℕ) → o ≡ None → is_just o n ≡ true → ⊥
lacks o n none is_just_n = let e : false ≡ true = ap (λ x. is_just x n) (sym none) ∙ is_just_n in cc

-- a rank whose next step is a receive has nothing to send
all_sent : (place : Place) (peer : ℕ) → next_receive place ≡ Some peer → (next_send place ≡ None) × (is_past place ≡ false)
all_sent Past peer next = absurd (cc)
all_sent (Rounds round sent received peers) peer next = (by_sent (nat_lt sent (length peers)) refl next, refl)
  where
    by_sent : (b : Bool) → nat_lt sent (length peers) ≡ b → (if b then None else slice_get peers received) ≡ Some peer → slice_get peers sent ≡ None
    by_sent true more none = absurd (cc)
    by_sent false all found = slice_get_past peers sent (ltb-false sent (length peers) all)

-- a rank that waits beside members who all live and have memory is offered nothing
pub waiting_offers_nothing : (core : State) (rank peer : ℕ) (place : Place) → is_due core rank ≡ false → stage core rank ≡ Running → next_receive place ≡ Some peer
    → queue core peer rank ≡ 0 → has_dead_member core ≡ false → is_short_of_memory core ≡ false → (event : Event) → IsOffered core rank place event → ⊥
waiting_offers_nothing core rank peer place undue runs next empty alive fits (Send r to blocks sum) offered =
    lacks (next_send place) to (all_sent place peer next).0 (and_parts (is_active core r) _ offered.legal).1
waiting_offers_nothing core rank peer place undue runs next empty alive fits (Recv r p) offered =
    both_ways _ (ap not (ap (λ q. waits core q place) offered.its ∙ ap (is_empty_from core rank) next ∙ eq-eqb (queue core peer rank) 0 empty))
    (and_parts (is_active core r && is_just (next_receive place) p) _ offered.legal).1
waiting_offers_nothing core rank peer place undue runs next empty alive fits (Arrive r Done) offered =
    both_ways (is_past place) (all_sent place peer next).1 (and_parts (is_active core r) _ offered.legal).1
waiting_offers_nothing core rank peer place undue runs next empty alive fits (Arrive r Broken) offered =
    both_ways (has_dead_member core) alive (and_parts (is_active core r && waits core r place) _ offered.legal).1
waiting_offers_nothing core rank peer place undue runs next empty alive fits (Arrive r Memory) offered =
    both_ways (is_short_of_memory core) fits (and_parts (waits core rank place && not (has_dead_member core)) _ (offered.memory refl)).1
waiting_offers_nothing core rank peer place undue runs next empty alive fits (Leave r) offered =
    both_ways (is_leaving (stage core r)) (ap (λ q. is_leaving (stage core q)) offered.its ∙ ap is_leaving runs) (and_parts (is_leaving (stage core r)) _ offered.legal).0
waiting_offers_nothing core rank peer place undue runs next empty alive fits (Die r) offered =
    both_ways (is_due core r) (ap (is_due core) offered.its ∙ undue) offered.legal

-- a rank that does not do its rounds is not active
inactive : (core : State) (rank : ℕ) → is_running (stage core rank) ≡ false → is_active core rank ≡ true → ⊥
inactive core rank rests active = both_ways (is_running (stage core rank)) rests (and_parts (is_running (stage core rank)) _ active).0

-- a rank that has arrived in an epoch that is not decided is offered nothing
pub arrived_offers_nothing : (core : State) (rank : ℕ) (place : Place) → is_due core rank ≡ false → is_arrived (stage core rank) ≡ true
    → (event : Event) → IsOffered core rank place event → ⊥
arrived_offers_nothing core rank place undue arrived event offered = by_event event offered.its offered.legal
  where
    rests : is_running (stage core rank) ≡ false
    rests = by_stage (stage core rank) arrived
      where
        by_stage : (s : Stage) → is_arrived s ≡ true → is_running s ≡ false
        by_stage (Arrived how filled) _ = refl
        by_stage Running still = absurd (cc)
        by_stage Leaving still = absurd (cc)
        by_stage Ended still = absurd (cc)
        by_stage Dead still = absurd (cc)
        by_stage Gone still = absurd (cc)

    stays : is_leaving (stage core rank) ≡ false
    stays = by_stage (stage core rank) arrived
      where
        by_stage : (s : Stage) → is_arrived s ≡ true → is_leaving s ≡ false
        by_stage (Arrived how filled) _ = refl
        by_stage Running still = absurd (cc)
        by_stage Leaving still = absurd (cc)
        by_stage Ended still = absurd (cc)
        by_stage Dead still = absurd (cc)
        by_stage Gone still = absurd (cc)

    quiet : (r : ℕ) → r ≡ rank → is_active core r ≡ true → ⊥
    quiet r same active = inactive core rank rests (ap (is_active core) (sym same) ∙ active)

    by_event : (event : Event) → actor event ≡ rank → is_legal core event place ≡ true → ⊥
    by_event (Send r to blocks sum) same legal = quiet r same (and_parts (is_active core r) _ legal).0
    by_event (Recv r p) same legal = quiet r same (and_parts (is_active core r) _ (and_parts (is_active core r && is_just (next_receive place) p) _ legal).0).0
    by_event (Arrive r Done) same legal = quiet r same (and_parts (is_active core r) _ legal).0
    by_event (Arrive r Broken) same legal = quiet r same (and_parts (is_active core r) _ (and_parts (is_active core r && waits core r place) _ legal).0).0
    by_event (Arrive r Memory) same legal = quiet r same legal
    by_event (Leave r) same legal = both_ways (is_leaving (stage core r)) (ap (λ q. is_leaving (stage core q)) same ∙ stays) (and_parts (is_leaving (stage core r)) _ legal).0
    by_event (Die r) same legal = both_ways (is_due core r) (ap (is_due core) same ∙ undue) legal

module _ {S L M T R : Type 0} (m : Meanings S L M T R) (good : S → Epoch → ℕ → List L → Type 0) (setup : S) (saves : KeepsReads m setup) (seen : Sight L) (view : RankView L) where
  -- what a rank has of which a restore reads what it reads of the local with which the epoch began
  abbrev HasSaved : Type 0
  HasSaved = (local : L) × ((view.local ≡ Some local) × IsSaved m good setup seen view.rank local)

  -- whoever has arrived otherwise than for want of memory has it
  pub arrived_saves : (s : Stage) → is_short s ≡ false → HasArrived m good setup seen view s → HasSaved
  arrived_saves (Arrived Done filled) fits (local, (its, has)) = (local, (its, saved_done m good setup saves seen view.rank local has))
  arrived_saves (Arrived Broken filled) fits (local, (its, here)) = (local, (its, saved_at m good setup saves seen view.rank seen.place local here))
  arrived_saves (Arrived Memory filled) short has = absurd (cc)
  arrived_saves Running fits has = absurd has
  arrived_saves Leaving fits has = absurd has
  arrived_saves Ended fits has = absurd has
  arrived_saves Dead fits has = absurd has
  arrived_saves Gone fits has = absurd has

  -- so has each rank in its rounds that has not failed
  pub stand_saves : (stand : Stand) → goes_on seen.stage ≡ true → is_leaving seen.stage ≡ false → is_short seen.stage ≡ false → (stand ≡ stands.Failed → ⊥)
      → Agrees m good setup seen view stand → HasSaved
  stand_saves stands.Opening goes stays fits unfailed agrees = (agrees.1.1.1.0, (agrees.1.1.1.1.0, record { first = agrees.1.1.1.0; its = agrees.1.1.1.1.1; same = refl }))
  stand_saves (stands.Placed at) goes stays fits unfailed agrees =
      (agrees.1.1.1.0, (agrees.1.1.1.1.0, saved_at m good setup saves seen view.rank at agrees.1.1.1.0 agrees.1.1.1.1.1))
  stand_saves stands.Failed goes stays fits unfailed agrees = absurd (unfailed refl)
  stand_saves stands.Ended goes stays fits unfailed agrees = absurd (both_ways (goes_on seen.stage) agrees goes)
  stand_saves stands.Arrived goes stays fits unfailed agrees = arrived_saves seen.stage fits (arrived_has m good setup seen view seen.stage stays agrees)
