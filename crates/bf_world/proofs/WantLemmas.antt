-- Want of memory shows until the run ends, where nobody dies.
use Rattle.std.proofs.Common.{◌≡◌, ◌≢◌, ℕ, Bool, true, false, ◌&&◌, ◌||◌, List, [], ◌∷◌, refl, sym, subst, ◌∙◌, ap, inl, inr}
use Rattle.std.specs.Prelude.{◌⊎◌, Option, Some, None, if◌then◌else◌}
use Rattle.std.specs.List.{list_any}
use Rattle.std.proofs.Math.Bool.{or_assoc, or-false}
use Rattle.std.proofs.lemmas.Bool.{and_parts, or_parts, both_ways}
use Rattle.std.proofs.lemmas.Option.{same_Some}
use Rattle.bf_program.specs.declared.epoch.Epoch.{Epoch}
use Rattle.bf_program.specs.Meanings.{Meanings}
use Rattle.bf_program.specs.Laws.{KeepsLimits, KeepsGood, KeepsStored}
use Rattle.bf_core.specs.declared.decision.Decision.TheVariants.{Lose, WantMemory, Commit, Restore}
use Rattle.bf_core.specs.declared.event.Event.{Event}
use Rattle.bf_core.specs.declared.event.Event.TheVariants.{Send, Recv, Arrive, Leave, Die}
use Rattle.bf_core.specs.declared.event.How.TheVariants.{Done, Broken, Memory}
use Rattle.bf_core.specs.declared.outcome.Outcome.{Outcome}
use Rattle.bf_core.specs.declared.outcome.Outcome.TheVariants as outcomes
use Rattle.bf_core.specs.declared.place.Place.{Place}
use Rattle.bf_core.specs.declared.standing.Stage.{Stage}
use Rattle.bf_core.specs.declared.standing.Stage.TheVariants.{Running, Arrived, Leaving, Ended, Dead, Gone}
use Rattle.bf_core.specs.Stages.{is_leaving, is_awaited, is_short}
use Rattle.bf_core.specs.Places.{is_just, next_receive}
use Rattle.bf_core.specs.States.{State, stage, is_active, is_short_of_memory, first_lost}
use Rattle.bf_core.specs.Legal.{actor, is_legal, is_memory}
use Rattle.bf_core.specs.Next.{may_decide, happened, is_ripe, is_everyone_done, decision, decision_where, decided, settled, next}
use Rattle.bf_core.proofs.StageLemmas.{nobody_any}
use Rattle.bf_core.proofs.SoundLemmas.{is_open, acting, active_of, in_list, leaving_stage, moved_stage}
use Rattle.bf_core.proofs.LawLemmas.{IsStep, step_of, end_stays, next_settles, next_happens, ripe_decides, unripe_waits, decided_outcome}
use Rattle.bf_world.specs.Ends.{is_death}
use Rattle.bf_world.specs.Runs.{Run, place, will_be_filled, opening_run, next_run, is_legal_in, run_from, is_legal_from, run_after, is_journal}
use Rattle.bf_world.proofs.LawfulLemmas.{IsLawful, core_next, after_lawful}

-- some rank that has arrived for want of memory waits for the decision
abbrev Waits : State → Type 0
Waits state = (rank : ℕ) × (is_short (stage state rank) ≡ true)

-- a run has ended, and not finished
abbrev EndsUndone : State → Type 0
EndsUndone state = (outcome : Outcome) × ((state.outcome ≡ Some outcome) × (outcome ≡ outcomes.Finished → ⊥))

-- whoever acts and doesn't die is awaited
awaited_actor : (state : State) (event : Event) (place : Place) → is_legal state event place ≡ true → is_death event ≡ false → is_awaited (stage state (actor event)) ≡ true
awaited_actor state (Send rank to blocks sum) place legal lives = ap is_awaited (acting state rank (and_parts (is_active state rank) _ legal).0)
awaited_actor state (Recv rank peer) place legal lives =
    ap is_awaited (acting state rank (and_parts (is_active state rank) _ (and_parts (is_active state rank && is_just (next_receive place) peer) _ legal).0).0)
awaited_actor state (Arrive rank how) place legal lives = ap is_awaited (acting state rank (active_of state rank how place legal))
awaited_actor state (Leave rank) place legal lives = ap is_awaited (leaving_stage state rank (and_parts (is_leaving (stage state rank)) _ legal).0)
awaited_actor state (Die rank) place legal lives = absurd (cc)

arrived_short : (s : Stage) → is_short s ≡ true → is_awaited s ≡ false
arrived_short (Arrived how filled) short = refl
arrived_short Running other = absurd (cc)
arrived_short Leaving other = absurd (cc)
arrived_short Ended other = absurd (cc)
arrived_short Dead other = absurd (cc)
arrived_short Gone other = absurd (cc)

short_open : (s : Stage) → is_short s ≡ true → is_open s ≡ true
short_open (Arrived how filled) short = refl
short_open Running other = absurd (cc)
short_open Leaving other = absurd (cc)
short_open Ended other = absurd (cc)
short_open Dead other = absurd (cc)
short_open Gone other = absurd (cc)

-- want of memory of an event shows
memory_waits : (state : State) (event : Event) (place : Place) (filled : Bool) → is_legal state event place ≡ true → is_memory event ≡ true → Waits (happened state event filled)
memory_waits state (Send rank to blocks sum) place filled legal other = absurd (cc)
memory_waits state (Recv rank peer) place filled legal other = absurd (cc)
memory_waits state (Arrive rank Done) place filled legal other = absurd (cc)
memory_waits state (Arrive rank Broken) place filled legal other = absurd (cc)
memory_waits state (Arrive rank Memory) place filled legal _ =
    (rank, ap is_short (moved_stage state rank (Arrived Memory false) (in_list state rank (acting state rank legal))).its)
memory_waits state (Leave rank) place filled legal other = absurd (cc)
memory_waits state (Die rank) place filled legal other = absurd (cc)

-- and still does after an event that is no death
still_waits : (state : State) (event : Event) (place : Place) (filled : Bool) → is_legal state event place ≡ true → is_death event ≡ false → Waits state
    → Waits (happened state event filled)
still_waits state event place filled legal lives (rank, short) =
    let step : IsStep state event filled = step_of state event place filled legal in
    let apart : rank ≢ actor event = λ same. both_ways (is_awaited (stage state rank)) (arrived_short (stage state rank) short)
    (ap (λ r. is_awaited (stage state r)) same ∙ awaited_actor state event place legal lives) in
    (rank, ap is_short (step.moved.others rank apart) ∙ short)

-- a decision while somebody wants memory ends the run
decided_undone : (state : State) → Waits state → EndsUndone (decided state (decision state))
unfolding decision
decided_undone state (rank, short) = by_short (is_short_of_memory state) refl
  where
    by_loss : (lost : Option (ℕ × ℕ)) → is_short_of_memory state ≡ true → EndsUndone (decided state (decision_where lost state))
    by_loss (Some pair) wants = (outcomes.Lost state.epoch.time pair.0 pair.1, (decided_outcome state (Lose pair.0 pair.1), λ is. absurd (cc)))
    by_loss None wants = let P : Bool → Type 0 = λ b. EndsUndone (decided state (if b then WantMemory else (if is_everyone_done state then Commit else Restore))) in
        subst P (sym wants) (outcomes.Memory, (decided_outcome state WantMemory, λ is. absurd (cc)))

    by_short : (b : Bool) → is_short_of_memory state ≡ b → EndsUndone (decided state (decision_where (first_lost state) state))
    by_short true wants = by_loss (first_lost state) wants
    by_short false fits = absurd (both_ways (is_short (stage state rank)) (nobody_any is_short state refl fits rank) short)

waits_next : (state : State) (event : Event) (filled : Bool) → Waits (happened state event filled) → Waits (next state event filled) ⊎ EndsUndone (next state event filled)
waits_next state event filled waiting = by_event (may_decide event) refl
  where
    by_ripe : (b : Bool) → is_ripe (happened state event filled) ≡ b → Waits (settled (happened state event filled)) ⊎ EndsUndone (settled (happened state event filled))
    by_ripe true ripe = inr (subst EndsUndone (sym (ripe_decides (happened state event filled) ripe)) (decided_undone (happened state event filled) waiting))
    by_ripe false unripe = inl (subst Waits (sym (unripe_waits (happened state event filled) unripe)) waiting)

    by_event : (b : Bool) → may_decide event ≡ b → Waits (next state event filled) ⊎ EndsUndone (next state event filled)
    by_event true may =
        let P : State → Type 0 = λ s. Waits s ⊎ EndsUndone s in
        subst P (sym (next_settles state event filled may)) (by_ripe (is_ripe (happened state event filled)) refl)
    by_event false may = inl (subst Waits (sym (next_happens state event filled may)) waiting)

-- want of memory that was told of waits for the decision, or has ended the run
abbrev Shows : (told : Bool) → State → Type 0
Shows told state = told ≡ true → Waits state ⊎ EndsUndone state

next_shows : (state : State) (event : Event) (place : Place) (filled told : Bool) → is_legal state event place ≡ true → is_death event ≡ false → Shows told state
    → Shows (told || is_memory event) (next state event filled)
next_shows state event place filled told legal lives shows wants = by_told told refl
  where
    by_told : (b : Bool) → told ≡ b → Waits (next state event filled) ⊎ EndsUndone (next state event filled)
    by_told true before = elim (shows before) [
      | inl waiting ↦ waits_next state event filled (still_waits state event place filled legal lives waiting)
      | inr (outcome, (ends, undone)) ↦
          inr (outcome, ((end_stays state (record { event = event; place = place; filled = filled } ∷ []) outcome ends).ends, undone))
    ]
    by_told false fresh = waits_next state event filled (memory_waits state event place filled legal (ap (λ b. b || is_memory event) (sym fresh) ∙ wants))

module _ {S L M T R : Type 0} (m : Meanings S L M T R) (good : S → Epoch → ℕ → List L → Type 0) (setup : S)
    (goods : KeepsGood m good setup) (stores : KeepsStored m good setup) where
  from_shows : (run : Run L T) (journal : List Event) (told : Bool) → is_legal_from m setup run journal ≡ true → list_any is_death journal ≡ false → Shows told run.core
      → Shows (told || list_any is_memory journal) (run_from m setup run journal).core
  unfolding is_legal_in
  from_shows run [] told legal lives shows = let P : Bool → Type 0 = λ b. Shows b run.core in subst P (sym (or-false told)) shows
  from_shows run (event ∷ events) told legal lives shows =
      let first : is_legal_in m setup run event ≡ true = (and_parts (is_legal_in m setup run event) _ legal).0 in
      let core_legal : is_legal run.core event (place run (actor event)) ≡ true = (and_parts (is_legal run.core event (place run (actor event))) _ first).0 in
      let alive = or_parts (is_death event) (list_any is_death events) lives in
      let P : Bool → Type 0 = λ b. Shows b (run_from m setup (next_run m setup run event) events).core in
      subst P (or_assoc told (is_memory event) (list_any is_memory events))
      (from_shows (next_run m setup run event) events (told || is_memory event) (and_parts (is_legal_in m setup run event) _ legal).1 alive.1
      (subst (Shows (told || is_memory event)) (sym (core_next m good setup goods stores run event))
      (next_shows run.core event (place run (actor event)) (will_be_filled m setup run (actor event)) told core_legal alive.0 shows)))

  -- where nobody has died, a run finishes only if nobody has arrived for want of memory
  pub finished_fits : KeepsLimits m setup → (journal : List Event) → is_journal m setup journal ≡ true → (run_after m setup journal).core.outcome ≡ Some outcomes.Finished
      → list_any is_death journal ≡ false → list_any is_memory journal ≡ false
  unfolding is_journal run_after
  finished_fits limits journal legal ends lives = by_told (list_any is_memory journal) refl
    where
      lawful : IsLawful m good setup goods stores (run_after m setup journal)
      lawful = after_lawful m good setup goods stores limits journal legal

      by_told : (b : Bool) → list_any is_memory journal ≡ b → list_any is_memory journal ≡ false
      by_told false fits = fits
      by_told true told = elim (from_shows (opening_run m setup) journal false legal lives (λ wants. absurd (cc)) told) [
        | inl (rank, short) ↦ absurd (both_ways (is_open (stage (run_after m setup journal).core rank)) (lawful.sound.over outcomes.Finished ends rank)
            (short_open (stage (run_after m setup journal).core rank) short))
        | inr (outcome, (is, undone)) ↦ absurd (undone (same_Some _ _ (sym is ∙ ends)))
      ]
