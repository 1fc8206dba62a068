-- What a rank that must leave has is what it had when its epoch was decided.
use Rattle.std.proofs.Common.{◌≡◌, ◌≢◌, ℕ, Bool, true, false, ◌&&◌, not, List, [], ◌∷◌, ◌++◌, refl, sym, subst, ◌∙◌, ap}
use Rattle.std.specs.Prelude.{is_some, if◌then◌else◌}
use Rattle.std.specs.List.{list_any}
use Rattle.std.proofs.lemmas.Bool.{and_parts, not-true, or_left, or_right}
use Rattle.std.proofs.lemmas.List.Folds.{list_any-append}
use Rattle.bf_program.specs.declared.epoch.Epoch.{Epoch}
use Rattle.bf_program.specs.Meanings.{Meanings}
use Rattle.bf_core.specs.declared.event.Event.{Event}
use Rattle.bf_core.specs.declared.standing.Stage.{Stage}
use Rattle.bf_core.specs.declared.standing.Stage.TheVariants.{Running, Arrived, Leaving, Ended, Dead, Gone}
use Rattle.bf_core.specs.Stages.{is_leaving, is_awaited, goes_on, after_decision}
use Rattle.bf_core.specs.States.{State, stage}
use Rattle.bf_core.specs.Legal.{actor}
use Rattle.bf_core.specs.Next.{may_decide, happened, is_ripe, decision}
use Rattle.bf_core.proofs.StageLemmas.{nobody_any}
use Rattle.bf_core.proofs.ArrivalLemmas.{decided_stage}
use Rattle.bf_core.proofs.LawLemmas.{IsStep}
use Rattle.bf_world.specs.Runs.{Run, will_be_filled, run_happened, run_decided, run_settled, opening_run, next_run, run_from, run_after}
use Rattle.bf_world.specs.Worlds.{brings_decision}
use Rattle.bf_world.proofs.LawfulLemmas.{decided_core}
use Rattle.bf_world.proofs.RunLemmas.{run_more}
use Rattle.bf_rank.specs.declared.stand.Stand.{Stand}
use Rattle.bf_rank.specs.declared.stand.Stand.TheVariants as stands
use Rattle.bf_rank.specs.Ranks.{RankView, Sight, sight, decided_from, last_decided, HasArrived, HasLocal, Agrees}

-- one element settles the answer, at the end of a list or before
pub any_last : {X : Type 0} (test : X → Bool) (xs : List X) (x : X) → test x ≡ true → list_any test (xs ++ x ∷ []) ≡ true
any_last test xs x passes = list_any-append test xs (x ∷ []) ∙ or_right (list_any test xs) _ (or_left (test x) false passes)

-- and one that settled it settles it for a longer list
pub any_more : {X : Type 0} (test : X → Bool) (xs : List X) (x : X) → list_any test xs ≡ true → list_any test (xs ++ x ∷ []) ≡ true
any_more test xs x passes = list_any-append test xs (x ∷ []) ∙ or_left (list_any test xs) _ passes

module _ {S L M T R : Type 0} (m : Meanings S L M T R) (setup : S) where
  decided_from_more : (run : Run L T) (journal : List Event) (event : Event) (before : Run L T) → decided_from m setup run (journal ++ event ∷ []) before
      ≡ (if brings_decision m setup (run_from m setup run journal) event then run_happened m setup (run_from m setup run journal) event
      else decided_from m setup run journal before)
  decided_from_more run [] event before = refl
  decided_from_more run (first ∷ journal) event before = decided_from_more (next_run m setup run first) journal event _

  -- the run at the last decision, once one event more has happened
  decided_more : (journal : List Event) (event : Event) → last_decided m setup (journal ++ event ∷ [])
      ≡ (if brings_decision m setup (run_after m setup journal) event then run_happened m setup (run_after m setup journal) event else last_decided m setup journal)
  unfolding last_decided run_after
  decided_more journal event = decided_from_more (opening_run m setup) journal event (opening_run m setup)

module _ {S L M T R : Type 0} (m : Meanings S L M T R) (good : S → Epoch → ℕ → List L → Type 0) (setup : S) where
  -- a rank that must leave has what it had at a decision
  abbrev pub KeepsArrival : (last run : Run L T) → RankView L → Type 0
  KeepsArrival last run view = is_leaving (stage run.core view.rank) ≡ true → HasArrived m good setup (sight last view.rank) view (stage last.core view.rank)

  -- whoever must leave at once after a decision had arrived before it
  decided_arrival : (seen : Sight L) (view : RankView L) (stand : Stand) (s : Stage) → seen.stage ≡ s → is_awaited s ≡ false → is_leaving (after_decision s) ≡ true
      → Agrees m good setup seen view stand → HasArrived m good setup seen view s
  decided_arrival seen view stand (Arrived how filled) at quiet leaving agrees = by_stand stand agrees
    where
      by_stand : (stand : Stand) → Agrees m good setup seen view stand → HasArrived m good setup seen view (Arrived how filled)
      by_stand stands.Opening has = absurd (let e : Arrived how filled ≡ Running = sym at ∙ has.0 in cc)
      by_stand (stands.Placed to) has = absurd (let e : Arrived how filled ≡ Running = sym at ∙ has.0 in cc)
      by_stand stands.Failed has = absurd (let e : Arrived how filled ≡ Running = sym at ∙ has.0 in cc)
      by_stand stands.Ended has = absurd (let e : true ≡ false = ap goes_on (sym at) ∙ has in cc)
      by_stand stands.Arrived has = let P : Stage → Type 0 = HasLocal m good setup seen view in subst P at has
  decided_arrival seen view stand Running at quiet leaving agrees = absurd (cc)
  decided_arrival seen view stand Leaving at quiet leaving agrees = absurd (cc)
  decided_arrival seen view stand Ended at quiet leaving agrees = absurd (cc)
  decided_arrival seen view stand Dead at quiet leaving agrees = absurd (cc)
  decided_arrival seen view stand Gone at quiet leaving agrees = absurd (cc)

  -- what a rank had before an event's decision it has after it
  arrival_settled : (last run : Run L T) (event : Event) (view : RankView L) (stand : Stand)
      → Agrees m good setup (sight (run_happened m setup run event) view.rank) view stand → KeepsArrival last (run_happened m setup run event) view
      → KeepsArrival (if brings_decision m setup run event then run_happened m setup run event else last) (next_run m setup run event) view
  unfolding next_run brings_decision
  arrival_settled last run event view stand agrees kept = by_event (may_decide event)
    where
      core : State
      core = happened run.core event (will_be_filled m setup run (actor event))

      by_ripe : (b : Bool) → is_ripe (happened run.core event (will_be_filled m setup run (actor event))) ≡ b
          → KeepsArrival (if b then run_happened m setup run event else last)
          (if b then run_decided m setup (run_happened m setup run event) (decision (happened run.core event (will_be_filled m setup run (actor event)))) else run_happened m setup run event) view
      by_ripe false unripe = kept
      by_ripe true ripe = λ leaving.
          decided_arrival (sight (run_happened m setup run event) view.rank) view stand (stage core view.rank) refl
          (nobody_any is_awaited core refl (not-true _ (and_parts (not (is_some core.outcome)) _ ripe).1) view.rank)
          (sym (ap is_leaving (ap (λ c. stage c view.rank) (decided_core m setup (run_happened m setup run event) (decision core)) ∙ decided_stage core (decision core) view.rank)) ∙ leaving)
          agrees

      by_event : (b : Bool)
          → KeepsArrival (if b && is_ripe (happened run.core event (will_be_filled m setup run (actor event))) then run_happened m setup run event else last)
          (if b then run_settled m setup (run_happened m setup run event) else run_happened m setup run event) view
      by_event true = by_ripe (is_ripe (happened run.core event (will_be_filled m setup run (actor event)))) refl
      by_event false = kept

  -- so it does after an event more of a journal
  pub arrival_more : (journal new : List Event) (event : Event) (view : RankView L) (stand : Stand) → new ≡ journal ++ event ∷ []
      → Agrees m good setup (sight (run_happened m setup (run_after m setup journal) event) view.rank) view stand
      → KeepsArrival (last_decided m setup journal) (run_happened m setup (run_after m setup journal) event) view
      → KeepsArrival (last_decided m setup new) (run_after m setup new) view
  arrival_more journal new event view stand more agrees kept =
      let P : Run L T → Type 0 = λ last. KeepsArrival last (run_after m setup new) view in
      let Q : Run L T → Type 0 = λ run. KeepsArrival
      (if brings_decision m setup (run_after m setup journal) event then run_happened m setup (run_after m setup journal) event else last_decided m setup journal) run view in
      subst P (sym (ap (last_decided m setup) more ∙ decided_more m setup journal event))
      (subst Q (sym (ap (run_after m setup) more ∙ run_more m setup journal event))
      (arrival_settled (last_decided m setup journal) (run_after m setup journal) event view stand agrees kept))

  -- another rank's event, before any decision, keeps it
  pub arrival_other : (last run : Run L T) (event : Event) (view : RankView L) → IsStep run.core event (will_be_filled m setup run (actor event)) → view.rank ≢ actor event
      → KeepsArrival last run view → KeepsArrival last (run_happened m setup run event) view
  arrival_other last run event view step differs kept leaving = kept (ap is_leaving (sym (step.moved.others view.rank differs)) ∙ leaving)
