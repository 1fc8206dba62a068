-- What an arrival or a death leaves, told from the state after it.
use Rattle.std.proofs.Common.{◌≡◌, ℕ, ◌+◌, Bool, true, false, ◌&&◌, ◌||◌, not, [], map, refl, sym, ◌∙◌, ap}
use Rattle.std.specs.Prelude.{◌==◌, is_some, if◌then◌else◌}
use Rattle.std.proofs.Math.Bool.{and-false}
use Rattle.std.proofs.lemmas.Bool.{not-true, and_parts}
use Rattle.bf_program.specs.Meanings.{Meanings}
use Rattle.bf_core.specs.declared.decision.Decision.{Decision}
use Rattle.bf_core.specs.declared.decision.Decision.TheVariants.{Lose, WantMemory, Commit, Restore}
use Rattle.bf_core.specs.declared.event.Event.{Event}
use Rattle.bf_core.specs.declared.outcome.Outcome.TheVariants as outcomes
use Rattle.bf_core.specs.declared.standing.Stage.{Stage}
use Rattle.bf_core.specs.declared.standing.Stage.TheVariants.{Running, Arrived, Leaving, Ended, Dead, Gone}
use Rattle.bf_core.specs.Stages.{is_arrived, is_dead, after_decision}
use Rattle.bf_core.specs.States.{State, stage, has_everyone_arrived}
use Rattle.bf_core.specs.Legal.{actor}
use Rattle.bf_core.specs.Next.{may_decide, happened, is_ripe, decision, decided, settled, dissolved, ended, committed}
use Rattle.bf_core.proofs.ArrivalLemmas.{decided_stage}
use Rattle.bf_world.specs.Queues.{Waiting, no_messages}
use Rattle.bf_world.specs.Runs.{Run, begun, last_locals, will_be_filled, run_happened, run_decided, run_settled, next_run}
use Rattle.bf_world.specs.Settled.{is_decided, is_restored, waiting_settled, parcels_settled, restores_settled}
use Rattle.bf_world.specs.Worlds.{is_restore, brings_decision, brings_restore}

-- whether a rank has arrived or died in an epoch that is not decided
abbrev pub is_stopped : Stage → Bool
is_stopped stage = is_arrived stage || is_dead stage

moves_on : (s : Stage) → is_stopped (after_decision s) ≡ false
moves_on Running = refl
moves_on (Arrived how filled) = refl
moves_on Leaving = refl
moves_on Ended = refl
moves_on Dead = refl
moves_on Gone = refl

-- a decision shows in the stage of the rank that stopped last
shows : (state : State) (rank : ℕ) → is_stopped (stage state rank) ≡ true → is_decided (settled state) rank ≡ is_ripe state
unfolding settled
shows state rank stopped = by_ripe (is_ripe state)
  where
    by_ripe : (b : Bool) → is_decided (if b then decided state (decision state) else state) rank ≡ b
    by_ripe true = ap (λ s. not (is_stopped s)) (decided_stage state (decision state) rank) ∙ ap not (moves_on (stage state rank))
    by_ripe false = ap not stopped

-- a restore shows in the epoch that it begins
restore_shows : (state : State) (made : Decision) → is_some state.outcome ≡ false → is_restored (decided state made) ≡ is_restore true made
unfolding decided dissolved
restore_shows state (Lose home buddy) on = refl
restore_shows state WantMemory on = refl
restore_shows state Commit on = by_end (state.epoch.target == state.steps)
  where
    by_end : (b : Bool) → is_restored (if b then ended state outcomes.Finished else committed state) ≡ false
    by_end true = refl
    by_end false = and-false (not (is_some state.outcome))
restore_shows state Restore on = ap (λ b. not b && true) on

pub no_restore : (made : Decision) → is_restore false made ≡ false
no_restore (Lose home buddy) = refl
no_restore WantMemory = refl
no_restore Commit = refl
no_restore Restore = refl

settled_restore : (state : State) (rank : ℕ) → is_stopped (stage state rank) ≡ true
    → (is_decided (settled state) rank && is_restored (settled state)) ≡ is_restore (is_ripe state) (decision state)
unfolding settled
settled_restore state rank stopped = ap (λ b. b && is_restored (settled state)) (shows state rank stopped) ∙ by_ripe (is_ripe state) refl
  where
    by_ripe : (b : Bool) → is_ripe state ≡ b → (b && is_restored (if b then decided state (decision state) else state)) ≡ is_restore b (decision state)
    by_ripe true ripe = restore_shows state (decision state) (not-true (is_some state.outcome) (and_parts (not (is_some state.outcome)) (has_everyone_arrived state) ripe).0)
    by_ripe false unripe = sym (no_restore (decision state))

module _ {S L M T R : Type 0} (m : Meanings S L M T R) (setup : S) where
  parcels_decided : (run : Run L T) (made : Decision) → (run_decided m setup run made).parcels ≡ (if is_restore true made then [] else run.parcels)
  parcels_decided run (Lose home buddy) = refl
  parcels_decided run WantMemory = refl
  parcels_decided run Commit = by_end (run.core.epoch.target == run.core.steps)
    where
      by_end : (b : Bool) → (if b then record run { core = decided run.core Commit } else begun m setup (decided run.core Commit) (map m.keep (last_locals m setup run)) run.parcels).parcels ≡ run.parcels
      by_end true = refl
      by_end false = refl
  parcels_decided run Restore = refl

  parcels_when_settled : (run : Run L T) → (run_settled m setup run).parcels ≡ (if is_restore (is_ripe run.core) (decision run.core) then [] else run.parcels)
  parcels_when_settled run = by_ripe (is_ripe run.core)
    where
      by_ripe : (b : Bool) → (if b then run_decided m setup run (decision run.core) else run).parcels ≡ (if is_restore b (decision run.core) then [] else run.parcels)
      by_ripe true = parcels_decided run (decision run.core)
      by_ripe false = ap (λ b. if b then [] else run.parcels) (sym (no_restore (decision run.core)))

  -- what is told from the state after an arrival or a death is what the run says
  module _ (run : Run L T) (event : Event) (rank : ℕ) (may : may_decide event ≡ true)
      (stopped : is_stopped (stage (happened run.core event (will_be_filled m setup run (actor event))) rank) ≡ true)
      (after : State) (after_is : after ≡ settled (happened run.core event (will_be_filled m setup run (actor event)))) where
    pub waiting_told : (waiting : Waiting M) → waiting_settled after rank waiting
        ≡ (if is_ripe (run_happened m setup run event).core then no_messages waiting.ranks else waiting)
    waiting_told waiting =
        ap (λ state. waiting_settled state rank waiting) after_is
        ∙ ap (λ b. if b then no_messages waiting.ranks else waiting) (shows (happened run.core event (will_be_filled m setup run (actor event))) rank stopped)

    restore_told : (is_decided after rank && is_restored after) ≡ brings_restore m setup run event
    unfolding brings_restore brings_decision
    restore_told =
        ap (λ state. is_decided state rank && is_restored state) after_is
        ∙ settled_restore (happened run.core event (will_be_filled m setup run (actor event))) rank stopped
        ∙ ap (λ b. is_restore (b && is_ripe (happened run.core event (will_be_filled m setup run (actor event))))
        (decision (happened run.core event (will_be_filled m setup run (actor event))))) (sym may)

    pub parcels_told : parcels_settled after rank (run_happened m setup run event).parcels ≡ (next_run m setup run event).parcels
    unfolding next_run
    parcels_told =
        ap (λ state. parcels_settled state rank (run_happened m setup run event).parcels) after_is
        ∙ ap (λ b. if b then [] else (run_happened m setup run event).parcels) (settled_restore (happened run.core event (will_be_filled m setup run (actor event))) rank stopped)
        ∙ sym (parcels_when_settled (run_happened m setup run event))
        ∙ ap (λ b. (if b then run_settled m setup (run_happened m setup run event) else run_happened m setup run event).parcels) (sym may)

    pub restores_told : (before : ℕ) → restores_settled after rank before ≡ (if brings_restore m setup run event then before + 1 else before)
    restores_told before = ap (λ b. if b then before + 1 else before) restore_told
