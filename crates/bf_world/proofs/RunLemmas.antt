-- The run that a journal tells, once one event more has happened, and how many events it counts.
use Rattle.std.proofs.Common.{◌≡◌, ℕ, zero, ◌+◌, ◌*◌, ◌≤◌, Bool, true, false, ◌&&◌, List, [], ◌∷◌, ◌++◌, map, length, replicate, get_or, arith, refl, sym, subst, ◌∙◌, ap, inl, inr}
use Rattle.std.specs.Prelude.{◌==◌, if◌then◌else◌}
use Rattle.std.specs.List.{range_with_len}
use Rattle.std.specs.Map.{lookup}
use Rattle.std.proofs.Math.Bool.{and_assoc}
use Rattle.std.proofs.lemmas.Bool.{cases_lt, and_from}
use Rattle.std.proofs.lemmas.List.{get_or_past, get_or-replicate, length-replicate}
use Rattle.std.proofs.lemmas.List.FromFn.{length-map-range_with_len, get_or-map-range_with_len}
use Rattle.bf_program.specs.declared.epoch.Epoch.{Epoch}
use Rattle.bf_program.specs.Meanings.{Meanings}
use Rattle.bf_program.specs.Laws.{KeepsGood, KeepsStored}
use Rattle.bf_core.specs.declared.event.Event.{Event}
use Rattle.bf_core.specs.declared.standing.Stage.TheVariants.{Running}
use Rattle.bf_core.specs.declared.standing.Standing.{Standing}
use Rattle.bf_core.specs.States.{State, standing, opening}
use Rattle.bf_core.specs.Legal.{actor}
use Rattle.bf_core.specs.Next.{may_decide, is_ripe, decision}
use Rattle.bf_core.proofs.RoomLemmas.{events_grow, queues_grow}
use Rattle.bf_core.proofs.StageLemmas.{nobody}
use Rattle.bf_world.specs.Runs.{Run, will_be_filled, run_happened, run_decided, opening_run, next_run, is_legal_in, run_from, is_legal_from, run_after, is_journal}
use Rattle.bf_world.specs.Worlds.{brings_decision, brings_restore, restores_from, restores_in}
use Rattle.bf_world.proofs.LawfulLemmas.{core_next}

module _ {S L M T R : Type 0} (m : Meanings S L M T R) (setup : S) where
  -- an event that brings a decision
  pub ripe_next : (run : Run L T) (event : Event) → may_decide event ≡ true → is_ripe (run_happened m setup run event).core ≡ true
      → next_run m setup run event ≡ run_decided m setup (run_happened m setup run event) (decision (run_happened m setup run event).core)
  unfolding next_run
  ripe_next run event may ripe = rw (may, ripe) refl

  -- and one that brings none
  pub quiet_run : (run : Run L T) (event : Event) → brings_decision m setup run event ≡ false → next_run m setup run event ≡ run_happened m setup run event
  unfolding next_run brings_decision
  quiet_run run event quiet = by_event (may_decide event) (is_ripe (run_happened m setup run event).core) quiet
    where
      by_event : (may ripe : Bool) → (may && ripe) ≡ false
          → (if may then (if ripe then run_decided m setup (run_happened m setup run event) (decision (run_happened m setup run event).core) else run_happened m setup run event)
          else run_happened m setup run event) ≡ run_happened m setup run event
      by_event true true decides = absurd (cc)
      by_event true false _ = refl
      by_event false ripe _ = refl

  run_from_joined : (run : Run L T) (journal more : List Event) → run_from m setup run (journal ++ more) ≡ run_from m setup (run_from m setup run journal) more
  run_from_joined run [] more = refl
  run_from_joined run (event ∷ events) more = run_from_joined (next_run m setup run event) events more

  -- the run after a journal and more events
  pub run_joined : (journal more : List Event) → run_after m setup (journal ++ more) ≡ run_from m setup (run_after m setup journal) more
  unfolding run_after
  run_joined journal more = run_from_joined (opening_run m setup) journal more

  pub run_more : (journal : List Event) (event : Event) → run_after m setup (journal ++ event ∷ []) ≡ next_run m setup (run_after m setup journal) event
  run_more journal event = run_joined journal (event ∷ [])

  legal_from_joined : (run : Run L T) (journal more : List Event)
      → is_legal_from m setup run (journal ++ more) ≡ (is_legal_from m setup run journal && is_legal_from m setup (run_from m setup run journal) more)
  legal_from_joined run [] more = refl
  legal_from_joined run (event ∷ events) more =
      ap (λ b. is_legal_in m setup run event && b) (legal_from_joined (next_run m setup run event) events more)
      ∙ sym (and_assoc (is_legal_in m setup run event) (is_legal_from m setup (next_run m setup run event) events) _)

  -- a journal and more events are legal exactly where both are, each in its turn
  pub journal_joined : (journal more : List Event)
      → is_journal m setup (journal ++ more) ≡ (is_journal m setup journal && is_legal_from m setup (run_after m setup journal) more)
  unfolding is_journal run_after
  journal_joined journal more = legal_from_joined (opening_run m setup) journal more

  pub journal_more : (journal : List Event) (event : Event) → is_journal m setup journal ≡ true
      → is_legal_in m setup (run_after m setup journal) event ≡ true → is_journal m setup (journal ++ event ∷ []) ≡ true
  journal_more journal event before legal =
      journal_joined journal (event ∷ []) ∙ and_from (is_journal m setup journal) _ before (and_from (is_legal_in m setup (run_after m setup journal) event) true legal refl)

  restores_from_more : (run : Run L T) (journal : List Event) (event : Event) (before : ℕ) → restores_from m setup run (journal ++ event ∷ []) before
      ≡ (if brings_restore m setup (run_from m setup run journal) event then restores_from m setup run journal before + 1
      else restores_from m setup run journal before)
  restores_from_more run [] event before = refl
  restores_from_more run (first ∷ journal) event before = restores_from_more (next_run m setup run first) journal event _

  pub restores_more : (journal : List Event) (event : Event) → restores_in m setup (journal ++ event ∷ [])
      ≡ (if brings_restore m setup (run_after m setup journal) event then restores_in m setup journal + 1 else restores_in m setup journal)
  unfolding restores_in run_after
  restores_more journal event = restores_from_more (opening_run m setup) journal event 0

  no_events : (rank : ℕ) → (standing (opening_run m setup).core rank).events ≡ 0
  unfolding opening_run opening
  no_events rank = elim (cases_lt rank (m.ranks setup)) [
    | inl within ↦ ap (λ s. s.events) (get_or-map-range_with_len {X = Standing} (λ r. record { stage = Running; death = lookup (λ other. other == r) (m.deaths setup); events = 0 })
        0 (m.ranks setup) rank rank nobody within (omega arith))
    | inr past ↦ ap (λ s. s.events) (get_or_past {X = Standing}
        (map {B = Standing} (λ r. record { stage = Running; death = lookup (λ other. other == r) (m.deaths setup); events = 0 }) (range_with_len 0 (m.ranks setup))) rank nobody
        (omega (arith, past, length-map-range_with_len {X = Standing} (λ r. record { stage = Running; death = lookup (λ other. other == r) (m.deaths setup); events = 0 }) 0 (m.ranks setup))))
  ]

  nothing_waits : (place : ℕ) → get_or (opening_run m setup).core.queues place 0 ≡ 0
  unfolding opening_run opening
  nothing_waits place = elim (cases_lt place (m.ranks setup * m.ranks setup)) [
    | inl within ↦ get_or-replicate (m.ranks setup * m.ranks setup) place 0 0 within
    | inr past ↦ get_or_past (replicate (m.ranks setup * m.ranks setup) zero) place 0 (omega (arith, past, length-replicate (m.ranks setup * m.ranks setup) zero))
  ]

module _ {S L M T R : Type 0} (m : Meanings S L M T R) (good : S → Epoch → ℕ → List L → Type 0) (setup : S)
    (goods : KeepsGood m good setup) (stores : KeepsStored m good setup) where
  events_next : (run : Run L T) (event : Event) (rank : ℕ) → (standing (next_run m setup run event).core rank).events ≤ (standing run.core rank).events + 1
  events_next run event rank =
      let Q : State → Type 0 = λ state. (standing state rank).events ≤ (standing run.core rank).events + 1 in
      subst Q (sym (core_next m good setup goods stores run event)) (events_grow run.core event (will_be_filled m setup run (actor event)) rank)

  queues_next : (run : Run L T) (event : Event) (place : ℕ) → get_or (next_run m setup run event).core.queues place 0 ≤ get_or run.core.queues place 0 + 1
  queues_next run event place =
      let Q : State → Type 0 = λ state. get_or state.queues place 0 ≤ get_or run.core.queues place 0 + 1 in
      subst Q (sym (core_next m good setup goods stores run event)) (queues_grow run.core event (will_be_filled m setup run (actor event)) place)

  events_from : (run : Run L T) (journal : List Event) (rank : ℕ) → (standing (run_from m setup run journal).core rank).events ≤ (standing run.core rank).events + length journal
  events_from run [] rank = omega arith
  events_from run (first ∷ journal) rank =
      let one : (standing (next_run m setup run first).core rank).events ≤ (standing run.core rank).events + 1 = events_next run first rank in
      let rest : (standing (run_from m setup (next_run m setup run first) journal).core rank).events ≤ (standing (next_run m setup run first).core rank).events + length journal =
      events_from (next_run m setup run first) journal rank in
      omega (arith, one, rest)

  queues_from : (run : Run L T) (journal : List Event) (place : ℕ) → get_or (run_from m setup run journal).core.queues place 0 ≤ get_or run.core.queues place 0 + length journal
  queues_from run [] place = omega arith
  queues_from run (first ∷ journal) place =
      let one : get_or (next_run m setup run first).core.queues place 0 ≤ get_or run.core.queues place 0 + 1 = queues_next run first place in
      let rest : get_or (run_from m setup (next_run m setup run first) journal).core.queues place 0 ≤ get_or (next_run m setup run first).core.queues place 0 + length journal =
      queues_from (next_run m setup run first) journal place in
      omega (arith, one, rest)

  -- a rank has had at most all events of the journal
  pub events_within : (journal : List Event) (rank : ℕ) → (standing (run_after m setup journal).core rank).events ≤ length journal
  unfolding run_after
  events_within journal rank = omega (arith, events_from (opening_run m setup) journal rank, no_events m setup rank)

  -- a queue has at most as many messages as the journal has events
  pub queues_within : (journal : List Event) (place : ℕ) → get_or (run_after m setup journal).core.queues place 0 ≤ length journal
  unfolding run_after
  queues_within journal place = omega (arith, queues_from (opening_run m setup) journal place, nothing_waits m setup place)
