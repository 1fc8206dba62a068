-- How runs end.
use Rattle.std.proofs.Common.{◌≡◌, ℕ, zero, suc, ◌<◌, Bool, true, false, ◌&&◌, ◌||◌, List, [], ◌∷◌, map, length, replicate, arith, refl, sym, subst, ◌∙◌, ap, inl, inr}
use Rattle.std.specs.Prelude.{◌⊎◌, Option, Some, None, is_some, if◌then◌else◌}
use Rattle.std.specs.List.{list_any}
use Rattle.std.proofs.lemmas.Bool.{cases_eq, not-true, or_right, or_left, and_parts}
use Rattle.std.proofs.lemmas.List.{nil_from_length}
use Rattle.bf_program.specs.declared.epoch.Epoch.{Epoch}
use Rattle.bf_program.specs.Meanings.{Meanings}
use Rattle.bf_program.specs.Laws.{KeepsLimits, KeepsGood, KeepsStored}
use Rattle.bf_core.specs.declared.event.Event.{Event}
use Rattle.bf_core.specs.declared.event.Event.TheVariants.{Send, Recv, Arrive, Leave, Die}
use Rattle.bf_core.specs.declared.event.How.TheVariants.{Done, Broken, Memory}
use Rattle.bf_core.specs.declared.outcome.Outcome.{Outcome}
use Rattle.bf_core.specs.declared.outcome.Outcome.TheVariants as outcomes
use Rattle.bf_core.specs.declared.place.Place.{Place}
use Rattle.bf_core.specs.declared.standing.Stage.{Stage}
use Rattle.bf_core.specs.declared.standing.Stage.TheVariants.{Running, Arrived, Leaving, Ended, Dead, Gone}
use Rattle.bf_core.specs.Stages.{is_leaving, is_short, goes_on, lives}
use Rattle.bf_core.specs.Places.{is_just, next_receive}
use Rattle.bf_core.specs.States.{State, stage, is_active, is_short_of_memory, is_finished, opening}
use Rattle.bf_core.specs.Legal.{actor, is_legal, waits, is_memory}
use Rattle.bf_core.specs.Next.{with_stage, may_decide, happened, is_ripe, decision, decided, settled, next}
use Rattle.std.specs.Prelude.{◌==◌, All}
use Rattle.bf_buddy.specs.Members.{is_member}
use Rattle.std.proofs.Math.ListN.{get_or}
use Rattle.std.proofs.lemmas.Bool.{eqb-true}
use Rattle.std.proofs.Math.Bool.{or_assoc, or-false}
use Rattle.bf_core.proofs.RollLemmas.{short_after}
use Rattle.bf_core.proofs.ListLemmas.{found}
use Rattle.bf_core.proofs.StageLemmas.{Someone, someone, nobody_any, is_rank, stage_same, stage_other}
use Rattle.bf_core.proofs.SoundLemmas.{is_open, acting, in_list, leaving_stage, opening_fails}
use Rattle.bf_core.proofs.ArrivalLemmas.{has_ended, decided_stage}
use Rattle.bf_core.proofs.LawLemmas.{Losses, IsSameEpoch, same_epoch, running_where_ripe, next_settles, next_happens, ripe_decides, unripe_waits, decided_outcome}
use Rattle.bf_core.proofs.DecideLemmas.{decision_wants, ends_memory}
use Rattle.bf_world.specs.Ends.{NobodyDies}
use Rattle.bf_world.specs.Messages.{AreQueuesOf}
use Rattle.bf_world.specs.Queues.{Waiting, no_messages}
use Rattle.bf_world.specs.Runs.{Run, place, will_be_filled, opening_run, next_run, is_legal_in, run_from, is_legal_from, run_after, is_journal}
use Rattle.bf_world.proofs.LawfulLemmas.{IsLawful, core_next, next_lawful, opening_lawful, after_lawful}
use Rattle.bf_world.proofs.PeaceLemmas.{IsPeaceful, after_peaceful}
use Rattle.bf_world.proofs.WaitingLemmas.{decided_queues}

-- want of memory has a cause

-- whoever has arrived for want of memory is told of, and so is what ended a run so
record IsCaused (told : Bool) (state : State) : Type 0 where
  pub short : (rank : ℕ) → is_short (stage state rank) ≡ true → told ≡ true
  pub memory : state.outcome ≡ Some outcomes.Memory → told ≡ true

staged_caused : (state : State) (rank : ℕ) (to : Stage) (told later : Bool) → rank < length state.standings → (is_short to ≡ true → later ≡ true) → (told ≡ true → later ≡ true)
    → IsCaused told state → IsCaused later (with_stage state rank to)
staged_caused state rank to told later within its more caused = record {
  short = λ r short. elim (cases_eq r rank) [
    | inl e ↦ its (sym (ap is_short (ap (stage (with_stage state rank to)) e ∙ stage_same state rank to within)) ∙ short)
    | inr differs ↦ more (caused.short r (ap is_short (sym (stage_other state rank r to differs)) ∙ short))
  ];
  memory = λ ends. more (caused.memory ends);
}

happened_caused : (state : State) (event : Event) (place : Place) (filled told : Bool) → is_legal state event place ≡ true → IsCaused told state
    → IsCaused (told || is_memory event) (happened state event filled)
happened_caused state (Send rank to blocks sum) place filled told legal caused =
    let runs : stage state rank ≡ Running = acting state rank (and_parts (is_active state rank) _ legal).0 in
    let kept : IsCaused (told || false) (with_stage state rank (stage state rank)) =
    staged_caused state rank (stage state rank) told (told || false) (in_list state rank runs) (λ short. absurd (let e : true ≡ false = sym short ∙ ap is_short runs in cc)) (or_left told false) caused in
    record { short = kept.short; memory = kept.memory }
happened_caused state (Recv rank peer) place filled told legal caused =
    let runs : stage state rank ≡ Running = acting state rank (and_parts (is_active state rank) _ (and_parts (is_active state rank && is_just (next_receive place) peer) _ legal).0).0 in
    let kept : IsCaused (told || false) (with_stage state rank (stage state rank)) =
    staged_caused state rank (stage state rank) told (told || false) (in_list state rank runs) (λ short. absurd (let e : true ≡ false = sym short ∙ ap is_short runs in cc)) (or_left told false) caused in
    record { short = kept.short; memory = kept.memory }
happened_caused state (Arrive rank Done) place filled told legal caused =
    staged_caused state rank (Arrived Done filled) told (told || false) (in_list state rank (acting state rank (and_parts (is_active state rank) _ legal).0))
    (λ short. absurd (cc)) (or_left told false) caused
happened_caused state (Arrive rank Broken) place filled told legal caused =
    staged_caused state rank (Arrived Broken false) told (told || false)
    (in_list state rank (acting state rank (and_parts (is_active state rank) _ (and_parts (is_active state rank && waits state rank place) _ legal).0).0))
    (λ short. absurd (cc)) (or_left told false) caused
happened_caused state (Arrive rank Memory) place filled told legal caused =
    staged_caused state rank (Arrived Memory false) told (told || true) (in_list state rank (acting state rank legal)) (λ _. or_right told true refl) (or_left told true) caused
happened_caused state (Leave rank) place filled told legal caused =
    let leaving : stage state rank ≡ Leaving = leaving_stage state rank (and_parts (is_leaving (stage state rank)) _ legal).0 in
    staged_caused state rank (if is_some state.outcome then Ended else Running) told (told || false) (is_rank is_leaving state rank refl (ap is_leaving leaving))
    (λ short. absurd (let e : true ≡ false = sym short ∙ by_end (is_some state.outcome) in cc)) (or_left told false) caused
  where
    by_end : (b : Bool) → is_short (if b then Ended else Running) ≡ false
    by_end true = refl
    by_end false = refl
happened_caused state (Die rank) place filled told legal caused =
    staged_caused state rank Dead told (told || false) (is_rank goes_on state rank refl (and_parts (goes_on (stage state rank)) _ legal).0) (λ short. absurd (cc)) (or_left told false) caused

decided_caused : (state : State) (told : Bool) → state.outcome ≡ None → IsCaused told state → IsCaused told (decided state (decision state))
decided_caused state told none caused = record {
  short = λ rank short. absurd (let e : true ≡ false = sym short ∙ ap is_short (decided_stage state (decision state) rank) ∙ short_after (stage state rank) in cc);
  memory = λ ends.
      let wants : is_short_of_memory state ≡ true =
      (decision_wants state (ends_memory state (decision state) none (sym (decided_outcome state (decision state)) ∙ ends))).1 in
      let one : Someone is_short state = someone is_short state wants in
      caused.short one.0 one.1.1;
}

next_caused : (state : State) (event : Event) (place : Place) (filled told : Bool) → is_legal state event place ≡ true → IsCaused told state
    → IsCaused (told || is_memory event) (next state event filled)
next_caused state event place filled told legal caused = by_event (may_decide event) refl
  where
    before : IsCaused (told || is_memory event) (happened state event filled)
    before = happened_caused state event place filled told legal caused

    by_ripe : (b : Bool) → is_ripe (happened state event filled) ≡ b → IsCaused (told || is_memory event) (settled (happened state event filled))
    by_ripe true ripe = subst (IsCaused (told || is_memory event)) (sym (ripe_decides (happened state event filled) ripe))
        (decided_caused (happened state event filled) (told || is_memory event) (running_where_ripe (happened state event filled) ripe) before)
    by_ripe false unripe = subst (IsCaused (told || is_memory event)) (sym (unripe_waits (happened state event filled) unripe)) before

    by_event : (b : Bool) → may_decide event ≡ b → IsCaused (told || is_memory event) (next state event filled)
    by_event true may = subst (IsCaused (told || is_memory event)) (sym (next_settles state event filled may)) (by_ripe (is_ripe (happened state event filled)) refl)
    by_event false may = subst (IsCaused (told || is_memory event)) (sym (next_happens state event filled may)) before

-- what holds of all listed holds of each
pub listed_all : (homes xs : List ℕ) (x : ℕ) → All (λ home. is_member homes home ≡ true) xs → is_member xs x ≡ true → is_member homes x ≡ true
listed_all homes xs x all member =
    let at : (i : ℕ) × ((i < length xs) × ((get_or xs i 0 == x) ≡ true)) = found (λ y. y == x) xs 0 member in
    ap (is_member homes) (sym (eqb-true _ x at.1.1)) ∙ all at.0 0 at.1.0

-- after an end no message waits
record HasNoQueues (state : State) : Type 0 where
  pub none : (outcome : Outcome) → state.outcome ≡ Some outcome → (count : ℕ) × (state.queues ≡ replicate count 0)

module _ {S L M T R : Type 0} (m : Meanings S L M T R) (good : S → Epoch → ℕ → List L → Type 0) (setup : S)
    (goods : KeepsGood m good setup) (stores : KeepsStored m good setup) where
  from_caused : (run : Run L T) (journal : List Event) (told : Bool) → is_legal_from m setup run journal ≡ true → IsCaused told run.core
      → IsCaused (told || list_any is_memory journal) (run_from m setup run journal).core
  unfolding is_legal_in
  from_caused run [] told legal caused = let P : Bool → Type 0 = λ b. IsCaused b run.core in subst P (sym (or-false told)) caused
  from_caused run (event ∷ events) told legal caused =
      let first : is_legal_in m setup run event ≡ true = (and_parts (is_legal_in m setup run event) _ legal).0 in
      let core_legal : is_legal run.core event (place run (actor event)) ≡ true = (and_parts (is_legal run.core event (place run (actor event))) _ first).0 in
      let P : Bool → Type 0 = λ b. IsCaused b (run_from m setup (next_run m setup run event) events).core in
      subst P (or_assoc told (is_memory event) (list_any is_memory events))
      (from_caused (next_run m setup run event) events (told || is_memory event) (and_parts (is_legal_in m setup run event) _ legal).1
      (subst (IsCaused (told || is_memory event)) (sym (core_next m good setup goods stores run event))
      (next_caused run.core event (place run (actor event)) (will_be_filled m setup run (actor event)) told core_legal caused)))

  unended : (opening_run {T = T} m setup).core.outcome ≡ None
  unfolding opening_run opening
  unended = refl

  opening_caused : IsCaused false (opening_run {T = T} m setup).core
  unfolding opening_run
  opening_caused = record {
    short = λ rank short. absurd (let e : true ≡ false = sym short
        ∙ opening_fails is_short refl refl (m.ranks setup) (m.laid setup) (m.deaths setup) (m.shift setup) (m.steps setup) (m.interval setup) rank in cc);
    memory = λ ends. absurd (let e : None ≡ Some outcomes.Memory = sym unended ∙ ends in cc);
  }

  -- a run ends for want of memory only where a rank has arrived so
  pub memory_caused : (journal : List Event) → is_journal m setup journal ≡ true → (run_after m setup journal).core.outcome ≡ Some outcomes.Memory → list_any is_memory journal ≡ true
  unfolding is_journal run_after
  memory_caused journal legal ends = (from_caused (opening_run m setup) journal false legal opening_caused).memory ends

  next_queues : (run : Run L T) (event : Event) → IsLawful m good setup goods stores run → is_legal run.core event (place run (actor event)) ≡ true → HasNoQueues run.core
      → HasNoQueues (next run.core event (will_be_filled m setup run (actor event)))
  next_queues run event lawful legal before = by_event (may_decide event) refl
    where
      filled : Bool
      filled = will_be_filled m setup run (actor event)

      same : IsSameEpoch run.core (happened run.core event (will_be_filled m setup run (actor event)))
      same = same_epoch run.core event (will_be_filled m setup run (actor event))

      over : (outcome : Outcome) → run.core.outcome ≡ Some outcome → (rank : ℕ) → is_active run.core rank ≡ true → ⊥
      over outcome ends rank active =
          let e : true ≡ false = sym (ap is_open (acting run.core rank active)) ∙ lawful.sound.over outcome ends rank in cc

      kept : (e : Event) → event ≡ e → (outcome : Outcome) → run.core.outcome ≡ Some outcome → (happened run.core e (will_be_filled m setup run (actor event))).queues ≡ run.core.queues
      kept (Send rank to blocks sum) is outcome ends =
          absurd (over outcome ends rank (and_parts (is_active run.core rank) _ (ap (λ e. is_legal run.core e (place run (actor e))) (sym is) ∙ legal)).0)
      kept (Recv rank peer) is outcome ends =
          absurd (over outcome ends rank (and_parts (is_active run.core rank) _ (and_parts (is_active run.core rank && is_just (next_receive (place run rank)) peer) _
          (ap (λ e. is_legal run.core e (place run (actor e))) (sym is) ∙ legal)).0).0)
      kept (Arrive rank how) is outcome ends = refl
      kept (Leave rank) is outcome ends = refl
      kept (Die rank) is outcome ends = refl

      quiet : HasNoQueues (happened run.core event (will_be_filled m setup run (actor event)))
      quiet = record {
        none = λ outcome ends.
            let had = before.none outcome (sym same.outcome ∙ ends) in
            (had.0, kept event refl outcome (sym same.outcome ∙ ends) ∙ had.1);
      }

      by_ripe : (b : Bool) → is_ripe (happened run.core event (will_be_filled m setup run (actor event))) ≡ b → HasNoQueues (settled (happened run.core event (will_be_filled m setup run (actor event))))
      by_ripe true ripe = subst HasNoQueues (sym (ripe_decides (happened run.core event (will_be_filled m setup run (actor event))) ripe))
          (record { none = λ outcome ends. (_, decided_queues (happened run.core event (will_be_filled m setup run (actor event))) (decision (happened run.core event (will_be_filled m setup run (actor event))))) })
      by_ripe false unripe = subst HasNoQueues (sym (unripe_waits (happened run.core event (will_be_filled m setup run (actor event))) unripe)) quiet

      by_event : (b : Bool) → may_decide event ≡ b → HasNoQueues (next run.core event (will_be_filled m setup run (actor event)))
      by_event true may = subst HasNoQueues (sym (next_settles run.core event (will_be_filled m setup run (actor event)) may)) (by_ripe (is_ripe (happened run.core event (will_be_filled m setup run (actor event)))) refl)
      by_event false may = subst HasNoQueues (sym (next_happens run.core event (will_be_filled m setup run (actor event)) may)) quiet

  from_queues : (run : Run L T) (journal : List Event) → IsLawful m good setup goods stores run → is_legal_from m setup run journal ≡ true → HasNoQueues run.core
      → HasNoQueues (run_from m setup run journal).core
  unfolding is_legal_in
  from_queues run [] lawful legal none = none
  from_queues run (event ∷ events) lawful legal none =
      let first : is_legal_in m setup run event ≡ true = (and_parts (is_legal_in m setup run event) _ legal).0 in
      let core_legal : is_legal run.core event (place run (actor event)) ≡ true = (and_parts (is_legal run.core event (place run (actor event))) _ first).0 in
      from_queues (next_run m setup run event) events (next_lawful m good setup goods stores run event lawful first) (and_parts (is_legal_in m setup run event) _ legal).1
      (subst HasNoQueues (sym (core_next m good setup goods stores run event)) (next_queues run event lawful core_legal none))

  after_queues : KeepsLimits m setup → (journal : List Event) → is_journal m setup journal ≡ true → HasNoQueues (run_after m setup journal).core
  unfolding is_journal run_after
  after_queues limits journal legal = from_queues (opening_run m setup) journal (opening_lawful m good setup goods stores limits) legal
      (record { none = λ outcome ends. absurd (let e : None ≡ Some outcome = sym unended ∙ ends in cc) })

  empty_all : (queues : List (List M)) (count : ℕ) → map length queues ≡ replicate count zero → queues ≡ replicate (length queues) []
  empty_all [] count none = refl
  empty_all (queue ∷ queues) zero none = absurd (let e : length (map length (queue ∷ queues)) ≡ 0 = ap length none in omega (arith, e))
  empty_all (queue ∷ queues) (suc count) none =
      let here : length queue ≡ 0 = ap head none in
      let rest : queues ≡ replicate (length queues) [] = empty_all queues count (ap tail none) in
      ap (λ q. q ∷ queues) (nil_from_length queue here) ∙ ap (λ qs. [] ∷ qs) rest
    where
      head : List ℕ → ℕ
      head [] = 0
      head (x ∷ xs) = x

      tail : List ℕ → List ℕ
      tail [] = []
      tail (x ∷ xs) = xs

  -- after an end no message waits
  pub nothing_waits_at_end : KeepsLimits m setup → (journal : List Event) (waiting : Waiting M) (outcome : Outcome) → is_journal m setup journal ≡ true
      → AreQueuesOf m setup (run_after m setup journal) waiting → (run_after m setup journal).core.outcome ≡ Some outcome → waiting ≡ no_messages (m.ranks setup)
  nothing_waits_at_end limits journal waiting outcome legal queues ends =
      let none = (after_queues limits journal legal).none outcome ends in
      let all : waiting.queues ≡ replicate (length waiting.queues) [] = empty_all waiting.queues none.0 (queues.counts ∙ none.1) in
      let P : List (List M) → Type 0 = λ qs. waiting ≡ record { ranks = waiting.ranks; queues = qs } in
      subst P (all ∙ ap (λ n. replicate n []) queues.square) refl
      ∙ ap (λ n. no_messages {M = M} n) queues.ranks

  pub stays_peaceful : KeepsLimits m setup → Losses → NobodyDies m setup → (journal : List Event) → is_journal m setup journal ≡ true → IsPeaceful (run_after m setup journal).core
  unfolding run_after
  stays_peaceful limits losses nobody_dies journal legal = (after_peaceful m good setup goods stores losses limits nobody_dies journal legal).peaceful

  -- a complete run without deaths has finished, or somebody has found no memory
  pub peaceful_end : KeepsLimits m setup → Losses → NobodyDies m setup → (journal : List Event) → is_journal m setup journal ≡ true
      → is_finished (run_after m setup journal).core ≡ true
      → ((run_after m setup journal).core.outcome ≡ Some outcomes.Finished)
      ⊎ (((run_after m setup journal).core.outcome ≡ Some outcomes.Memory) × (list_any is_memory journal ≡ true))
  peaceful_end limits losses nobody_dies journal legal complete = by_outcome (run_after m setup journal).core.outcome refl
    where
      lawful : IsLawful m good setup goods stores (run_after m setup journal)
      lawful = after_lawful m good setup goods stores limits journal legal

      peaceful : IsPeaceful (run_after m setup journal).core
      peaceful = stays_peaceful limits losses nobody_dies journal legal

      rests : goes_on (stage (run_after m setup journal).core 0) ≡ false
      rests = nobody_any goes_on (run_after m setup journal).core refl (not-true _ complete) 0

      life : lives (stage (run_after m setup journal).core 0) ≡ true
      life = peaceful.alive 0 (omega (arith, lawful.sound.size, lawful.steady.ranks, limits.some_rank))

      left_by : (s : Stage) → goes_on s ≡ false → lives s ≡ true → has_ended s ≡ true
      left_by Running goes alive = absurd (cc)
      left_by (Arrived how filled) goes alive = absurd (cc)
      left_by Leaving goes alive = absurd (cc)
      left_by Ended goes alive = refl
      left_by Dead goes dead = absurd (cc)
      left_by Gone goes dead = absurd (cc)

      by_outcome : (o : Option Outcome) → (run_after m setup journal).core.outcome ≡ o
          → ((run_after m setup journal).core.outcome ≡ Some outcomes.Finished)
          ⊎ (((run_after m setup journal).core.outcome ≡ Some outcomes.Memory) × (list_any is_memory journal ≡ true))
      by_outcome None none =
          absurd (let e : true ≡ false = sym (left_by (stage (run_after m setup journal).core 0) rests life) ∙ lawful.fair.unended none 0 in cc)
      by_outcome (Some outcomes.Finished) ends = inl ends
      by_outcome (Some outcomes.Memory) ends = inr (ends, memory_caused journal legal ends)
      by_outcome (Some (outcomes.Lost time home buddy)) ends = absurd (peaceful.unlost time home buddy ends)
