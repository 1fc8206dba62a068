-- What an event of a journal brings: who lives at its decision, and which parts are lost by it.
use Rattle.std.proofs.Common.{◌≡◌, ℕ, ◌<◌, Bool, true, false, ◌&&◌, not, List, [], ◌∷◌, ◌++◌, filter, refl, sym, subst, ◌∙◌, ap}
use Rattle.std.specs.Prelude.{◌==◌, Some, None, if◌then◌else◌}
use Rattle.std.specs.List.{range_with_len}
use Rattle.std.proofs.lemmas.Bool.{or_parts, and_parts}
use Rattle.bf_buddy.specs.Members.{is_member}
use Rattle.bf_buddy.specs.Losses.{first_lost_of}
use Rattle.bf_program.specs.declared.epoch.Epoch.{Epoch}
use Rattle.bf_program.specs.Meanings.{Meanings}
use Rattle.bf_program.specs.Laws.{KeepsLimits, KeepsGood, KeepsStored}
use Rattle.bf_core.specs.declared.decision.Decision.{Decision}
use Rattle.bf_core.specs.declared.decision.Decision.TheVariants.{Lose, WantMemory, Commit, Restore}
use Rattle.bf_core.specs.declared.event.Event.{Event}
use Rattle.bf_core.specs.declared.outcome.Outcome.{Outcome}
use Rattle.bf_core.specs.declared.outcome.Outcome.TheVariants as outcomes
use Rattle.bf_core.specs.Stages.{is_gone, lives}
use Rattle.bf_core.specs.States.{State, stage, live_members, first_lost, opening}
use Rattle.bf_core.specs.Legal.{actor, is_legal}
use Rattle.bf_core.specs.Next.{may_decide, happened, is_ripe, decision, decided, dissolved, ended, committed, next}
use Rattle.bf_core.specs.Laws.{LosesAt}
use Rattle.bf_core.proofs.ListLemmas.{filter_range}
use Rattle.bf_core.proofs.LawLemmas.{Losses, IsSameEpoch, same_epoch, running_where_ripe, next_settles, next_happens, ripe_decides, unripe_waits, lost_where}
use Rattle.bf_world.specs.Losses.{has_died, survivors, BothHoldersDied, IsFirstLost, EndsLost, decides_in}
use Rattle.bf_world.specs.Runs.{Run, place, will_be_filled, opening_run, run_happened, next_run, is_legal_in, run_from, is_legal_from, run_after, is_journal}
use Rattle.bf_world.specs.Worlds.{brings_decision, core_after}
use Rattle.bf_world.proofs.LawfulLemmas.{IsLawful, decided_core, core_next, next_lawful, opening_lawful, after_lawful}
use Rattle.bf_world.proofs.RunLemmas.{ripe_next, quiet_run, run_more, journal_joined}
use Rattle.bf_world.proofs.EndLemmas.{listed_all}
use Rattle.bf_world.proofs.DeathLemmas.{live_here, happened_lives, next_lives, live_survivors, after_lives}
use Rattle.bf_world.proofs.LostLemmas.{AreRanks, lost_first, some_lost}

-- an event that brings no decision
quiet_next : (state : State) (event : Event) (filled : Bool) → (may_decide event && is_ripe (happened state event filled)) ≡ false
    → next state event filled ≡ happened state event filled
quiet_next state event filled quiet = by_event (may_decide event) refl quiet
  where
    by_event : (b : Bool) → may_decide event ≡ b → (b && is_ripe (happened state event filled)) ≡ false → next state event filled ≡ happened state event filled
    by_event true may unripe = next_settles state event filled may ∙ unripe_waits (happened state event filled) unripe
    by_event false may _ = next_happens state event filled may

-- an event that brings one
decided_next : (state : State) (event : Event) (filled : Bool) → (may_decide event && is_ripe (happened state event filled)) ≡ true
    → next state event filled ≡ decided (happened state event filled) (decision (happened state event filled))
decided_next state event filled decides =
    let parts = and_parts (may_decide event) (is_ripe (happened state event filled)) decides in
    next_settles state event filled parts.0 ∙ ripe_decides (happened state event filled) parts.1

-- the homes after a decision are those of before, or the members
decided_homes : (state : State) (made : Decision) (P : List ℕ → Type 0) → P state.epoch.homes → P state.epoch.members → P (decided state made).epoch.homes
unfolding decided dissolved
decided_homes state (Lose home buddy) P homes members = homes
decided_homes state WantMemory P homes members = homes
decided_homes state Commit P homes members = at_end (state.epoch.target == state.steps)
  where
    at_end : (b : Bool) → P (if b then ended state outcomes.Finished else committed state).epoch.homes
    at_end true = homes
    at_end false = members
decided_homes state Restore P homes members = homes

-- so what holds of all homes and of the members of a run that goes on holds of the homes after an event
next_homes : (state : State) (event : Event) (filled : Bool) (P : List ℕ → Type 0) → P state.epoch.homes → (state.outcome ≡ None → P state.epoch.members)
    → P (next state event filled).epoch.homes
next_homes state event filled P homes members = by_decision (may_decide event && is_ripe (happened state event filled)) refl
  where
    same : IsSameEpoch state (happened state event filled)
    same = same_epoch state event filled

    by_decision : (b : Bool) → (may_decide event && is_ripe (happened state event filled)) ≡ b → P (next state event filled).epoch.homes
    by_decision true decides =
        let none : state.outcome ≡ None = sym same.outcome ∙ running_where_ripe (happened state event filled) (and_parts (may_decide event) _ decides).1 in
        subst (λ (s : State). P s.epoch.homes) (sym (decided_next state event filled decides))
        (decided_homes (happened state event filled) (decision (happened state event filled)) P
        (subst (λ (e : Epoch). P e.homes) (sym same.epoch) homes) (subst (λ (e : Epoch). P e.members) (sym same.epoch) (members none)))
    by_decision false quiet = subst (λ (s : State). P s.epoch.homes) (sym (quiet_next state event filled quiet)) (subst (λ (e : Epoch). P e.homes) (sym same.epoch) homes)

module _ {S L M T R : Type 0} (m : Meanings S L M T R) (setup : S) where
  -- the state between an event and the decision that it may bring
  abbrev pub between : Run L T → Event → State
  between run event = happened run.core event (will_be_filled m setup run (actor event))

  -- it is the state after an event that brings no decision
  pub quiet_core : (run : Run L T) (event : Event) → brings_decision m setup run event ≡ false → (next_run m setup run event).core ≡ between run event
  quiet_core run event quiet = ap (λ r. r.core) (quiet_run m setup run event quiet)

  -- events that bring no decision keep the outcome
  pub quiet_outcome : (run : Run L T) (later : List Event) → decides_in m setup run later ≡ false → (run_from m setup run later).core.outcome ≡ run.core.outcome
  quiet_outcome run [] quiet = refl
  quiet_outcome run (event ∷ events) quiet =
      let parts = or_parts (brings_decision m setup run event) _ quiet in
      quiet_outcome (next_run m setup run event) events parts.1
      ∙ ap (λ s. s.outcome) (quiet_core run event parts.0)
      ∙ (same_epoch run.core event (will_be_filled m setup run (actor event))).outcome

  -- an ended run is decided no more
  pub quiet_end : (run : Run L T) (event : Event) (outcome : Outcome) → run.core.outcome ≡ Some outcome → brings_decision m setup run event ≡ false
  unfolding brings_decision
  quiet_end run event outcome ends =
      by_ripe (may_decide event) (is_ripe (between run event)) refl
    where
      by_ripe : (a b : Bool) → is_ripe (between run event) ≡ b → (a && b) ≡ false
      by_ripe true true ripe = absurd (let e : Some outcome ≡ None = sym ends ∙ sym (same_epoch run.core event (will_be_filled m setup run (actor event))).outcome
          ∙ running_where_ripe (between run event) ripe in cc)
      by_ripe true false _ = refl
      by_ripe false b _ = refl

  -- so an end lasts
  pub end_lasts : (run : Run L T) (later : List Event) (outcome : Outcome) → run.core.outcome ≡ Some outcome → (run_from m setup run later).core.outcome ≡ Some outcome
  end_lasts run [] outcome ends = ends
  end_lasts run (event ∷ events) outcome ends =
      end_lasts (next_run m setup run event) events outcome
      (ap (λ s. s.outcome) (quiet_core run event (quiet_end run event outcome ends))
      ∙ (same_epoch run.core event (will_be_filled m setup run (actor event))).outcome ∙ ends)

  -- a decision that an event brings
  pub made_core : (run : Run L T) (event : Event) → brings_decision m setup run event ≡ true
      → (next_run m setup run event).core ≡ decided (between run event) (decision (between run event))
  unfolding brings_decision
  made_core run event decides =
      let parts = and_parts (may_decide event) (is_ripe (between run event)) decides in
      ap (λ r. r.core) (ripe_next m setup run event parts.0 parts.1) ∙ decided_core m setup (run_happened m setup run event) (decision (between run event))

module _ {S L M T R : Type 0} (m : Meanings S L M T R) (good : S → Epoch → ℕ → List L → Type 0) (setup : S)
    (goods : KeepsGood m good setup) (stores : KeepsStored m good setup) where
  -- the state after a journal and an event more
  core_more : (journal : List Event) (event : Event) → core_after m setup (journal ++ event ∷ [])
      ≡ next (core_after m setup journal) event (will_be_filled m setup (run_after m setup journal) (actor event))
  core_more journal event = ap (λ r. r.core) (run_more m setup journal event) ∙ core_next m good setup goods stores (run_after m setup journal) event

  -- the homes of the agreed snapshot are ranks
  from_homes : (run : Run L T) (journal : List Event) → IsLawful m good setup goods stores run → is_legal_from m setup run journal ≡ true
      → AreRanks run.core.epoch.homes (m.ranks setup) → AreRanks (run_from m setup run journal).core.epoch.homes (m.ranks setup)
  from_homes run [] lawful legal homes = homes
  from_homes run (event ∷ events) lawful legal homes =
      let parts = and_parts (is_legal_in m setup run event) _ legal in
      from_homes (next_run m setup run event) events (next_lawful m good setup goods stores run event lawful parts.0) parts.1
      (subst (λ (s : State). AreRanks s.epoch.homes (m.ranks setup)) (sym (core_next m good setup goods stores run event))
      (next_homes run.core event (will_be_filled m setup run (actor event)) (λ xs. AreRanks xs (m.ranks setup)) homes
      (λ none. (
        (λ rank. not (is_gone (stage run.core rank))),
        lawful.sound.members none ∙ ap (λ n. filter (λ rank. not (is_gone (stage run.core rank))) (range_with_len 0 n)) lawful.steady.ranks,
      ))))

  -- at the opening they are all ranks
  opening_homes : AreRanks (opening_run {T = T} m setup).core.epoch.homes (m.ranks setup)
  unfolding opening_run opening
  opening_homes = ((λ _. true), sym (filter_range (λ _. true) 0 (m.ranks setup) (λ r _ _. refl)))

  after_homes : KeepsLimits m setup → (journal : List Event) → is_journal m setup journal ≡ true → AreRanks (core_after m setup journal).epoch.homes (m.ranks setup)
  unfolding is_journal run_after
  after_homes limits journal legal = from_homes (opening_run m setup) journal (opening_lawful m good setup goods stores limits) legal opening_homes

  -- a home whose part has a block is a home
  stored_home : KeepsLimits m setup → (journal : List Event) → is_journal m setup journal ≡ true → (home : ℕ)
      → is_member (core_after m setup journal).stored home ≡ true → is_member (core_after m setup journal).epoch.homes home ≡ true
  stored_home limits journal legal home stored =
      let lawful : IsLawful m good setup goods stores (run_after m setup journal) = after_lawful m good setup goods stores limits journal legal in
      listed_all (core_after m setup journal).epoch.homes (m.stored (run_after m setup journal).start) home (stores.homes _ 0 _ lawful.steady.good_start).1
      (ap (λ xs. is_member xs home) (sym lawful.steady.stored) ∙ stored)

  -- a journal and an event that is legal after it
  module _ (limits : KeepsLimits m setup) (journal : List Event) (event : Event) (legal : is_journal m setup (journal ++ event ∷ []) ≡ true) where
    -- both are legal, each in its turn
    legal_parts : (is_journal m setup journal ≡ true) × (is_legal_in m setup (run_after m setup journal) event ≡ true)
    legal_parts =
        let parts = and_parts (is_journal m setup journal) _ (sym (journal_joined m setup journal (event ∷ [])) ∙ legal) in
        (parts.0, (and_parts (is_legal_in m setup (run_after m setup journal) event) true parts.1).0)

    -- the event is legal for the state machine
    pub core_legal : is_legal (core_after m setup journal) event (place (run_after m setup journal) (actor event)) ≡ true
    unfolding is_legal_in
    core_legal = (and_parts (is_legal (core_after m setup journal) event (place (run_after m setup journal) (actor event))) _ legal_parts.1).0

    pub lawful : IsLawful m good setup goods stores (run_after m setup journal)
    lawful = after_lawful m good setup goods stores limits journal legal_parts.0

    -- the event alone keeps what is agreed
    pub same : IsSameEpoch (core_after m setup journal) (between m setup (run_after m setup journal) event)
    same = same_epoch (core_after m setup journal) event (will_be_filled m setup (run_after m setup journal) (actor event))

    -- who lives between the event and its decision
    pub alive_between : (rank : ℕ) → rank < m.ranks setup → lives (stage (between m setup (run_after m setup journal) event) rank) ≡ not (has_died (journal ++ event ∷ []) rank)
    alive_between rank below =
        sym (next_lives (core_after m setup journal) event (will_be_filled m setup (run_after m setup journal) (actor event)) rank)
        ∙ ap (λ s. lives (stage s rank)) (sym (core_more journal event))
        ∙ after_lives m good setup goods stores (journal ++ event ∷ []) legal rank below

    -- who lives then was not gone before
    stays_between : (rank : ℕ) → lives (stage (between m setup (run_after m setup journal) event) rank) ≡ true → not (is_gone (stage (core_after m setup journal) rank)) ≡ true
    stays_between rank life =
        live_here (stage (core_after m setup journal) rank)
        (and_parts (lives (stage (core_after m setup journal) rank)) _
        (sym (happened_lives (core_after m setup journal) event (place (run_after m setup journal) (actor event))
        (will_be_filled m setup (run_after m setup journal) (actor event)) core_legal rank) ∙ life)).0

    -- the members that live then are the ranks that have not died
    pub live_between : (core_after m setup journal).outcome ≡ None → live_members (between m setup (run_after m setup journal) event) ≡ survivors (m.ranks setup) (journal ++ event ∷ [])
    live_between none =
        live_survivors (between m setup (run_after m setup journal) event) (journal ++ event ∷ []) (m.ranks setup) (λ rank. not (is_gone (stage (core_after m setup journal) rank)))
        (ap (λ e. e.members) same.epoch ∙ lawful.sound.members none
        ∙ ap (λ n. filter (λ rank. not (is_gone (stage (core_after m setup journal) rank))) (range_with_len 0 n)) lawful.steady.ranks)
        alive_between stays_between

    -- which part is lost then
    pub lost_between : (core_after m setup journal).outcome ≡ None → first_lost (between m setup (run_after m setup journal) event)
        ≡ first_lost_of (core_after m setup journal).epoch.homes (core_after m setup journal).stored (survivors (m.ranks setup) (journal ++ event ∷ [])) (core_after m setup journal).shift
    lost_between none =
        let now : State = between m setup (run_after m setup journal) event in
        let agreed : State = core_after m setup journal in
        ap (λ e. first_lost_of e.homes now.stored (live_members now) now.shift) same.epoch
        ∙ ap (λ xs. first_lost_of agreed.epoch.homes xs (live_members now) now.shift) same.stored
        ∙ ap (λ xs. first_lost_of agreed.epoch.homes agreed.stored xs now.shift) (live_between none)
        ∙ ap (first_lost_of agreed.epoch.homes agreed.stored (survivors (m.ranks setup) (journal ++ event ∷ []))) same.shift

    -- where the event brings a decision, the run went on before it
    pub decides_parts : brings_decision m setup (run_after m setup journal) event ≡ true
        → (may_decide event ≡ true) × ((is_ripe (between m setup (run_after m setup journal) event) ≡ true) × ((core_after m setup journal).outcome ≡ None))
    unfolding brings_decision
    decides_parts decides =
        let parts = and_parts (may_decide event) (is_ripe (between m setup (run_after m setup journal) event)) decides in
        (parts.0, (parts.1, sym same.outcome ∙ running_where_ripe (between m setup (run_after m setup journal) event) parts.1))

    -- a decided loss names the first part whose holders have both died
    pub loses_first : brings_decision m setup (run_after m setup journal) event ≡ true → (time home buddy : ℕ)
        → (core_after m setup (journal ++ event ∷ [])).outcome ≡ Some (outcomes.Lost time home buddy)
        → IsFirstLost (core_after m setup journal) (journal ++ event ∷ []) time home buddy
    loses_first decides time home buddy ends =
        let none : (core_after m setup journal).outcome ≡ None = (decides_parts decides).1.1 in
        let loses : LosesAt (core_after m setup journal) event (will_be_filled m setup (run_after m setup journal) (actor event)) time home buddy =
        (lost_where (core_after m setup journal) event (will_be_filled m setup (run_after m setup journal) (actor event)) time home buddy none).0
        (ap (λ s. s.outcome) (sym (core_more journal event)) ∙ ends) in
        subst (λ t. IsFirstLost (core_after m setup journal) (journal ++ event ∷ []) t home buddy) (sym loses.agreed)
        (lost_first (core_after m setup journal) (journal ++ event ∷ []) (m.ranks setup) (after_homes limits journal legal_parts.0) (stored_home limits journal legal_parts.0)
        home buddy (sym (lost_between none) ∙ loses.lost))

    -- where both holders of a part have died, a decision is that it is lost
    pub loses_where : Losses → brings_decision m setup (run_after m setup journal) event ≡ true → (home : ℕ)
        → BothHoldersDied (core_after m setup journal) (journal ++ event ∷ []) home
        → EndsLost (core_after m setup journal).epoch.time (core_after m setup (journal ++ event ∷ []))
    loses_where losses decides home died =
        let at = decides_parts decides in
        let pair = some_lost (core_after m setup journal) (journal ++ event ∷ []) (m.ranks setup) (after_homes limits journal legal_parts.0) (stored_home limits journal legal_parts.0) losses home died in (
          pair.0.0,
          (
            pair.0.1,
            ap (λ s. s.outcome) (core_more journal event)
                ∙ (lost_where (core_after m setup journal) event (will_be_filled m setup (run_after m setup journal) (actor event)) (core_after m setup journal).epoch.time pair.0.0 pair.0.1 at.1.1).1
                (record { may = at.0; ripe = at.1.0; agreed = refl; lost = lost_between at.1.1 ∙ pair.1 }),
          ),
        )
