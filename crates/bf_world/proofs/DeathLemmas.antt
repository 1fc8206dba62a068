-- Who lives: exactly the ranks that have not died in the journal.
use Rattle.std.proofs.Common.{◌≡◌, ℕ, ◌+◌, ◌<◌, Bool, true, false, ◌&&◌, ◌||◌, not, List, [], ◌∷◌, filter, length, arith, refl, sym, ◌∙◌, ap, inl, inr}
use Rattle.std.specs.Prelude.{is_some, if◌then◌else◌}
use Rattle.std.specs.List.{range_with_len, list_any}
use Rattle.std.proofs.Math.Bool.{and-true, and-false}
use Rattle.std.proofs.lemmas.Bool.{cases_eq, eq-eqb, ne_eqb, and_parts}
use Rattle.bf_buddy.specs.Members.{is_member}
use Rattle.bf_buddy.proofs.MemberLemmas.{filter_members, member_filter, range_has, range_within}
use Rattle.bf_lemmas.proofs.Lists.{filter_twice}
use Rattle.bf_program.specs.declared.epoch.Epoch.{Epoch}
use Rattle.bf_program.specs.Meanings.{Meanings}
use Rattle.bf_program.specs.Laws.{KeepsGood, KeepsStored}
use Rattle.bf_core.specs.declared.event.Event.{Event}
use Rattle.bf_core.specs.declared.event.Event.TheVariants.{Send, Recv, Arrive, Leave, Die}
use Rattle.bf_core.specs.declared.place.Place.{Place}
use Rattle.bf_core.specs.declared.standing.Stage.{Stage}
use Rattle.bf_core.specs.declared.standing.Stage.TheVariants.{Running, Arrived, Leaving, Ended, Dead, Gone}
use Rattle.bf_core.specs.Stages.{is_done, is_leaving, is_gone, goes_on, lives, after_decision}
use Rattle.bf_core.specs.Places.{is_just, next_receive}
use Rattle.bf_core.specs.States.{State, stage, is_active, live_members}
use Rattle.bf_core.specs.Legal.{actor, is_legal}
use Rattle.bf_core.specs.Next.{with_stage, may_decide, happened, is_ripe, decision, settled, next}
use Rattle.bf_core.proofs.StageLemmas.{is_rank, stage_same, stage_other}
use Rattle.bf_core.proofs.SoundLemmas.{moved_stage, same_tests, acting, active_of, in_list, leaving_stage, opening_runs}
use Rattle.bf_core.proofs.ArrivalLemmas.{decided_stage}
use Rattle.bf_core.proofs.LawLemmas.{next_settles, next_happens, ripe_decides, unripe_waits}
use Rattle.bf_world.specs.Losses.{is_death_of, has_died, survivors}
use Rattle.bf_world.specs.Runs.{Run, place, will_be_filled, opening_run, next_run, is_legal_in, run_from, is_legal_from, run_after, is_journal}
use Rattle.bf_world.proofs.LawfulLemmas.{core_next}

-- a decision keeps who lives
pub lives_after : (s : Stage) → lives (after_decision s) ≡ lives s
lives_after Running = refl
lives_after (Arrived how filled) = refl
lives_after Leaving = refl
lives_after Ended = refl
lives_after Dead = refl
lives_after Gone = refl

-- who lives is not gone
pub live_here : (s : Stage) → lives s ≡ true → not (is_gone s) ≡ true
live_here Running _ = refl
live_here (Arrived how filled) _ = refl
live_here Leaving _ = refl
live_here Ended _ = refl
live_here Dead dead = absurd (cc)
live_here Gone gone = absurd (cc)

-- a live rank has an event that is not its death
kept_lives : (state : State) (rank : ℕ) (to : Stage) → rank < length state.standings → lives to ≡ lives (stage state rank) → (other : ℕ)
    → lives (stage (with_stage state rank to) other) ≡ (lives (stage state other) && true)
kept_lives state rank to within same other =
    same_tests lives state (with_stage state rank to) rank to (moved_stage state rank to within) same other ∙ sym (and-true (lives (stage state other)))

-- after a legal event who lived before it lives, but whose death it was
pub happened_lives : (state : State) (event : Event) (place : Place) (filled : Bool) → is_legal state event place ≡ true → (rank : ℕ)
    → lives (stage (happened state event filled) rank) ≡ (lives (stage state rank) && not (is_death_of rank event))
happened_lives state (Send sender to blocks sum) place filled legal rank =
    kept_lives state sender (stage state sender) (in_list state sender (acting state sender (and_parts (is_active state sender) _ legal).0)) refl rank
happened_lives state (Recv receiver peer) place filled legal rank =
    kept_lives state receiver (stage state receiver)
    (in_list state receiver (acting state receiver (and_parts (is_active state receiver) _ (and_parts (is_active state receiver && is_just (next_receive place) peer) _ legal).0).0)) refl rank
happened_lives state (Arrive member how) place filled legal rank =
    let runs : stage state member ≡ Running = acting state member (active_of state member how place legal) in
    kept_lives state member (Arrived how (is_done how && filled)) (in_list state member runs) (sym (ap lives runs)) rank
happened_lives state (Leave member) place filled legal rank =
    let leaving : stage state member ≡ Leaving = leaving_stage state member (and_parts (is_leaving (stage state member)) _ legal).0 in
    kept_lives state member (if is_some state.outcome then Ended else Running) (is_rank is_leaving state member refl (ap is_leaving leaving))
    (by_end (is_some state.outcome) ∙ sym (ap lives leaving)) rank
  where
    by_end : (b : Bool) → lives (if b then Ended else Running) ≡ true
    by_end true = refl
    by_end false = refl
happened_lives state (Die dead) place filled legal rank = elim (cases_eq rank dead) [
  | inl e ↦ ap (λ r. lives (stage (with_stage state dead Dead) r)) e
      ∙ ap lives (stage_same state dead Dead (is_rank goes_on state dead refl (and_parts (goes_on (stage state dead)) _ legal).0))
      ∙ sym (ap (λ b. lives (stage state rank) && not b) (eq-eqb dead rank (sym e)) ∙ and-false (lives (stage state rank)))
  | inr differs ↦ ap lives (stage_other state dead rank Dead differs)
      ∙ sym (ap (λ b. lives (stage state rank) && not b) (ne_eqb dead rank (λ same. differs (sym same))) ∙ and-true (lives (stage state rank)))
]

-- so it is once the event's decision, if it brings one, is made
pub next_lives : (state : State) (event : Event) (filled : Bool) (rank : ℕ) → lives (stage (next state event filled) rank) ≡ lives (stage (happened state event filled) rank)
next_lives state event filled rank = by_event (may_decide event) refl
  where
    by_ripe : (b : Bool) → is_ripe (happened state event filled) ≡ b → lives (stage (settled (happened state event filled)) rank) ≡ lives (stage (happened state event filled) rank)
    by_ripe true ripe =
        ap (λ s. lives (stage s rank)) (ripe_decides (happened state event filled) ripe)
        ∙ ap lives (decided_stage (happened state event filled) (decision (happened state event filled)) rank)
        ∙ lives_after (stage (happened state event filled) rank)
    by_ripe false unripe = ap (λ s. lives (stage s rank)) (unripe_waits (happened state event filled) unripe)

    by_event : (b : Bool) → may_decide event ≡ b → lives (stage (next state event filled) rank) ≡ lives (stage (happened state event filled) rank)
    by_event true may = ap (λ s. lives (stage s rank)) (next_settles state event filled may) ∙ by_ripe (is_ripe (happened state event filled)) refl
    by_event false may = ap (λ s. lives (stage s rank)) (next_happens state event filled may)

-- the members that live are the ranks that have not died, where each rank that lives is a member
pub live_survivors : (state : State) (told : List Event) (ranks : ℕ) (stays : ℕ → Bool) → state.epoch.members ≡ filter stays (range_with_len 0 ranks)
    → ((rank : ℕ) → rank < ranks → lives (stage state rank) ≡ not (has_died told rank))
    → ((rank : ℕ) → lives (stage state rank) ≡ true → stays rank ≡ true)
    → live_members state ≡ survivors ranks told
unfolding live_members survivors
live_survivors state told ranks stays members alive here =
    ap (filter (λ rank. lives (stage state rank))) members
    ∙ filter_twice (λ rank. lives (stage state rank)) stays (range_with_len 0 ranks)
    ∙ filter_members (λ rank. stays rank && lives (stage state rank)) (λ rank. not (has_died told rank)) (range_with_len 0 ranks)
    (λ rank member.
    let below : rank < 0 + ranks = range_within 0 ranks rank member in
    by_life rank (lives (stage state rank)) refl ∙ alive rank (omega arith))
  where
    by_life : (rank : ℕ) (b : Bool) → lives (stage state rank) ≡ b → (stays rank && lives (stage state rank)) ≡ lives (stage state rank)
    by_life rank true life = ap (λ b. b && lives (stage state rank)) (here rank life)
    by_life rank false dead = ap (λ b. stays rank && b) dead ∙ and-false (stays rank) ∙ sym dead

-- whether a rank is among them
pub member_survivors : (ranks : ℕ) (told : List Event) (rank : ℕ) → rank < ranks → is_member (survivors ranks told) rank ≡ not (has_died told rank)
unfolding survivors
member_survivors ranks told rank below =
    member_filter (λ r. not (has_died told r)) (range_with_len 0 ranks) rank ∙ ap (λ b. b && not (has_died told rank)) (range_has ranks rank below)

module _ {S L M T R : Type 0} (m : Meanings S L M T R) (good : S → Epoch → ℕ → List L → Type 0) (setup : S)
    (goods : KeepsGood m good setup) (stores : KeepsStored m good setup) where
  -- after more events who lived before them lives, but whose death is among them
  from_lives : (run : Run L T) (journal : List Event) → is_legal_from m setup run journal ≡ true → (rank : ℕ)
      → lives (stage (run_from m setup run journal).core rank) ≡ (lives (stage run.core rank) && not (list_any (is_death_of rank) journal))
  unfolding is_legal_in
  from_lives run [] legal rank = sym (and-true (lives (stage run.core rank)))
  from_lives run (event ∷ events) legal rank =
      let first : is_legal_in m setup run event ≡ true = (and_parts (is_legal_in m setup run event) _ legal).0 in
      let core_legal : is_legal run.core event (place run (actor event)) ≡ true = (and_parts (is_legal run.core event (place run (actor event))) _ first).0 in
      let filled : Bool = will_be_filled m setup run (actor event) in
      from_lives (next_run m setup run event) events (and_parts (is_legal_in m setup run event) _ legal).1 rank
      ∙ ap (λ b. b && not (list_any (is_death_of rank) events))
      (ap (λ s. lives (stage s rank)) (core_next m good setup goods stores run event)
      ∙ next_lives run.core event filled rank ∙ happened_lives run.core event (place run (actor event)) filled core_legal rank)
      ∙ and_nor (lives (stage run.core rank)) (is_death_of rank event) (list_any (is_death_of rank) events)
    where
      and_nor : (a b c : Bool) → ((a && not b) && not c) ≡ (a && not (b || c))
      and_nor false b c = refl
      and_nor true true c = refl
      and_nor true false c = refl

  -- at the opening each rank lives
  opening_lives : (rank : ℕ) → rank < m.ranks setup → lives (stage (opening_run {T = T} m setup).core rank) ≡ true
  unfolding opening_run
  opening_lives rank below =
      ap lives (opening_runs (m.ranks setup) (m.laid setup) (m.deaths setup) (m.shift setup) (m.steps setup) (m.interval setup) rank below)

  -- a rank lives exactly where it has not died in the journal
  pub after_lives : (journal : List Event) → is_journal m setup journal ≡ true → (rank : ℕ) → rank < m.ranks setup
      → lives (stage (run_after m setup journal).core rank) ≡ not (has_died journal rank)
  unfolding is_journal run_after
  after_lives journal legal rank below =
      from_lives (opening_run m setup) journal legal rank ∙ ap (λ b. b && not (has_died journal rank)) (opening_lives rank below)
