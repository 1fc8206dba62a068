-- What holds of every state that a journal leads to.
use Rattle.std.proofs.Common.{◌≡◌, ◌≢◌, ℕ, ◌+◌, ◌<◌, ◌≤◌, Bool, true, false, ◌&&◌, ◌||◌, not, List, [], ◌∷◌, map, filter, length, arith, refl, sym, subst, ◌∙◌, ap, inl, inr}
use Rattle.std.specs.Prelude.{◌⊎◌, ◌==◌, Option, Some, None, is_some, if◌then◌else◌}
use Rattle.std.specs.List.{list_any, range_with_len}
use Rattle.std.proofs.lemmas.List.{length-set, length-map, get_or_past}
use Rattle.std.proofs.lemmas.Bool.{cases_eq, cases_lt, and_parts}
use Rattle.bf_core.specs.declared.event.Event.{Event}
use Rattle.bf_core.specs.declared.event.Event.TheVariants.{Send, Recv, Arrive, Leave, Die}
use Rattle.bf_core.specs.declared.event.How.{How}
use Rattle.bf_core.specs.declared.event.How.TheVariants as hows
use Rattle.bf_core.specs.declared.outcome.Outcome.{Outcome}
use Rattle.bf_core.specs.declared.outcome.Outcome.TheVariants as outcomes
use Rattle.bf_buddy.specs.Losses.{first_lost_of}
use Rattle.bf_core.specs.declared.place.Place.{Place}
use Rattle.bf_core.specs.declared.standing.Stage.{Stage}
use Rattle.bf_core.specs.declared.standing.Stage.TheVariants.{Running, Arrived, Leaving, Ended, Dead, Gone}
use Rattle.bf_core.specs.Stages.{is_arrived, is_running, is_leaving, is_awaited, has_finished_rounds, is_gone, goes_on, lives, after_decision}
use Rattle.bf_core.specs.States.{State, stage, standing, is_due, is_active, has_everyone_arrived, is_short_of_memory, live_members, opening}
use Rattle.bf_core.specs.Legal.{is_legal, waits}
use Rattle.bf_core.specs.Places.{is_just, next_receive}
use Rattle.bf_core.specs.Orders.{IsReached}
use Rattle.bf_core.specs.declared.standing.Standing.{Standing}
use Rattle.std.specs.Map.{lookup}
use Rattle.std.proofs.Math.ListN.{get_or}
use Rattle.std.proofs.lemmas.List.FromFn.{length-map-range_with_len, get_or-map-range_with_len}
use Rattle.bf_core.specs.declared.decision.Decision.{Decision}
use Rattle.bf_core.specs.declared.decision.Decision.TheVariants.{Lose, WantMemory, Commit, Restore}
use Rattle.bf_core.specs.Next.{with_stage, decision, decision_where, decided, settled, dissolved, ended, committed, restored, is_everyone_done, next}
use Rattle.bf_core.specs.Journals.{Move, after, are_legal}
use Rattle.bf_lemmas.proofs.Lists.{filter_twice}
use Rattle.bf_core.proofs.ListLemmas.{filter_same, filter_range, all_at}
use Rattle.bf_core.proofs.StageLemmas.{nobody, Someone, Nobody, someone, nobody_any, is_rank, stage_same, stage_other, stage_dissolved}

-- whether a rank is in its rounds or has arrived in an epoch that is not decided
abbrev pub is_open : Stage → Bool
is_open Running = true
is_open (Arrived how filled) = true
is_open _ = false

pub record IsSound (state : State) : Type 0 where
  pub size : length state.standings ≡ state.ranks
  -- while a run goes on, some live rank has not arrived, unless none lives
  pub running : state.outcome ≡ None → Someone is_awaited state ⊎ Nobody goes_on state
  pub over : (outcome : Outcome) → state.outcome ≡ Some outcome → Nobody is_open state
  -- while a run goes on, the members are the ranks that are not gone
  pub members : state.outcome ≡ None → state.epoch.members ≡ filter (λ rank. not (is_gone (stage state rank))) (range_with_len 0 state.ranks)

-- a test of a stage that is known
known : (test : Stage → Bool) (s t : Stage) (b : Bool) → s ≡ t → test t ≡ b → test s ≡ b
known test s t b same passes = ap test same ∙ passes

-- the stages are as before but for one rank's
pub record IsMoved (before after : State) (rank : ℕ) (to : Stage) : Type 0 where
  pub its : stage after rank ≡ to
  pub others : (other : ℕ) → other ≢ rank → stage after other ≡ stage before other

-- a test passes the moved ranks as the ranks before, where it passes the one
pub same_tests : (test : Stage → Bool) (before after : State) (rank : ℕ) (to : Stage) → IsMoved before after rank to → test to ≡ test (stage before rank)
    → (other : ℕ) → test (stage after other) ≡ test (stage before other)
same_tests test before after rank to moved same other = elim (cases_eq other rank) [
  | inl e ↦ let P : ℕ → Type 0 = λ r. test (stage after r) ≡ test (stage before r) in subst P (sym e) (ap test moved.its ∙ same)
  | inr differs ↦ ap test (moved.others other differs)
]

pub nobody_moves : (test : Stage → Bool) (before after : State) (rank : ℕ) (to : Stage) → IsMoved before after rank to → test to ≡ false
    → Nobody test before → Nobody test after
nobody_moves test before after rank to moved fails none other = elim (cases_eq other rank) [
  | inl e ↦ let P : ℕ → Type 0 = λ r. test (stage after r) ≡ false in subst P (sym e) (ap test moved.its ∙ fails)
  | inr differs ↦ ap test (moved.others other differs) ∙ none other
]

pub moved_stage : (state : State) (rank : ℕ) (to : Stage) → rank < length state.standings → IsMoved state (with_stage state rank to) rank to
moved_stage state rank to within = record { its = stage_same state rank to within; others = λ other differs. stage_other state rank other to differs }

sized : (state : State) (rank : ℕ) (to : Stage) → length state.standings ≡ state.ranks → length (with_stage state rank to).standings ≡ state.ranks
sized state rank to size = length-set state.standings rank _ ∙ size

-- a stage that is never gone, in place of another that isn't
pub members_stay : (state : State) (rank : ℕ) (to : Stage) → rank < length state.standings → is_gone to ≡ is_gone (stage state rank)
    → filter (λ r. not (is_gone (stage state r))) (range_with_len 0 state.ranks) ≡ filter (λ r. not (is_gone (stage (with_stage state rank to) r))) (range_with_len 0 state.ranks)
members_stay state rank to within same =
    filter_same _ _ (range_with_len 0 state.ranks) (λ r. ap not (sym (same_tests is_gone state (with_stage state rank to) rank to (moved_stage state rank to within) same r)))

-- a state between an event and the decision that it may bring
pub record IsBrought (state : State) : Type 0 where
  pub size : length state.standings ≡ state.ranks
  over : (outcome : Outcome) → state.outcome ≡ Some outcome → Nobody is_open state
  members : state.outcome ≡ None → state.epoch.members ≡ filter (λ rank. not (is_gone (stage state rank))) (range_with_len 0 state.ranks)

closed : (s : Stage) → is_awaited s ≡ false → is_open (after_decision s) ≡ false
closed Running awaits = absurd (cc)
closed (Arrived how filled) awaits = refl
closed Leaving awaits = absurd (cc)
closed Ended awaits = refl
closed Dead awaits = refl
closed Gone awaits = refl

leaves : (s : Stage) → is_arrived s ≡ true → is_awaited (after_decision s) ≡ true
leaves Running arrives = absurd (cc)
leaves (Arrived how filled) arrives = refl
leaves Leaving arrives = absurd (cc)
leaves Ended arrives = absurd (cc)
leaves Dead arrives = absurd (cc)
leaves Gone arrives = absurd (cc)

rests : (s : Stage) → is_awaited s ≡ false → is_arrived s ≡ false → goes_on (after_decision s) ≡ false
rests Running awaits arrives = absurd (cc)
rests (Arrived how filled) awaits arrives = absurd (cc)
rests Leaving awaits arrives = absurd (cc)
rests Ended awaits arrives = refl
rests Dead awaits arrives = refl
rests Gone awaits arrives = refl

stays_done : (s : Stage) → (is_gone s || has_finished_rounds s) ≡ true → not (is_gone s) ≡ not (is_gone (after_decision s))
stays_done Running holds = absurd (cc)
stays_done (Arrived how filled) holds = refl
stays_done Leaving holds = absurd (cc)
stays_done Ended holds = absurd (cc)
stays_done Dead holds = absurd (cc)
stays_done Gone holds = refl

stays_live : (s : Stage) → (not (is_gone s) && lives s) ≡ not (is_gone (after_decision s))
stays_live Running = refl
stays_live (Arrived how filled) = refl
stays_live Leaving = refl
stays_live Ended = refl
stays_live Dead = refl
stays_live Gone = refl

dissolved_size : (state : State) → length (dissolved state).standings ≡ length state.standings
unfolding dissolved
dissolved_size state = length-map state.standings _

-- after a decision each who arrived leaves, or nobody goes on
go_on : (state : State) → Nobody is_awaited state → Someone is_awaited (dissolved state) ⊎ Nobody goes_on (dissolved state)
go_on state nobody_awaited = by_arrival (list_any (λ s. is_arrived s.stage) state.standings) refl
  where
    by_arrival : (b : Bool) → list_any (λ s. is_arrived s.stage) state.standings ≡ b → Someone is_awaited (dissolved state) ⊎ Nobody goes_on (dissolved state)
    by_arrival true some =
        let one = someone is_arrived state some in
        inl (one.0, (omega (arith, one.1.0, dissolved_size state), ap is_awaited (stage_dissolved state one.0) ∙ leaves (stage state one.0) one.1.1))
    by_arrival false none =
        inr (λ rank. ap goes_on (stage_dissolved state rank) ∙ rests (stage state rank) (nobody_awaited rank) (nobody_any is_arrived state refl none rank))

nobody_open : (state : State) → Nobody is_awaited state → Nobody is_open (dissolved state)
nobody_open state nobody_awaited rank = ap is_open (stage_dissolved state rank) ∙ closed (stage state rank) (nobody_awaited rank)

ended_sound : (state : State) (outcome : Outcome) → IsBrought state → Nobody is_awaited state → IsSound (ended state outcome)
unfolding dissolved
ended_sound state outcome brought nobody_awaited = record {
  size = dissolved_size state ∙ brought.size;
  running = λ none. absurd (cc);
  over = λ _ _. nobody_open state nobody_awaited;
  members = λ none. absurd (cc);
}

pub committed_sound : (state : State) → IsBrought state → state.outcome ≡ None → Nobody is_awaited state → is_everyone_done state ≡ true → IsSound (committed state)
unfolding dissolved
committed_sound state brought none nobody_awaited all_done = record {
  size = dissolved_size state ∙ brought.size;
  running = λ _. go_on state nobody_awaited;
  over = λ outcome ends. absurd (let e : Some outcome ≡ None = sym ends ∙ none in cc);
  members = λ _. brought.members none ∙ filter_same _ _ (range_with_len 0 state.ranks)
      (λ rank. stays_done (stage state rank) (all_at (λ s. is_gone s.stage || has_finished_rounds s.stage) state.standings rank nobody refl all_done)
      ∙ ap (λ s. not (is_gone s)) (sym (stage_dissolved state rank)));
}

pub restored_sound : (state : State) → IsBrought state → state.outcome ≡ None → Nobody is_awaited state → IsSound (restored state)
unfolding dissolved live_members
restored_sound state brought none nobody_awaited = record {
  size = dissolved_size state ∙ brought.size;
  running = λ _. go_on state nobody_awaited;
  over = λ outcome ends. absurd (let e : Some outcome ≡ None = sym ends ∙ none in cc);
  members = λ _. ap (filter (λ rank. lives (stage state rank))) (brought.members none)
      ∙ filter_twice (λ rank. lives (stage state rank)) (λ rank. not (is_gone (stage state rank))) (range_with_len 0 state.ranks)
      ∙ filter_same _ _ (range_with_len 0 state.ranks)
      (λ rank. stays_live (stage state rank) ∙ ap (λ s. not (is_gone s)) (sym (stage_dissolved state rank)));
}

-- a commit is decided where everyone is done
pub commit_when_done : (state : State) → decision state ≡ Commit → is_everyone_done state ≡ true
unfolding decision
commit_when_done state commits = by_loss (first_lost_of state.epoch.homes state.stored (live_members state) state.shift) commits
  where
    by_done : (b : Bool) → is_everyone_done state ≡ b → (if b then Commit else Restore) ≡ Commit → is_everyone_done state ≡ true
    by_done true done _ = done
    by_done false undone restores = absurd (cc)

    by_short : (b : Bool) → (if b then WantMemory else (if is_everyone_done state then Commit else Restore)) ≡ Commit → is_everyone_done state ≡ true
    by_short true wants = absurd (cc)
    by_short false commit = by_done (is_everyone_done state) refl commit

    by_loss : (lost : Option (ℕ × ℕ)) → decision_where lost state ≡ Commit → is_everyone_done state ≡ true
    by_loss (Some lost) loses = absurd (cc)
    by_loss None commit = by_short (is_short_of_memory state) commit

decided_sound : (state : State) (made : Decision) → (made ≡ Commit → is_everyone_done state ≡ true) → IsBrought state → state.outcome ≡ None → Nobody is_awaited state
    → IsSound (decided state made)
unfolding decided
decided_sound state (Lose home buddy) done brought none nobody_awaited = ended_sound state (outcomes.Lost state.epoch.time home buddy) brought nobody_awaited
decided_sound state WantMemory done brought none nobody_awaited = ended_sound state outcomes.Memory brought nobody_awaited
decided_sound state Commit done brought none nobody_awaited = at_end (state.epoch.target == state.steps)
  where
    at_end : (b : Bool) → IsSound (if b then ended state outcomes.Finished else committed state)
    at_end true = ended_sound state outcomes.Finished brought nobody_awaited
    at_end false = committed_sound state brought none nobody_awaited (done refl)
decided_sound state Restore done brought none nobody_awaited = restored_sound state brought none nobody_awaited

settled_sound : (state : State) → IsBrought state → IsSound (settled state)
unfolding settled
settled_sound state brought = by_outcome state.outcome refl
  where
    unripe : state.outcome ≡ None → list_any (λ s. is_awaited s.stage) state.standings ≡ true → IsSound state
    unripe none some = record {
      size = brought.size;
      running = λ _. inl (someone is_awaited state some);
      over = brought.over;
      members = brought.members;
    }

    by_awaited : state.outcome ≡ None → (b : Bool) → list_any (λ s. is_awaited s.stage) state.standings ≡ b
        → IsSound (if not b then decided state (decision state) else state)
    by_awaited none true some = unripe none some
    by_awaited none false nobody_any_awaited =
        decided_sound state (decision state) (commit_when_done state) brought none (nobody_any is_awaited state refl nobody_any_awaited)

    by_outcome : (o : Option Outcome) → state.outcome ≡ o → IsSound (if not (is_some o) && has_everyone_arrived state then decided state (decision state) else state)
    by_outcome (Some outcome) ends = record {
      size = brought.size;
      running = λ none. absurd (let e : Some outcome ≡ None = sym ends ∙ none in cc);
      over = brought.over;
      members = brought.members;
    }
    by_outcome None none = by_awaited none (list_any (λ s. is_awaited s.stage) state.standings) refl

-- a rank that has not arrived arrives or dies
brought_sound : (state : State) (rank : ℕ) (to : Stage) → IsSound state → rank < length state.standings
    → is_gone to ≡ is_gone (stage state rank) → ((outcome : Outcome) → state.outcome ≡ Some outcome → is_open to ≡ false) → IsBrought (with_stage state rank to)
brought_sound state rank to sound within same shut = record {
  size = sized state rank to sound.size;
  over = λ outcome ends. nobody_moves is_open state (with_stage state rank to) rank to (moved_stage state rank to within) (shut outcome ends) (sound.over outcome ends);
  members = λ none. sound.members none ∙ members_stay state rank to within same;
}

-- a rank has an event and stays at its stage
kept_sound : (state : State) (rank : ℕ) → IsSound state → rank < length state.standings → IsSound (with_stage state rank (stage state rank))
kept_sound state rank sound within =
    let moved : IsMoved state (with_stage state rank (stage state rank)) rank (stage state rank) = moved_stage state rank (stage state rank) within in
    record {
      size = sized state rank (stage state rank) sound.size;
      running = λ none. elim (sound.running none) [
        | inl some ↦ inl (
          some.0,
          (
            omega (arith, some.1.0, length-set state.standings rank (record (standing state rank) { stage = stage state rank; events = (standing state rank).events + 1 })),
            same_tests is_awaited state _ rank (stage state rank) moved refl some.0 ∙ some.1.1,
          ),
        )
        | inr nobody_goes ↦ inr (λ other. same_tests goes_on state _ rank (stage state rank) moved refl other ∙ nobody_goes other)
      ];
      over = λ outcome ends. nobody_moves is_open state _ rank (stage state rank) moved (sound.over outcome ends rank) (sound.over outcome ends);
      members = λ none. sound.members none ∙ members_stay state rank (stage state rank) within refl;
    }

-- a rank leaves into the next epoch, or ends
pub left_sound : (state : State) (rank : ℕ) → IsSound state → rank < length state.standings → stage state rank ≡ Leaving
    → IsSound (with_stage state rank (if is_some state.outcome then Ended else Running))
left_sound state rank sound within leaving = by_outcome state.outcome refl
  where
    on : state.outcome ≡ None → IsSound (with_stage state rank Running)
    on none = record {
      size = sized state rank Running sound.size;
      running = λ _. inl (
        rank,
        (
          omega (arith, within, length-set state.standings rank (record (standing state rank) { stage = Running; events = (standing state rank).events + 1 })),
          ap is_awaited (stage_same state rank Running within),
        ),
      );
      over = λ outcome ends. absurd (let e : Some outcome ≡ None = sym ends ∙ none in cc);
      members = λ _. sound.members none ∙ members_stay state rank Running within (ap is_gone (sym leaving));
    }

    away : (outcome : Outcome) → state.outcome ≡ Some outcome → IsSound (with_stage state rank Ended)
    away outcome ends = record {
      size = sized state rank Ended sound.size;
      running = λ none. absurd (let e : Some outcome ≡ None = sym ends ∙ none in cc);
      over = λ other also. nobody_moves is_open state _ rank Ended (moved_stage state rank Ended within) refl (sound.over other also);
      members = λ none. absurd (let e : Some outcome ≡ None = sym ends ∙ none in cc);
    }

    by_outcome : (o : Option Outcome) → state.outcome ≡ o → IsSound (with_stage state rank (if is_some o then Ended else Running))
    by_outcome (Some outcome) ends = away outcome ends
    by_outcome None none = on none

-- a rank that acts in its rounds does them
pub running_stage : (state : State) (rank : ℕ) → is_running (stage state rank) ≡ true → stage state rank ≡ Running
running_stage state rank runs = by_stage (stage state rank) runs
  where
    by_stage : (s : Stage) → is_running s ≡ true → s ≡ Running
    by_stage Running _ = refl
    by_stage (Arrived how filled) arrived = absurd (cc)
    by_stage Leaving leaving = absurd (cc)
    by_stage Ended over = absurd (cc)
    by_stage Dead dead = absurd (cc)
    by_stage Gone gone = absurd (cc)

pub leaving_stage : (state : State) (rank : ℕ) → is_leaving (stage state rank) ≡ true → stage state rank ≡ Leaving
leaving_stage state rank leaving = by_stage (stage state rank) leaving
  where
    by_stage : (s : Stage) → is_leaving s ≡ true → s ≡ Leaving
    by_stage Leaving _ = refl
    by_stage Running runs = absurd (cc)
    by_stage (Arrived how filled) arrived = absurd (cc)
    by_stage Ended over = absurd (cc)
    by_stage Dead dead = absurd (cc)
    by_stage Gone gone = absurd (cc)

pub not_gone : (s : Stage) → goes_on s ≡ true → is_gone s ≡ false
not_gone Running _ = refl
not_gone (Arrived how filled) _ = refl
not_gone Leaving _ = refl
not_gone Ended over = refl
not_gone Dead dead = refl
not_gone Gone gone = absurd (cc)

pub acting : (state : State) (rank : ℕ) → is_active state rank ≡ true → stage state rank ≡ Running
acting state rank active = running_stage state rank (and_parts (is_running (stage state rank)) (not (is_due state rank)) active).0

-- whoever may arrive does its rounds
pub active_of : (state : State) (rank : ℕ) (how : How) (place : Place) → is_legal state (Arrive rank how) place ≡ true → is_active state rank ≡ true
active_of state rank hows.Done place legal = (and_parts (is_active state rank) _ legal).0
active_of state rank hows.Broken place legal = (and_parts (is_active state rank) _ (and_parts (is_active state rank && waits state rank place) _ legal).0).0
active_of state rank hows.Memory place legal = legal

pub in_list : (state : State) (rank : ℕ) → stage state rank ≡ Running → rank < length state.standings
in_list state rank runs = is_rank is_running state rank refl (ap is_running runs)

arrived_sound : (state : State) (rank : ℕ) (how : How) (filled : Bool) → IsSound state → is_active state rank ≡ true
    → IsSound (settled (with_stage state rank (Arrived how filled)))
arrived_sound state rank how filled sound active =
    let runs : stage state rank ≡ Running = acting state rank active in
    settled_sound _ (brought_sound state rank (Arrived how filled) sound (in_list state rank runs) (sym (ap is_gone runs))
    (λ outcome ends. absurd (let e : true ≡ false = sym (ap is_open runs) ∙ sound.over outcome ends rank in cc)))

died_sound : (state : State) (rank : ℕ) → IsSound state → is_due state rank ≡ true → IsSound (settled (with_stage state rank Dead))
died_sound state rank sound due =
    let goes : goes_on (stage state rank) ≡ true = (and_parts (goes_on (stage state rank)) _ due).0 in
    settled_sound _ (brought_sound state rank Dead sound (is_rank goes_on state rank refl goes) (sym (not_gone (stage state rank) goes)) (λ _ _. refl))

pub next_sound : (state : State) (event : Event) (place : Place) (filled : Bool) → IsSound state → is_legal state event place ≡ true → IsSound (next state event filled)
next_sound state (Send rank to blocks sum) place filled sound legal =
    let kept : IsSound (with_stage state rank (stage state rank)) = kept_sound state rank sound (in_list state rank (acting state rank (and_parts (is_active state rank) _ legal).0)) in
    record { size = kept.size; running = kept.running; over = kept.over; members = kept.members }
next_sound state (Recv rank peer) place filled sound legal =
    let kept : IsSound (with_stage state rank (stage state rank)) =
    kept_sound state rank sound (in_list state rank (acting state rank (and_parts (is_active state rank) _ (and_parts (is_active state rank && is_just (next_receive place) peer) _ legal).0).0)) in
    record { size = kept.size; running = kept.running; over = kept.over; members = kept.members }
next_sound state (Arrive rank hows.Done) place filled sound legal = arrived_sound state rank hows.Done filled sound (and_parts (is_active state rank) _ legal).0
next_sound state (Arrive rank hows.Broken) place filled sound legal =
    arrived_sound state rank hows.Broken false sound (and_parts (is_active state rank) _ (and_parts (is_active state rank && waits state rank place) _ legal).0).0
next_sound state (Arrive rank hows.Memory) place filled sound legal = arrived_sound state rank hows.Memory false sound legal
next_sound state (Leave rank) place filled sound legal =
    let leaving : stage state rank ≡ Leaving = leaving_stage state rank (and_parts (is_leaving (stage state rank)) _ legal).0 in
    left_sound state rank sound (is_rank is_leaving state rank refl (ap is_leaving leaving)) leaving
next_sound state (Die rank) place filled sound legal = died_sound state rank sound legal

pub opening_sound : (ranks : ℕ) (filled : List ℕ) (deaths : List (ℕ × ℕ)) (shift steps interval : ℕ) → 1 ≤ ranks → IsSound (opening ranks filled deaths shift steps interval)
unfolding opening
opening_sound ranks filled deaths shift steps interval some_rank =
    let size : length (map {B = Standing} (λ rank. record { stage = Running; death = lookup (λ other. other == rank) deaths; events = 0 }) (range_with_len 0 ranks)) ≡ ranks =
    length-map-range_with_len _ 0 ranks in
    let runs : (rank : ℕ) → rank < ranks → get_or (map {B = Standing} (λ rank. record { stage = Running; death = lookup (λ other. other == rank) deaths; events = 0 }) (range_with_len 0 ranks)) rank nobody
    ≡ record { stage = Running; death = lookup (λ other. other == rank) deaths; events = 0 } =
    λ rank within. get_or-map-range_with_len _ 0 ranks rank rank nobody within (omega arith) in
    record {
      size = size;
      running = λ _. inl (0, (omega (arith, size, some_rank), ap (λ s. is_awaited s.stage) (runs 0 some_rank)));
      over = λ outcome ends. absurd (cc);
      members = λ _. sym (filter_range _ 0 ranks (λ r from below. ap (λ s. not (is_gone s.stage)) (runs r (omega arith))));
    }

pub after_sound : (state : State) (moves : List Move) → IsSound state → are_legal state moves ≡ true → IsSound (after state moves)
after_sound state [] sound legal = sound
after_sound state (move ∷ moves) sound legal =
    after_sound (next state move.event move.filled) moves
    (next_sound state move.event move.place move.filled sound (and_parts (is_legal state move.event move.place) _ legal).0)
    (and_parts (is_legal state move.event move.place) _ legal).1

pub reached_sound : (state : State) → IsReached state → IsSound state
reached_sound state reached = subst IsSound (sym reached.reached)
    (after_sound _ reached.moves (opening_sound reached.ranks reached.filled reached.deaths reached.shift reached.steps reached.interval reached.some_rank) reached.legal)

-- at the opening no stage passes a test that neither those who run nor the gone pass
pub opening_fails : (test : Stage → Bool) → test Running ≡ false → test Gone ≡ false
    → (ranks : ℕ) (filled : List ℕ) (deaths : List (ℕ × ℕ)) (shift steps interval rank : ℕ)
    → test (stage (opening ranks filled deaths shift steps interval) rank) ≡ false
unfolding opening
opening_fails test runs gone ranks filled deaths shift steps interval rank = elim (cases_lt rank ranks) [
  | inl within ↦ ap (λ s. test s.stage) (get_or-map-range_with_len {X = Standing}
      (λ rank. record { stage = Running; death = lookup (λ other. other == rank) deaths; events = 0 }) 0 ranks rank rank nobody within (omega arith)) ∙ runs
  | inr past ↦ ap (λ s. test s.stage) (get_or_past {X = Standing}
      (map {B = Standing} (λ rank. record { stage = Running; death = lookup (λ other. other == rank) deaths; events = 0 }) (range_with_len 0 ranks)) rank nobody
      (omega (arith, past, length-map-range_with_len {X = Standing} (λ rank. record { stage = Running; death = lookup (λ other. other == rank) deaths; events = 0 }) 0 ranks))) ∙ gone
]

-- at the opening nobody has arrived
pub opening_unarrived : (ranks : ℕ) (filled : List ℕ) (deaths : List (ℕ × ℕ)) (shift steps interval rank : ℕ)
    → is_arrived (stage (opening ranks filled deaths shift steps interval) rank) ≡ false
opening_unarrived = opening_fails is_arrived refl refl

-- at the opening each rank does its rounds
pub opening_runs : (ranks : ℕ) (filled : List ℕ) (deaths : List (ℕ × ℕ)) (shift steps interval rank : ℕ) → rank < ranks
    → stage (opening ranks filled deaths shift steps interval) rank ≡ Running
unfolding opening
opening_runs ranks filled deaths shift steps interval rank within = ap (λ s. s.stage) (get_or-map-range_with_len {X = Standing}
    (λ rank. record { stage = Running; death = lookup (λ other. other == rank) deaths; events = 0 }) 0 ranks rank rank nobody within (omega arith))
