-- A complete journal has an end, where some home of the agreed snapshot has a block.
use Rattle.std.proofs.Common.{◌≡◌, ℕ, ◌<◌, Bool, true, false, ◌&&◌, ◌||◌, not, List, [], ◌∷◌, filter, length, refl, sym, subst, ◌∙◌, ap}
use Rattle.std.specs.Prelude.{◌==◌, Option, Some, None, is_some, if◌then◌else◌}
use Rattle.std.specs.List.{list_any}
use Rattle.std.proofs.lemmas.Bool.{not-true, and_from, and_parts}
use Rattle.bf_buddy.specs.Members.{is_member}
use Rattle.bf_buddy.specs.Losses.{first_lost_of}
use Rattle.bf_core.specs.declared.decision.Decision.{Decision}
use Rattle.bf_core.specs.declared.decision.Decision.TheVariants.{Lose, WantMemory, Commit, Restore}
use Rattle.bf_core.specs.declared.event.Event.{Event}
use Rattle.bf_core.specs.declared.event.Event.TheVariants.{Send, Recv, Arrive, Leave, Die}
use Rattle.bf_core.specs.declared.outcome.Outcome.{Outcome}
use Rattle.bf_core.specs.declared.outcome.Outcome.TheVariants as outcomes
use Rattle.bf_core.specs.declared.place.Place.{Place}
use Rattle.bf_core.specs.declared.standing.Stage.{Stage}
use Rattle.bf_core.specs.declared.standing.Stage.TheVariants.{Running, Arrived, Leaving, Ended, Dead, Gone}
use Rattle.bf_core.specs.Stages.{is_done, is_leaving, is_awaited, goes_on, lives, after_decision, is_gone, has_finished_rounds}
use Rattle.bf_core.specs.States.{State, stage, is_active, live_members, first_lost, is_finished, opening}
use Rattle.bf_core.specs.Places.{is_just, next_receive}
use Rattle.bf_core.specs.Legal.{is_legal, actor}
use Rattle.bf_core.specs.Next.{may_decide, happened, is_ripe, decision, decided, settled, dissolved, ended, committed, restored, is_everyone_done, next}
use Rattle.bf_core.specs.Journals.{Move, after, are_legal}
use Rattle.bf_core.specs.Orders.{IsReached}
use Rattle.bf_core.proofs.ListLemmas.{all_at}
use Rattle.bf_core.proofs.StageLemmas.{nobody, Someone, Nobody, someone, nobody_any, is_rank, stage_same, stage_dissolved}
use Rattle.bf_core.proofs.SoundLemmas.{commit_when_done, opening_runs, acting, in_list, leaving_stage}
use Rattle.bf_core.proofs.LawLemmas.{Losses, IsStep, step_of, same_epoch, next_settles, next_happens, ripe_decides, unripe_waits, restore_when_whole}
use Rattle.bf_core.proofs.ArrivalLemmas.{IsFair, has_ended, happened_fair, next_fair, opening_fair}

-- while the run has no end, nobody is left only where nothing that is stored is lost to the dead
abbrev HasNoneLeft : State → Type 0
HasNoneLeft state = state.outcome ≡ None → Nobody goes_on state → first_lost_of state.epoch.homes state.stored [] state.shift ≡ None

still_awaited : (s : Stage) → is_awaited s ≡ false → has_ended s ≡ false → lives s ≡ true → goes_on (after_decision s) ≡ true
still_awaited Running awaits ended alive = absurd (cc)
still_awaited (Arrived how filled) awaits ended alive = refl
still_awaited Leaving awaits ended alive = absurd (cc)
still_awaited Ended awaits ended alive = absurd (cc)
still_awaited Dead awaits ended alive = absurd (cc)
still_awaited Gone awaits ended alive = absurd (cc)

filter_none : (test : ℕ → Bool) (xs : List ℕ) → ((x : ℕ) → test x ≡ false) → filter test xs ≡ []
filter_none test [] fails = refl
filter_none test (x ∷ xs) fails = rw (fails x) (filter_none test xs fails)

-- who is awaited goes on
awaited_goes : (s : Stage) → is_awaited s ≡ true → goes_on s ≡ true
awaited_goes Running _ = refl
awaited_goes Leaving _ = refl
awaited_goes (Arrived how filled) _ = refl
awaited_goes Ended still = absurd (cc)
awaited_goes Dead still = absurd (cc)
awaited_goes Gone still = absurd (cc)

-- a run that goes on and is not to be decided has a rank that goes on
unripe_goes : (state : State) → is_ripe state ≡ false → state.outcome ≡ None → Nobody goes_on state → ⊥
unripe_goes state unripe none nobody_goes = by_any (list_any (λ s. is_awaited s.stage) state.standings) refl
  where
    by_any : (b : Bool) → list_any (λ s. is_awaited s.stage) state.standings ≡ b → ⊥
    by_any true some =
        let one : Someone is_awaited state = someone is_awaited state some in
        let e : true ≡ false = sym (awaited_goes (stage state one.0) one.1.1) ∙ nobody_goes one.0 in cc
    by_any false nobody_awaited =
        let e : true ≡ false = sym (and_from _ _ (ap (λ o. not (is_some o)) none) (ap not nobody_awaited)) ∙ unripe in cc

-- who acts without bringing a decision goes on
quiet_goes : (state : State) (event : Event) (place : Place) (filled : Bool) → is_legal state event place ≡ true → may_decide event ≡ false → state.outcome ≡ None
    → goes_on (stage (happened state event filled) (actor event)) ≡ true
quiet_goes state (Send rank to blocks sum) place filled legal quiet none =
    let runs : stage state rank ≡ Running = acting state rank (and_parts (is_active state rank) _ legal).0 in
    ap goes_on (stage_same state rank (stage state rank) (in_list state rank runs) ∙ runs)
quiet_goes state (Recv rank peer) place filled legal quiet none =
    let runs : stage state rank ≡ Running = acting state rank (and_parts (is_active state rank) _ (and_parts (is_active state rank && is_just (next_receive place) peer) _ legal).0).0 in
    ap goes_on (stage_same state rank (stage state rank) (in_list state rank runs) ∙ runs)
quiet_goes state (Arrive rank how) place filled legal quiet none = absurd (cc)
quiet_goes state (Leave rank) place filled legal quiet none =
    let leaving : stage state rank ≡ Leaving = leaving_stage state rank (and_parts (is_leaving (stage state rank)) _ legal).0 in
    ap goes_on (stage_same state rank _ (is_rank is_leaving state rank refl (ap is_leaving leaving)) ∙ ap (λ o. if is_some o then Ended else Running) none)
quiet_goes state (Die rank) place filled legal quiet none = absurd (cc)

-- where a commit is decided, a rank goes on
commit_goes : (state : State) (event : Event) (place : Place) (filled : Bool) → is_legal state event place ≡ true → may_decide event ≡ true
    → is_everyone_done (happened state event filled) ≡ true → Nobody goes_on (dissolved (happened state event filled)) → ⊥
commit_goes state (Send rank to blocks sum) place filled legal may done nobody_goes = absurd (cc)
commit_goes state (Recv rank peer) place filled legal may done nobody_goes = absurd (cc)
commit_goes state (Leave rank) place filled legal may done nobody_goes = absurd (cc)
commit_goes state (Arrive rank how) place filled legal may done nobody_goes =
    let step : IsStep state (Arrive rank how) filled = step_of state (Arrive rank how) place filled legal in
    let within : rank < length state.standings = is_rank goes_on state rank refl step.went in
    let e : true ≡ false = ap (λ s. goes_on (after_decision s)) (sym (stage_same state rank (Arrived how (is_done how && filled)) within))
    ∙ ap goes_on (sym (stage_dissolved (happened state (Arrive rank how) filled) rank)) ∙ nobody_goes rank in cc
commit_goes state (Die rank) place filled legal may done nobody_goes =
    let step : IsStep state (Die rank) filled = step_of state (Die rank) place filled legal in
    let within : rank < length state.standings = is_rank goes_on state rank refl step.went in
    let e : false ≡ true = ap (λ s. is_gone s || has_finished_rounds s) (sym (stage_same state rank Dead within))
    ∙ all_at (λ s. is_gone s.stage || has_finished_rounds s.stage) (happened state (Die rank) filled).standings rank nobody refl done in cc

restored_alone : (state : State) → is_ripe state ≡ true → IsFair state → first_lost state ≡ None → HasNoneLeft (restored state)
unfolding dissolved live_members
restored_alone state ripe fair whole none nobody_goes =
    ap (λ live. first_lost_of state.epoch.homes state.stored live state.shift) (sym (filter_none (λ rank. lives (stage state rank)) state.epoch.members dead)) ∙ whole
  where
    unawaited : Nobody is_awaited state
    unawaited = nobody_any is_awaited state refl (not-true _ (and_parts (not (is_some state.outcome)) (not (list_any (λ s. is_awaited s.stage) state.standings)) ripe).1)

    dead : (rank : ℕ) → lives (stage state rank) ≡ false
    dead rank = by_life (lives (stage state rank)) refl
      where
        by_life : (b : Bool) → lives (stage state rank) ≡ b → b ≡ false
        by_life false _ = refl
        by_life true alive =
            let e : true ≡ false = sym (still_awaited (stage state rank) (unawaited rank) (fair.unended none rank) alive)
            ∙ ap goes_on (sym (stage_dissolved state rank)) ∙ nobody_goes rank in absurd (cc)

decided_left : (state : State) (event : Event) (place : Place) (filled : Bool) → is_legal state event place ≡ true → may_decide event ≡ true
    → is_ripe (happened state event filled) ≡ true → IsFair (happened state event filled) → (made : Decision) → decision (happened state event filled) ≡ made
    → HasNoneLeft (decided (happened state event filled) made)
unfolding decided dissolved
decided_left state event place filled legal may ripe fair (Lose home buddy) is_made = λ none nobody_goes. absurd (cc)
decided_left state event place filled legal may ripe fair WantMemory is_made = λ none nobody_goes. absurd (cc)
decided_left state event place filled legal may ripe fair Commit is_made =
    at_end ((happened state event filled).epoch.target == (happened state event filled).steps)
  where
    at_end : (b : Bool) → HasNoneLeft (if b then ended (happened state event filled) outcomes.Finished else committed (happened state event filled))
    at_end true none nobody_goes = absurd (cc)
    at_end false none nobody_goes =
        absurd (commit_goes state event place filled legal may (commit_when_done (happened state event filled) is_made) nobody_goes)
decided_left state event place filled legal may ripe fair Restore is_made =
    restored_alone (happened state event filled) ripe fair (restore_when_whole (happened state event filled) is_made)

next_left : (state : State) (event : Event) (place : Place) (filled : Bool) → is_legal state event place ≡ true → IsFair state → HasNoneLeft (next state event filled)
next_left state event place filled legal fair = by_event (may_decide event) refl
  where
    before : IsFair (happened state event filled)
    before = happened_fair state event place filled legal fair

    by_ripe : may_decide event ≡ true → (b : Bool) → is_ripe (happened state event filled) ≡ b → HasNoneLeft (settled (happened state event filled))
    by_ripe may true ripe = subst HasNoneLeft (sym (ripe_decides (happened state event filled) ripe)) (decided_left state event place filled legal may ripe before (decision (happened state event filled)) refl)
    by_ripe may false unripe = subst HasNoneLeft (sym (unripe_waits (happened state event filled) unripe))
        (λ none nobody_goes. absurd (unripe_goes (happened state event filled) unripe none nobody_goes))

    by_event : (b : Bool) → may_decide event ≡ b → HasNoneLeft (next state event filled)
    by_event true may = subst HasNoneLeft (sym (next_settles state event filled may)) (by_ripe may (is_ripe (happened state event filled)) refl)
    by_event false may = subst HasNoneLeft (sym (next_happens state event filled may))
        (λ none nobody_goes. absurd (let e : true ≡ false = sym (quiet_goes state event place filled legal may (sym (same_epoch state event filled).outcome ∙ none)) ∙ nobody_goes (actor event) in cc))

after_left : (state : State) (moves : List Move) → IsFair state → HasNoneLeft state → are_legal state moves ≡ true → IsFair (after state moves) × HasNoneLeft (after state moves)
after_left state [] fair left legal = (fair, left)
after_left state (move ∷ moves) fair left legal =
    after_left (next state move.event move.filled) moves
    (next_fair state move.event move.place move.filled (and_parts (is_legal state move.event move.place) _ legal).0 fair)
    (next_left state move.event move.place move.filled (and_parts (is_legal state move.event move.place) _ legal).0 fair)
    (and_parts (is_legal state move.event move.place) _ legal).1

reached_left : (state : State) → IsReached state → HasNoneLeft state
reached_left state reached = subst HasNoneLeft (sym reached.reached)
    (after_left (opening reached.ranks reached.filled reached.deaths reached.shift reached.steps reached.interval) reached.moves
    (opening_fair reached.ranks reached.filled reached.deaths reached.shift reached.steps reached.interval)
    opening_left reached.legal).1
  where
    opening_left : HasNoneLeft (opening reached.ranks reached.filled reached.deaths reached.shift reached.steps reached.interval)
    opening_left none nobody_goes =
        let e : true ≡ false = sym (ap goes_on (opening_runs reached.ranks reached.filled reached.deaths reached.shift reached.steps reached.interval 0 reached.some_rank)) ∙ nobody_goes 0 in
        absurd (cc)

-- a run in which all ranks are dead or have left an ended run has an end, where a home has a block
pub has_end : Losses → (state : State) → IsReached state → is_finished state ≡ true → (home : ℕ) → is_member state.epoch.homes home ≡ true → is_member state.stored home ≡ true
    → is_some state.outcome ≡ true
has_end losses state reached finished home is_home stored = by_outcome state.outcome refl
  where
    nobody_goes : Nobody goes_on state
    nobody_goes = nobody_any goes_on state refl (not-true _ finished)

    by_outcome : (o : Option Outcome) → state.outcome ≡ o → is_some o ≡ true
    by_outcome (Some outcome) _ = refl
    by_outcome None none =
        let held : false ≡ true = (losses state.epoch.homes state.stored [] state.shift).0 (reached_left state reached none nobody_goes) home is_home stored in cc
