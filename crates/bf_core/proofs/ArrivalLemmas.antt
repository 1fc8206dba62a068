-- Who has arrived broken or has ended, in every state that a journal leads to.
use Rattle.std.proofs.Common.{List, ◌≡◌, ℕ, Bool, true, false, ◌&&◌, length, arith, refl, sym, subst, ◌∙◌, ap, inl, inr}
use Rattle.std.specs.Prelude.{◌==◌, Option, Some, None, is_some, if◌then◌else◌}
use Rattle.std.proofs.lemmas.Bool.{cases_eq, and_parts}
use Rattle.std.proofs.lemmas.List.{length-set}
use Rattle.bf_core.specs.declared.decision.Decision.{Decision}
use Rattle.bf_core.specs.declared.decision.Decision.TheVariants.{Lose, WantMemory, Commit, Restore}
use Rattle.bf_core.specs.declared.event.Event.{Event}
use Rattle.bf_core.specs.declared.event.Event.TheVariants.{Send, Recv, Arrive, Leave, Die}
use Rattle.bf_core.specs.declared.event.How.TheVariants as hows
use Rattle.bf_core.specs.declared.outcome.Outcome.{Outcome}
use Rattle.bf_core.specs.declared.outcome.Outcome.TheVariants as outcomes
use Rattle.bf_core.specs.declared.place.Place.{Place}
use Rattle.bf_core.specs.declared.standing.Stage.{Stage}
use Rattle.bf_core.specs.declared.standing.Stage.TheVariants.{Running, Arrived, Leaving, Ended, Dead, Gone}
use Rattle.bf_core.specs.Stages.{is_dead, is_leaving, goes_on, after_decision}
use Rattle.bf_core.specs.Places.{is_just, next_receive}
use Rattle.bf_core.specs.States.{State, opening, stage, is_active, has_dead_member}
use Rattle.bf_core.specs.Legal.{is_legal, waits, actor}
use Rattle.bf_core.specs.Next.{with_stage, may_decide, happened, is_ripe, decision, decided, settled, ended, committed, next}
use Rattle.bf_core.proofs.StageLemmas.{Someone, someone, is_rank, stage_same, stage_dissolved}
use Rattle.bf_core.proofs.SoundLemmas.{acting, in_list, leaving_stage, opening_fails}
use Rattle.bf_core.proofs.LawLemmas.{IsStep, step_of, IsSameEpoch, same_epoch, next_settles, next_happens, ripe_decides, unripe_waits, running_where_ripe}

-- whether a rank has arrived broken
abbrev pub is_broken : Stage → Bool
is_broken (Arrived hows.Broken filled) = true
is_broken (Arrived hows.Done filled) = false
is_broken (Arrived hows.Memory filled) = false
is_broken _ = false

-- whether a rank has left an ended run
abbrev pub has_ended : Stage → Bool
has_ended Ended = true
has_ended _ = false

-- who has arrived broken did so beside a dead member, and nobody ends while the run goes on
pub record IsFair (state : State) : Type 0 where
  pub broken : (rank : ℕ) → is_broken (stage state rank) ≡ true → Someone is_dead state
  pub unended : state.outcome ≡ None → (rank : ℕ) → has_ended (stage state rank) ≡ false

not_going : (s : Stage) → is_dead s ≡ true → goes_on s ≡ false
not_going Dead _ = refl
not_going Running still = absurd (cc)
not_going (Arrived how filled) still = absurd (cc)
not_going Leaving still = absurd (cc)
not_going Ended still = absurd (cc)
not_going Gone still = absurd (cc)

-- a dead member stays one in an event, before any decision
dead_stays : (state : State) (event : Event) (filled : Bool) → IsStep state event filled
    → length (happened state event filled).standings ≡ length state.standings
    → Someone is_dead state → Someone is_dead (happened state event filled)
dead_stays state event filled step same (rank, (within, dead)) =
    (rank, (omega (arith, within, same), ap is_dead (step.moved.others rank differs) ∙ dead))
  where
    differs : rank ≡ actor event → ⊥
    differs is_actor = let e : true ≡ false = sym step.went ∙ sym (ap (λ r. goes_on (stage state r)) is_actor) ∙ not_going (stage state rank) dead in cc

-- no event changes the number of standings
pub happened_size : (state : State) (event : Event) (filled : Bool) → length (happened state event filled).standings ≡ length state.standings
happened_size state (Send rank to blocks sum) filled = length-set state.standings rank _
happened_size state (Recv rank peer) filled = length-set state.standings rank _
happened_size state (Arrive rank how) filled = length-set state.standings rank _
happened_size state (Leave rank) filled = length-set state.standings rank _
happened_size state (Die rank) filled = length-set state.standings rank _

-- the stage at which a legal event puts its rank
data NewStage (state : State) (event : Event) (filled : Bool) : Type 0 where
  IsQuiet : is_broken (stage (happened state event filled) (actor event)) ≡ false → has_ended (stage (happened state event filled) (actor event)) ≡ false → NewStage state event filled
  IsBroken : has_dead_member state ≡ true → has_ended (stage (happened state event filled) (actor event)) ≡ false → NewStage state event filled
  HasEnded : (outcome : Outcome) → state.outcome ≡ Some outcome → is_broken (stage (happened state event filled) (actor event)) ≡ false → NewStage state event filled

quiet_at : (state : State) (event : Event) (filled : Bool) (to : Stage) → stage (happened state event filled) (actor event) ≡ to → is_broken to ≡ false → has_ended to ≡ false
    → NewStage state event filled
quiet_at state event filled to its unbroken unended = IsQuiet (ap is_broken its ∙ unbroken) (ap has_ended its ∙ unended)

new_stage : (state : State) (event : Event) (place : Place) (filled : Bool) → is_legal state event place ≡ true → NewStage state event filled
new_stage state (Send rank to blocks sum) place filled legal =
    let runs : stage state rank ≡ Running = acting state rank (and_parts (is_active state rank) _ legal).0 in
    quiet_at state (Send rank to blocks sum) filled Running (stage_same state rank (stage state rank) (in_list state rank runs) ∙ runs) refl refl
new_stage state (Recv rank peer) place filled legal =
    let runs : stage state rank ≡ Running =
    acting state rank (and_parts (is_active state rank) _ (and_parts (is_active state rank && is_just (next_receive place) peer) _ legal).0).0 in
    quiet_at state (Recv rank peer) filled Running (stage_same state rank (stage state rank) (in_list state rank runs) ∙ runs) refl refl
new_stage state (Arrive rank hows.Done) place filled legal =
    let runs : stage state rank ≡ Running = acting state rank (and_parts (is_active state rank) _ legal).0 in
    quiet_at state (Arrive rank hows.Done) filled (Arrived hows.Done filled) (stage_same state rank (Arrived hows.Done filled) (in_list state rank runs)) refl refl
new_stage state (Arrive rank hows.Broken) place filled legal =
    let runs : stage state rank ≡ Running =
    acting state rank (and_parts (is_active state rank) _ (and_parts (is_active state rank && waits state rank place) _ legal).0).0 in
    IsBroken (and_parts (is_active state rank && waits state rank place) _ legal).1
    (ap has_ended (stage_same state rank (Arrived hows.Broken false) (in_list state rank runs)))
new_stage state (Arrive rank hows.Memory) place filled legal =
    let runs : stage state rank ≡ Running = acting state rank legal in
    quiet_at state (Arrive rank hows.Memory) filled (Arrived hows.Memory false) (stage_same state rank (Arrived hows.Memory false) (in_list state rank runs)) refl refl
new_stage state (Leave rank) place filled legal = by_outcome state.outcome refl
  where
    leaving : stage state rank ≡ Leaving
    leaving = leaving_stage state rank (and_parts (is_leaving (stage state rank)) _ legal).0

    put : (to : Stage) → stage (with_stage state rank to) rank ≡ to
    put to = stage_same state rank to (is_rank is_leaving state rank refl (ap is_leaving leaving))

    by_outcome : (o : Option Outcome) → state.outcome ≡ o → NewStage state (Leave rank) filled
    by_outcome (Some outcome) ends = HasEnded outcome ends (ap is_broken (put (if is_some state.outcome then Ended else Running)) ∙ unbroken (is_some state.outcome))
      where
        unbroken : (b : Bool) → is_broken (if b then Ended else Running) ≡ false
        unbroken true = refl
        unbroken false = refl
    by_outcome None none = quiet_at state (Leave rank) filled Running
        (put (if is_some state.outcome then Ended else Running) ∙ ap (λ o. if is_some o then Ended else Running) none) refl refl
new_stage state (Die rank) place filled legal =
    quiet_at state (Die rank) filled Dead
    (stage_same state rank Dead (is_rank goes_on state rank refl (and_parts (goes_on (stage state rank)) _ legal).0)) refl refl

pub happened_fair : (state : State) (event : Event) (place : Place) (filled : Bool) → is_legal state event place ≡ true → IsFair state → IsFair (happened state event filled)
happened_fair state event place filled legal fair = record { broken = still_broken; unended = still_unended }
  where
    step : IsStep state event filled
    step = step_of state event place filled legal

    same : IsSameEpoch state (happened state event filled)
    same = same_epoch state event filled

    kept : Someone is_dead state → Someone is_dead (happened state event filled)
    kept = dead_stays state event filled step (happened_size state event filled)

    its_broken : NewStage state event filled → is_broken (stage (happened state event filled) (actor event)) ≡ true → Someone is_dead (happened state event filled)
    its_broken (IsQuiet unbroken _) broken = absurd (let e : true ≡ false = sym broken ∙ unbroken in cc)
    its_broken (IsBroken dead _) broken = kept (someone is_dead state dead)
    its_broken (HasEnded _ _ unbroken) broken = absurd (let e : true ≡ false = sym broken ∙ unbroken in cc)

    still_broken : (rank : ℕ) → is_broken (stage (happened state event filled) rank) ≡ true → Someone is_dead (happened state event filled)
    still_broken rank broken = elim (cases_eq rank (actor event)) [
      | inl e ↦ its_broken (new_stage state event place filled legal) (ap (λ r. is_broken (stage (happened state event filled) r)) (sym e) ∙ broken)
      | inr differs ↦ kept (fair.broken rank (ap is_broken (sym (step.moved.others rank differs)) ∙ broken))
    ]

    its_end : NewStage state event filled → state.outcome ≡ None → has_ended (stage (happened state event filled) (actor event)) ≡ false
    its_end (IsQuiet _ unended) none = unended
    its_end (IsBroken _ unended) none = unended
    its_end (HasEnded outcome ends _) none = absurd (let e : Some outcome ≡ None = sym ends ∙ none in cc)

    still_unended : (happened state event filled).outcome ≡ None → (rank : ℕ) → has_ended (stage (happened state event filled) rank) ≡ false
    still_unended none rank = elim (cases_eq rank (actor event)) [
      | inl e ↦ ap (λ r. has_ended (stage (happened state event filled) r)) e ∙ its_end (new_stage state event place filled legal) (sym same.outcome ∙ none)
      | inr differs ↦ ap has_ended (step.moved.others rank differs) ∙ fair.unended (sym same.outcome ∙ none) rank
    ]

after_unbroken : (s : Stage) → is_broken (after_decision s) ≡ false
after_unbroken Running = refl
after_unbroken (Arrived how filled) = refl
after_unbroken Leaving = refl
after_unbroken Ended = refl
after_unbroken Dead = refl
after_unbroken Gone = refl

after_unended : (s : Stage) → has_ended s ≡ false → has_ended (after_decision s) ≡ false
after_unended Running _ = refl
after_unended (Arrived how filled) _ = refl
after_unended Leaving _ = refl
after_unended Ended still = absurd (cc)
after_unended Dead _ = refl
after_unended Gone _ = refl

pub decided_stage : (state : State) (made : Decision) (rank : ℕ) → stage (decided state made) rank ≡ after_decision (stage state rank)
unfolding decided
decided_stage state (Lose home buddy) rank = stage_dissolved state rank
decided_stage state WantMemory rank = stage_dissolved state rank
decided_stage state Commit rank = at_end (state.epoch.target == state.steps)
  where
    at_end : (b : Bool) → stage (if b then ended state outcomes.Finished else committed state) rank ≡ after_decision (stage state rank)
    at_end true = stage_dissolved state rank
    at_end false = stage_dissolved state rank
decided_stage state Restore rank = stage_dissolved state rank

decided_fair : (state : State) (made : Decision) → state.outcome ≡ None → IsFair state → IsFair (decided state made)
decided_fair state made none fair = record {
  broken = λ rank broken. absurd (let e : true ≡ false = sym broken ∙ ap is_broken (decided_stage state made rank) ∙ after_unbroken (stage state rank) in cc);
  unended = λ _ rank. ap has_ended (decided_stage state made rank) ∙ after_unended (stage state rank) (fair.unended none rank);
}

pub next_fair : (state : State) (event : Event) (place : Place) (filled : Bool) → is_legal state event place ≡ true → IsFair state → IsFair (next state event filled)
next_fair state event place filled legal fair = by_event (may_decide event) refl
  where
    before : IsFair (happened state event filled)
    before = happened_fair state event place filled legal fair

    by_ripe : (b : Bool) → is_ripe (happened state event filled) ≡ b → IsFair (settled (happened state event filled))
    by_ripe true ripe = subst IsFair (sym (ripe_decides (happened state event filled) ripe))
        (decided_fair (happened state event filled) (decision (happened state event filled)) (running_where_ripe (happened state event filled) ripe) before)
    by_ripe false unripe = subst IsFair (sym (unripe_waits (happened state event filled) unripe)) before

    by_event : (b : Bool) → may_decide event ≡ b → IsFair (next state event filled)
    by_event true may = subst IsFair (sym (next_settles state event filled may)) (by_ripe (is_ripe (happened state event filled)) refl)
    by_event false may = subst IsFair (sym (next_happens state event filled may)) before

pub opening_fair : (ranks : ℕ) (filled : List ℕ) (deaths : List (ℕ × ℕ)) (shift steps interval : ℕ) → IsFair (opening ranks filled deaths shift steps interval)
opening_fair ranks filled deaths shift steps interval = record {
  broken = λ rank broken. absurd (let e : true ≡ false = sym broken ∙ opening_fails is_broken refl refl ranks filled deaths shift steps interval rank in cc);
  unended = λ _ rank. opening_fails has_ended refl refl ranks filled deaths shift steps interval rank;
}
