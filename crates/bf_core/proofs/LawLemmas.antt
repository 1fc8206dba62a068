-- The laws of decisions.
use Rattle.std.proofs.Common.{◌≡◌, ℕ, ◌<◌, Bool, true, false, cond, ◌&&◌, ◌||◌, not, List, [], ◌∷◌, filter, length, refl, sym, subst, ◌∙◌, ap, inl, inr}
use Rattle.std.specs.Prelude.{◌==◌, ◌↔◌, Option, Some, None, is_some, if◌then◌else◌}
use Rattle.std.proofs.Math.ListN.{get_or}
use Rattle.std.proofs.lemmas.Bool.{cases_eq, eqb-true, and_parts, or_left, or_right, not-true}
use Rattle.std.proofs.lemmas.List.Elements.{filter_passes}
use Rattle.bf_buddy.specs.Members.{is_member}
use Rattle.bf_buddy.specs.Buddy.{buddy_of}
use Rattle.bf_buddy.specs.Losses.{first_lost_of, LosesNothing}
use Rattle.bf_core.specs.declared.event.Event.{Event}
use Rattle.bf_core.specs.declared.event.Event.TheVariants.{Send, Recv, Arrive, Leave, Die}
use Rattle.bf_core.specs.declared.event.How.TheVariants as hows
use Rattle.bf_core.specs.declared.outcome.Outcome.{Outcome}
use Rattle.bf_core.specs.declared.outcome.Outcome.TheVariants as outcomes
use Rattle.bf_core.specs.declared.place.Place.{Place}
use Rattle.bf_core.specs.declared.standing.Stage.{Stage}
use Rattle.bf_core.specs.declared.standing.Stage.TheVariants.{Running, Arrived, Leaving, Ended, Dead, Gone}
use Rattle.bf_core.specs.Stages.{is_done, is_running, is_leaving, has_finished_rounds, is_gone, goes_on, lives}
use Rattle.bf_core.specs.Places.{is_just, next_send, next_receive, is_past}
use Rattle.bf_core.specs.States.{first_lost, State, stage, standing, is_due, is_active, has_everyone_arrived, has_dead_member, is_short_of_memory, live_members}
use Rattle.bf_core.specs.Legal.{is_legal, waits, actor}
use Rattle.bf_core.specs.declared.decision.Decision.{Decision}
use Rattle.bf_core.specs.declared.decision.Decision.TheVariants.{Lose, WantMemory, Commit, Restore}
use Rattle.bf_core.specs.Next.{with_stage, is_ripe, decision, decision_where, decided, settled, dissolved, ended, committed, is_everyone_done, may_decide, happened, next, Decides}
use Rattle.bf_core.specs.Journals.{Move, after, are_legal}
use Rattle.bf_core.specs.Orders.{IsReached}
use Rattle.bf_core.specs.Laws.{IsFinal, LosesAt, remaining, OnlyLoses, Undecided, HasLost}
use Rattle.bf_core.proofs.ListLemmas.{found, all_at}
use Rattle.bf_core.proofs.StageLemmas.{nobody, is_rank}
use Rattle.bf_core.proofs.SoundLemmas.{IsSound, IsMoved, moved_stage, same_tests, acting, in_list, leaving_stage, not_gone, reached_sound, commit_when_done}

-- an ended run is decided no more
settled_end : (state : State) (outcome : Outcome) → state.outcome ≡ Some outcome → settled state ≡ state
unfolding settled
settled_end state outcome ends = by_outcome state.outcome ends
  where
    by_outcome : (o : Option Outcome) → o ≡ Some outcome → (if not (is_some o) && has_everyone_arrived state then decided state (decision state) else state) ≡ state
    by_outcome (Some other) _ = refl
    by_outcome None ends = absurd (cc)

record IsSameEnd (before after : State) (outcome : Outcome) : Type 0 where
  pub ends : after.outcome ≡ Some outcome
  pub epoch : after.epoch ≡ before.epoch

next_end : (state : State) (event : Event) (filled : Bool) (outcome : Outcome) → state.outcome ≡ Some outcome → IsSameEnd state (next state event filled) outcome
next_end state (Send rank to blocks sum) filled outcome ends = record { ends = ends; epoch = refl }
next_end state (Recv rank peer) filled outcome ends = record { ends = ends; epoch = refl }
next_end state (Arrive rank how) filled outcome ends =
    let same : settled (with_stage state rank (Arrived how (is_done how && filled))) ≡ with_stage state rank (Arrived how (is_done how && filled)) = settled_end _ outcome ends in
    record { ends = ap (λ s. s.outcome) same ∙ ends; epoch = ap (λ s. s.epoch) same }
next_end state (Leave rank) filled outcome ends = record { ends = ends; epoch = refl }
next_end state (Die rank) filled outcome ends =
    let same : settled (with_stage state rank Dead) ≡ with_stage state rank Dead = settled_end _ outcome ends in
    record { ends = ap (λ s. s.outcome) same ∙ ends; epoch = ap (λ s. s.epoch) same }

after_end : (state : State) (moves : List Move) (outcome : Outcome) → state.outcome ≡ Some outcome → IsSameEnd state (after state moves) outcome
after_end state [] outcome ends = record { ends = ends; epoch = refl }
after_end state (move ∷ moves) outcome ends =
    let first : IsSameEnd state (next state move.event move.filled) outcome = next_end state move.event move.filled outcome ends in
    let rest : IsSameEnd (next state move.event move.filled) (after (next state move.event move.filled) moves) outcome = after_end (next state move.event move.filled) moves outcome first.ends in
    record { ends = rest.ends; epoch = rest.epoch ∙ first.epoch }

next_where_ended : (state : State) (event : Event) (filled : Bool) (outcome : Outcome) → state.outcome ≡ Some outcome → next state event filled ≡ happened state event filled
next_where_ended state (Send rank to blocks sum) filled outcome ends = refl
next_where_ended state (Recv rank peer) filled outcome ends = refl
next_where_ended state (Arrive rank how) filled outcome ends = settled_end (happened state (Arrive rank how) filled) outcome ends
next_where_ended state (Leave rank) filled outcome ends = refl
next_where_ended state (Die rank) filled outcome ends = settled_end (happened state (Die rank) filled) outcome ends

pub end_stays : (state : State) (moves : List Move) (outcome : Outcome) → state.outcome ≡ Some outcome → IsFinal state moves outcome
end_stays state moves outcome ends =
    let end : IsSameEnd state (after state moves) outcome = after_end state moves outcome ends in
    record { ends = end.ends; epoch = end.epoch; undecided = λ event filled. next_where_ended (after state moves) event filled outcome end.ends }

-- a rank that is dead or has ended has no legal event
inactive : (state : State) (rank : ℕ) → goes_on (stage state rank) ≡ false → is_active state rank ≡ false
inactive state rank rests = by_stage (stage state rank) (not (is_due state rank)) rests
  where
    by_stage : (s : Stage) (b : Bool) → goes_on s ≡ false → (is_running s && b) ≡ false
    by_stage Running b runs = absurd (cc)
    by_stage (Arrived how filled) b arrived = absurd (cc)
    by_stage Leaving b leaving = absurd (cc)
    by_stage Ended b _ = refl
    by_stage Dead b _ = refl
    by_stage Gone b _ = refl

not_leaving : (s : Stage) (b : Bool) → goes_on s ≡ false → (is_leaving s && b) ≡ false
not_leaving Running b runs = refl
not_leaving (Arrived how filled) b arrived = refl
not_leaving Leaving b leaving = absurd (cc)
not_leaving Ended b _ = refl
not_leaving Dead b _ = refl
not_leaving Gone b _ = refl

pub nothing_legal : (state : State) (event : Event) (place : Place) → goes_on (stage state (actor event)) ≡ false → is_legal state event place ≡ false
nothing_legal state (Send rank to blocks sum) place rests = ap (λ b. b && is_just (next_send place) to) (inactive state rank rests)
nothing_legal state (Recv rank peer) place rests = ap (λ b. b && is_just (next_receive place) peer && not (waits state rank place)) (inactive state rank rests)
nothing_legal state (Arrive rank hows.Done) place rests = ap (λ b. b && is_past place) (inactive state rank rests)
nothing_legal state (Arrive rank hows.Broken) place rests = ap (λ b. b && waits state rank place && has_dead_member state) (inactive state rank rests)
nothing_legal state (Arrive rank hows.Memory) place rests = inactive state rank rests
nothing_legal state (Leave rank) place rests = not_leaving (stage state rank) (not (is_due state rank)) rests
nothing_legal state (Die rank) place rests = ap (λ b. b && is_just (standing state rank).death (standing state rank).events) rests

-- a member of a filtered list passes the test
pub passes : (test : ℕ → Bool) (xs : List ℕ) (x : ℕ) → is_member (filter test xs) x ≡ true → test x ≡ true
passes test xs x member =
    let at : (i : ℕ) × ((i < length (filter test xs)) × ((get_or (filter test xs) i 0 == x) ≡ true)) = found (λ m. m == x) (filter test xs) 0 member in
    ap test (sym (eqb-true _ x at.1.1)) ∙ filter_passes test xs at.0 0 at.1.0

pub members_remain : (state : State) → IsReached state → state.outcome ≡ None → state.epoch.members ≡ remaining state
members_remain state reached none = (reached_sound state reached).members none

finished_where_not_gone : (s : Stage) → (is_gone s || has_finished_rounds s) ≡ true → is_gone s ≡ false → has_finished_rounds s ≡ true
finished_where_not_gone s done stays = by_gone (is_gone s) stays done
  where
    by_gone : (b : Bool) → b ≡ false → (b || has_finished_rounds s) ≡ true → has_finished_rounds s ≡ true
    by_gone true gone _ = absurd (cc)
    by_gone false _ finished = finished

-- what a legal event does to the stages
pub record IsStep (state : State) (event : Event) (filled : Bool) : Type 0 where
  pub to : Stage
  pub moved : IsMoved state (happened state event filled) (actor event) to
  pub went : goes_on (stage state (actor event)) ≡ true
  pub stays : is_gone to ≡ false

alive : (s : Stage) → goes_on s ≡ true → lives s ≡ true
alive Running _ = refl
alive (Arrived how filled) _ = refl
alive Leaving _ = refl
alive Ended over = absurd (cc)
alive Dead dead = absurd (cc)
alive Gone gone = absurd (cc)

active_step : (state : State) (rank : ℕ) → is_active state rank ≡ true → (rank < length state.standings) × (goes_on (stage state rank) ≡ true)
active_step state rank active = let runs : stage state rank ≡ Running = acting state rank active in (in_list state rank runs, ap goes_on runs)

pub step_of : (state : State) (event : Event) (place : Place) (filled : Bool) → is_legal state event place ≡ true → IsStep state event filled
step_of state (Send rank to blocks sum) place filled legal =
    let at : (rank < length state.standings) × (goes_on (stage state rank) ≡ true) = active_step state rank (and_parts (is_active state rank) _ legal).0 in
    let moved : IsMoved state (with_stage state rank (stage state rank)) rank (stage state rank) = moved_stage state rank (stage state rank) at.0 in
    record { to = stage state rank; moved = record { its = moved.its; others = moved.others }; went = at.1; stays = not_gone (stage state rank) at.1 }
step_of state (Recv rank peer) place filled legal =
    let at : (rank < length state.standings) × (goes_on (stage state rank) ≡ true) =
    active_step state rank (and_parts (is_active state rank) _ (and_parts (is_active state rank && is_just (next_receive place) peer) _ legal).0).0 in
    let moved : IsMoved state (with_stage state rank (stage state rank)) rank (stage state rank) = moved_stage state rank (stage state rank) at.0 in
    record { to = stage state rank; moved = record { its = moved.its; others = moved.others }; went = at.1; stays = not_gone (stage state rank) at.1 }
step_of state (Arrive rank hows.Done) place filled legal =
    let at : (rank < length state.standings) × (goes_on (stage state rank) ≡ true) = active_step state rank (and_parts (is_active state rank) _ legal).0 in
    record { to = Arrived hows.Done filled; moved = moved_stage state rank (Arrived hows.Done filled) at.0; went = at.1; stays = refl }
step_of state (Arrive rank hows.Broken) place filled legal =
    let at : (rank < length state.standings) × (goes_on (stage state rank) ≡ true) =
    active_step state rank (and_parts (is_active state rank) _ (and_parts (is_active state rank && waits state rank place) _ legal).0).0 in
    record { to = Arrived hows.Broken false; moved = moved_stage state rank (Arrived hows.Broken false) at.0; went = at.1; stays = refl }
step_of state (Arrive rank hows.Memory) place filled legal =
    let at : (rank < length state.standings) × (goes_on (stage state rank) ≡ true) = active_step state rank legal in
    record { to = Arrived hows.Memory false; moved = moved_stage state rank (Arrived hows.Memory false) at.0; went = at.1; stays = refl }
step_of state (Leave rank) place filled legal =
    let leaving : stage state rank ≡ Leaving = leaving_stage state rank (and_parts (is_leaving (stage state rank)) _ legal).0 in
    record {
      to = if is_some state.outcome then Ended else Running;
      moved = moved_stage state rank _ (is_rank is_leaving state rank refl (ap is_leaving leaving));
      went = ap goes_on leaving;
      stays = by_end (is_some state.outcome);
    }
  where
    by_end : (b : Bool) → is_gone (if b then Ended else Running) ≡ false
    by_end true = refl
    by_end false = refl
step_of state (Die rank) place filled legal =
    let goes : goes_on (stage state rank) ≡ true = (and_parts (goes_on (stage state rank)) _ legal).0 in
    record { to = Dead; moved = moved_stage state rank Dead (is_rank goes_on state rank refl goes); went = goes; stays = refl }

-- an event keeps a rank gone, or not
gone_stays : (state : State) (event : Event) (filled : Bool) → IsStep state event filled → (rank : ℕ)
    → is_gone (stage (happened state event filled) rank) ≡ is_gone (stage state rank)
gone_stays state event filled step rank =
    same_tests is_gone state (happened state event filled) (actor event) step.to step.moved (step.stays ∙ sym (not_gone (stage state (actor event)) step.went)) rank

-- who lives after an event lived before it
lived : (state : State) (event : Event) (filled : Bool) → IsStep state event filled → (rank : ℕ)
    → lives (stage (happened state event filled) rank) ≡ true → lives (stage state rank) ≡ true
lived state event filled step rank lives_now = elim (cases_eq rank (actor event)) [
  | inl e ↦ ap (λ r. lives (stage state r)) e ∙ alive (stage state (actor event)) step.went
  | inr differs ↦ ap lives (sym (step.moved.others rank differs)) ∙ lives_now
]

-- an event keeps the epoch, what is stored and the outcome until a decision
pub record IsSameEpoch (state after : State) : Type 0 where
  pub epoch : after.epoch ≡ state.epoch
  pub stored : after.stored ≡ state.stored
  pub shift : after.shift ≡ state.shift
  pub outcome : after.outcome ≡ state.outcome

pub same_epoch : (state : State) (event : Event) (filled : Bool) → IsSameEpoch state (happened state event filled)
same_epoch state (Send rank to blocks sum) filled = record { epoch = refl; stored = refl; shift = refl; outcome = refl }
same_epoch state (Recv rank peer) filled = record { epoch = refl; stored = refl; shift = refl; outcome = refl }
same_epoch state (Arrive rank how) filled = record { epoch = refl; stored = refl; shift = refl; outcome = refl }
same_epoch state (Leave rank) filled = record { epoch = refl; stored = refl; shift = refl; outcome = refl }
same_epoch state (Die rank) filled = record { epoch = refl; stored = refl; shift = refl; outcome = refl }

pub running_where_ripe : (state : State) → is_ripe state ≡ true → state.outcome ≡ None
running_where_ripe state ripe = by_outcome state.outcome (and_parts (not (is_some state.outcome)) (has_everyone_arrived state) ripe).0
  where
    by_outcome : (o : Option Outcome) → not (is_some o) ≡ true → o ≡ None
    by_outcome (Some outcome) ended = absurd (cc)
    by_outcome None _ = refl

-- a commit is decided only where each member has arrived with all rounds done
pub commit_needs_members : (state : State) (event : Event) (place : Place) (filled : Bool) → IsSound state → is_legal state event place ≡ true
    → is_ripe (happened state event filled) ≡ true → decision (happened state event filled) ≡ Commit → (rank : ℕ) → is_member state.epoch.members rank ≡ true
    → has_finished_rounds (stage (happened state event filled) rank) ≡ true
commit_needs_members state event place filled sound legal ripe commits rank member =
    let step : IsStep state event filled = step_of state event place filled legal in
    let same : IsSameEpoch state (happened state event filled) = same_epoch state event filled in
    let none : state.outcome ≡ None = sym same.outcome ∙ running_where_ripe (happened state event filled) ripe in
    let remains : is_member (remaining state) rank ≡ true = ap (λ members. is_member members rank) (sym (sound.members none)) ∙ member in
    let here : is_gone (stage state rank) ≡ false = not-true _ (passes (λ r. not (is_gone (stage state r))) _ rank remains) in
    finished_where_not_gone (stage (happened state event filled) rank)
    (all_at (λ s. is_gone s.stage || has_finished_rounds s.stage) (happened state event filled).standings rank nobody refl (commit_when_done (happened state event filled) commits))
    (gone_stays state event filled step rank ∙ here)

pub commit_needs_all : (state : State) (event : Event) (place : Place) (filled : Bool) → IsReached state → is_legal state event place ≡ true
    → Decides state event filled Commit → (rank : ℕ) → is_member state.epoch.members rank ≡ true
    → has_finished_rounds (stage (happened state event filled) rank) ≡ true
commit_needs_all state event place filled reached legal decides =
    commit_needs_members state event place filled (reached_sound state reached) legal decides.ripe decides.is_made

-- a restore is decided where no part is lost
pub restore_when_whole : (state : State) → decision state ≡ Restore → first_lost state ≡ None
unfolding decision
restore_when_whole state restores = by_loss (first_lost state) refl restores
  where
    by_loss : (lost : Option (ℕ × ℕ)) → first_lost state ≡ lost → decision_where lost state ≡ Restore → first_lost state ≡ None
    by_loss (Some pair) is_lost loses = absurd (cc)
    by_loss None whole _ = whole

-- the outcome of a decision
abbrev pub outcome_of : State → Decision → Option Outcome
outcome_of state (Lose home buddy) = Some (outcomes.Lost state.epoch.time home buddy)
outcome_of state WantMemory = Some outcomes.Memory
outcome_of state Commit = if state.epoch.target == state.steps then Some outcomes.Finished else state.outcome
outcome_of state Restore = state.outcome

pub decided_outcome : (state : State) (made : Decision) → (decided state made).outcome ≡ outcome_of state made
unfolding decided dissolved
decided_outcome state (Lose home buddy) = refl
decided_outcome state WantMemory = refl
decided_outcome state Commit = at_end (state.epoch.target == state.steps)
  where
    at_end : (b : Bool) → (if b then ended state outcomes.Finished else committed state).outcome ≡ (if b then Some outcomes.Finished else state.outcome)
    at_end true = refl
    at_end false = refl
decided_outcome state Restore = refl

pub ripe_decides : (state : State) → is_ripe state ≡ true → settled state ≡ decided state (decision state)
unfolding settled
ripe_decides state ripe = rw ripe refl

pub unripe_waits : (state : State) → is_ripe state ≡ false → settled state ≡ state
unfolding settled
unripe_waits state unripe = rw unripe refl

lost_decision : (state : State) (home buddy : ℕ) → first_lost state ≡ Some (home, buddy) → decision state ≡ Lose home buddy
unfolding decision
lost_decision state home buddy lost = ap (λ found. decision_where found state) lost

-- a decision that some part is lost is the first lost part
pub decision_lost : (state : State) (home buddy : ℕ) → decision state ≡ Lose home buddy → first_lost state ≡ Some (home, buddy)
unfolding decision
decision_lost state home buddy loses = by_loss (first_lost state) refl loses
  where
    by_done : (b : Bool) → (if b then Commit else Restore) ≡ Lose home buddy → first_lost state ≡ Some (home, buddy)
    by_done true commits = absurd (cc)
    by_done false restores = absurd (cc)

    by_short : (b : Bool) → (if b then WantMemory else (if is_everyone_done state then Commit else Restore)) ≡ Lose home buddy → first_lost state ≡ Some (home, buddy)
    by_short true wants = absurd (cc)
    by_short false commit = by_done (is_everyone_done state) commit

    by_loss : (lost : Option (ℕ × ℕ)) → first_lost state ≡ lost → decision_where lost state ≡ Lose home buddy → first_lost state ≡ Some (home, buddy)
    by_loss (Some (h, b)) is_lost same = is_lost ∙ ap {A = ℕ × ℕ} Some (ap pair_of same)
      where
        pair_of : Decision → ℕ × ℕ
        pair_of (Lose x y) = (x, y)
        pair_of _ = (h, b)
    by_loss None _ commit = by_short (is_short_of_memory state) commit

pub next_settles : (state : State) (event : Event) (filled : Bool) → may_decide event ≡ true → next state event filled ≡ settled (happened state event filled)
next_settles state event filled may = rw may refl

pub next_happens : (state : State) (event : Event) (filled : Bool) → may_decide event ≡ false → next state event filled ≡ happened state event filled
next_happens state event filled may = rw may refl

time_in : Option Outcome → ℕ
time_in (Some (outcomes.Lost time home buddy)) = time
time_in _ = 0

pair_in : Option Outcome → Option (ℕ × ℕ)
pair_in (Some (outcomes.Lost time home buddy)) = Some (home, buddy)
pair_in _ = None

-- a decision of a lost part, told by its outcome
lost_by_outcome : (state : State) (made : Decision) (time home buddy : ℕ) → state.outcome ≡ None → decision state ≡ made
    → outcome_of state made ≡ Some (outcomes.Lost time home buddy) → (time ≡ state.epoch.time) × (first_lost state ≡ Some (home, buddy))
unfolding time_in pair_in
lost_by_outcome state (Lose h b) time home buddy none is_made same =
    (sym (ap time_in same), decision_lost state h b is_made ∙ ap pair_in same)
lost_by_outcome state WantMemory time home buddy none is_made same = absurd (let e : None ≡ Some (home, buddy) = ap pair_in same in cc)
lost_by_outcome state Commit time home buddy none is_made same = at_end (state.epoch.target == state.steps) same
  where
    at_end : (b : Bool) → (if b then Some outcomes.Finished else state.outcome) ≡ Some (outcomes.Lost time home buddy) → (time ≡ state.epoch.time) × (first_lost state ≡ Some (home, buddy))
    at_end true finished = absurd (let e : None ≡ Some (home, buddy) = ap pair_in finished in cc)
    at_end false on = absurd (let e : None ≡ Some (outcomes.Lost time home buddy) = sym none ∙ on in cc)
lost_by_outcome state Restore time home buddy none is_made same = absurd (let e : None ≡ Some (outcomes.Lost time home buddy) = sym none ∙ same in cc)

-- an undecided run ends Lost exactly where a part is lost once every live member has arrived
pub lost_where : (state : State) (event : Event) (filled : Bool) (time home buddy : ℕ) → state.outcome ≡ None
    → ((next state event filled).outcome ≡ Some (outcomes.Lost time home buddy)) ↔ LosesAt state event filled time home buddy
lost_where state event filled time home buddy none = (
  (λ ends. by_event (may_decide event) refl ends),
  (λ loses.
      ap (λ s. s.outcome) (next_settles state event filled loses.may ∙ ripe_decides (happened state event filled) loses.ripe)
      ∙ decided_outcome (happened state event filled) (decision (happened state event filled))
      ∙ ap (outcome_of (happened state event filled)) (lost_decision (happened state event filled) home buddy loses.lost)
      ∙ ap (λ t. Some (outcomes.Lost t home buddy)) (ap (λ e. e.time) same.epoch ∙ sym loses.agreed)),
)
  where
    same : IsSameEpoch state (happened state event filled)
    same = same_epoch state event filled

    quiet : (happened state event filled).outcome ≡ Some (outcomes.Lost time home buddy) → LosesAt state event filled time home buddy
    quiet ends = absurd (let e : None ≡ Some (outcomes.Lost time home buddy) = sym none ∙ sym same.outcome ∙ ends in cc)

    by_ripe : may_decide event ≡ true → (b : Bool) → is_ripe (happened state event filled) ≡ b
        → (settled (happened state event filled)).outcome ≡ Some (outcomes.Lost time home buddy) → LosesAt state event filled time home buddy
    by_ripe may true ripe ends =
        let found : (time ≡ (happened state event filled).epoch.time) × (first_lost (happened state event filled) ≡ Some (home, buddy)) =
        lost_by_outcome (happened state event filled) (decision (happened state event filled)) time home buddy (same.outcome ∙ none) refl
        (sym (decided_outcome (happened state event filled) (decision (happened state event filled)))
        ∙ ap (λ s. s.outcome) (sym (ripe_decides (happened state event filled) ripe)) ∙ ends) in
        record { may = may; ripe = ripe; agreed = found.0 ∙ ap (λ e. e.time) same.epoch; lost = found.1 }
    by_ripe may false unripe ends = quiet (ap (λ s. s.outcome) (sym (unripe_waits (happened state event filled) unripe)) ∙ ends)

    by_event : (b : Bool) → may_decide event ≡ b → (next state event filled).outcome ≡ Some (outcomes.Lost time home buddy) → LosesAt state event filled time home buddy
    by_event true may ends = by_ripe may (is_ripe (happened state event filled)) refl (ap (λ s. s.outcome) (sym (next_settles state event filled may)) ∙ ends)
    by_event false may ends = quiet (ap (λ s. s.outcome) (sym (next_happens state event filled may)) ∙ ends)

-- members of a shorter list are members of a longer one
more_members : (test other : ℕ → Bool) (xs : List ℕ) (x : ℕ) → ((r : ℕ) → test r ≡ true → other r ≡ true)
    → is_member (filter test xs) x ≡ true → is_member (filter other xs) x ≡ true
more_members test other [] x weaker member = member
more_members test other (y ∷ ys) x weaker member = at_first (more_members test other ys x weaker) (test y) refl (other y) refl member
  where
    at_head : (is_member (filter test ys) x ≡ true → is_member (filter other ys) x ≡ true) → (b : Bool) → (b || is_member (filter test ys) x) ≡ true
        → (b || is_member (filter other ys) x) ≡ true
    at_head rest true is_now = refl
    at_head rest false is_later = rest is_later

    at_first : (is_member (filter test ys) x ≡ true → is_member (filter other ys) x ≡ true) → (a : Bool) → test y ≡ a → (b : Bool) → other y ≡ b
        → is_member (cond a (y ∷ filter test ys) (filter test ys)) x ≡ true → is_member (cond b (y ∷ filter other ys) (filter other ys)) x ≡ true
    at_first rest true passes true also is_now = at_head rest (y == x) is_now
    at_first rest true passes false fails is_now = absurd (let e : true ≡ false = sym (weaker y passes) ∙ fails in cc)
    at_first rest false fails true also is_now = or_right (y == x) _ (rest is_now)
    at_first rest false fails false also is_now = rest is_now

abbrev pub Losses : Type 0
Losses = (homes filled live : List ℕ) (shift : ℕ) → (first_lost_of homes filled live shift ≡ None) ↔ LosesNothing homes filled live shift

-- a part that is lost stays lost as members die
stays_lost : Losses → (homes stored members : List ℕ) (shift : ℕ) (before after : ℕ → Bool) → ((r : ℕ) → after r ≡ true → before r ≡ true)
    → first_lost_of homes stored (filter after members) shift ≡ None → first_lost_of homes stored (filter before members) shift ≡ None
stays_lost losses homes stored members shift before after weaker none =
    (losses homes stored (filter before members) shift).1 (λ home member is_filled.
    by_holder home (is_member (filter after members) home) refl ((losses homes stored (filter after members) shift).0 none home member is_filled))
  where
    by_holder : (home : ℕ) (b : Bool) → is_member (filter after members) home ≡ b → (b || is_member (filter after members) (buddy_of homes home shift)) ≡ true
        → (is_member (filter before members) home || is_member (filter before members) (buddy_of homes home shift)) ≡ true
    by_holder home true lives _ = or_left _ _ (more_members after before members home weaker lives)
    by_holder home false dead buddy = or_right (is_member (filter before members) home) _ (more_members after before members (buddy_of homes home shift) weaker buddy)

-- what is lost before an event is lost after it, until a decision
pub lost_after : Losses → (state : State) (event : Event) (filled : Bool) → IsStep state event filled → is_some (first_lost state) ≡ true
    → is_some (first_lost (happened state event filled)) ≡ true
unfolding live_members
lost_after losses state event filled step lost = by_loss (first_lost (happened state event filled)) refl
  where
    same : IsSameEpoch state (happened state event filled)
    same = same_epoch state event filled

    by_loss : (o : Option (ℕ × ℕ)) → first_lost (happened state event filled) ≡ o → is_some o ≡ true
    by_loss (Some pair) _ = refl
    by_loss None none =
        let moved : first_lost_of state.epoch.homes state.stored (filter (λ rank. lives (stage (happened state event filled) rank)) state.epoch.members) state.shift ≡ None =
        sym (ap (λ e. first_lost_of e.homes (happened state event filled).stored (filter (λ rank. lives (stage (happened state event filled) rank)) e.members) (happened state event filled).shift) same.epoch
        ∙ ap (λ stored. first_lost_of state.epoch.homes stored (filter (λ rank. lives (stage (happened state event filled) rank)) state.epoch.members) (happened state event filled).shift) same.stored
        ∙ ap (first_lost_of state.epoch.homes state.stored (filter (λ rank. lives (stage (happened state event filled) rank)) state.epoch.members)) same.shift) ∙ none in
        let before : first_lost state ≡ None =
        stays_lost losses state.epoch.homes state.stored state.epoch.members state.shift (λ rank. lives (stage state rank)) (λ rank. lives (stage (happened state event filled) rank)) (lived state event filled step) moved in
        sym (ap is_some before) ∙ lost

the_pair : (o : Option (ℕ × ℕ)) → is_some o ≡ true → (home : ℕ) × ((buddy : ℕ) × (o ≡ Some (home, buddy)))
the_pair (Some (home, buddy)) _ = (home, (buddy, refl))
the_pair None none = absurd (cc)

only_loses_on : (before now after : State) → now.epoch ≡ before.epoch → OnlyLoses now after → OnlyLoses before after
only_loses_on before now after same (Undecided none epoch) = Undecided none (epoch ∙ same)
only_loses_on before now after same (HasLost home buddy ends) =
    HasLost home buddy (ends ∙ ap (λ e. Some (outcomes.Lost e.time home buddy)) same)

-- after an event in a state with a lost part: undecided with a lost part, or Lost
data Follows (state now : State) : Type 0 where
  StaysLost : now.outcome ≡ None → now.epoch ≡ state.epoch → is_some (first_lost now) ≡ true → Follows state now
  EndsLost : (home buddy : ℕ) → now.outcome ≡ Some (outcomes.Lost state.epoch.time home buddy) → Follows state now

follows : Losses → (state : State) (event : Event) (filled : Bool) → IsStep state event filled → state.outcome ≡ None → is_some (first_lost state) ≡ true
    → Follows state (next state event filled)
follows losses state event filled step none lost = by_event (may_decide event) refl
  where
    same : IsSameEpoch state (happened state event filled)
    same = same_epoch state event filled

    still : is_some (first_lost (happened state event filled)) ≡ true
    still = lost_after losses state event filled step lost

    quiet : (now : State) → now ≡ happened state event filled → Follows state now
    quiet now is_now = subst (Follows state) (sym is_now) (StaysLost (same.outcome ∙ none) same.epoch still)

    loses : is_ripe (happened state event filled) ≡ true → Follows state (settled (happened state event filled))
    loses ripe =
        let pair = the_pair (first_lost (happened state event filled)) still in
        EndsLost pair.0 pair.1.0
        (ap (λ s. s.outcome) (ripe_decides (happened state event filled) ripe)
        ∙ decided_outcome (happened state event filled) (decision (happened state event filled))
        ∙ ap (outcome_of (happened state event filled)) (lost_decision (happened state event filled) pair.0 pair.1.0 pair.1.1)
        ∙ ap (λ e. Some (outcomes.Lost e.time pair.0 pair.1.0)) same.epoch)

    by_ripe : (b : Bool) → is_ripe (happened state event filled) ≡ b → Follows state (settled (happened state event filled))
    by_ripe true ripe = loses ripe
    by_ripe false unripe = quiet _ (unripe_waits (happened state event filled) unripe)

    by_event : (b : Bool) → may_decide event ≡ b → Follows state (next state event filled)
    by_event true may = subst (Follows state) (sym (next_settles state event filled may)) (by_ripe (is_ripe (happened state event filled)) refl)
    by_event false may = quiet _ (next_happens state event filled may)

-- once a part is lost, nothing is decided but that
pub only_loses : Losses → (state : State) (moves : List Move) → state.outcome ≡ None → is_some (first_lost state) ≡ true → are_legal state moves ≡ true
    → OnlyLoses state (after state moves)
only_loses losses state [] none lost legal = Undecided none refl
only_loses losses state (move ∷ moves) none lost legal =
    by_follow (λ now still some. only_loses losses now moves still some)
    (follows losses state move.event move.filled (step_of state move.event move.place move.filled (and_parts (is_legal state move.event move.place) _ legal).0) none lost)
    (and_parts (is_legal state move.event move.place) _ legal).1
  where
    by_follow : ((now : State) → now.outcome ≡ None → is_some (first_lost now) ≡ true → are_legal now moves ≡ true → OnlyLoses now (after now moves))
        → Follows state (next state move.event move.filled) → are_legal (next state move.event move.filled) moves ≡ true
        → OnlyLoses state (after (next state move.event move.filled) moves)
    by_follow rest (StaysLost still epoch some) later = only_loses_on state _ _ epoch (rest _ still some later)
    by_follow rest (EndsLost home buddy ends) later = HasLost home buddy (end_stays _ moves _ ends).ends
