-- The next state, and how an epoch is decided.
use Rattle.std.specs.Prelude.{ℕ, ◌≡◌, IsTrue, ◌+◌, ◌-◌, Bool, true, false, ◌&&◌, ◌||◌, not, ◌==◌, List, filter, replicate, length, slice_set, Option, Some, None, is_some, if◌then◌else◌}
use Rattle.std.specs.List.{list_all}
use Rattle.bf_program.specs.Epochs.{epoch_after_commit, epoch_after_restore}
use Rattle.bf_core.specs.declared.decision.Decision.{Decision}
use Rattle.bf_core.specs.declared.decision.Decision.TheVariants.{Lose, WantMemory, Commit, Restore}
use Rattle.bf_core.specs.declared.event.Event.{Event}
use Rattle.bf_core.specs.declared.event.Event.TheVariants.{Send, Recv, Arrive, Leave, Die}
use Rattle.bf_core.specs.declared.outcome.Outcome.{Outcome}
use Rattle.bf_core.specs.declared.outcome.Outcome.TheVariants as outcomes
use Rattle.bf_core.specs.declared.standing.Stage.{Stage}
use Rattle.bf_core.specs.declared.standing.Stage.TheVariants.{Running, Arrived, Ended, Dead}
use Rattle.bf_core.specs.Stages.{is_done, has_finished_rounds, is_filled, is_gone}
use Rattle.bf_core.specs.Rolls.{with_stage_in, dissolved_in}
use Rattle.bf_core.specs.States.{State, stage, channel, queue, has_everyone_arrived, is_short_of_memory, live_members, first_lost}

-- a state in which a rank has had one event more and is at a stage
abbrev pub with_stage : State → ℕ → Stage → State
with_stage state rank stage = record state { standings = with_stage_in state.standings rank stage }

-- a state in which a rank has had one event more and is at the stage of before
abbrev pub with_event : State → ℕ → State
with_event state rank = with_stage state rank (stage state rank)

-- a state in which so many messages wait from one rank to another
abbrev pub with_queue : State → (from to length : ℕ) → State
with_queue state from to length = record state { queues = slice_set state.queues (channel state.ranks from to) length }

-- whether every member lives and has arrived with all rounds done
abbrev pub is_everyone_done : State → Bool
is_everyone_done state = list_all (λ s. is_gone s.stage || has_finished_rounds s.stage) state.standings

-- the decision, where no part of the agreed snapshot is lost
abbrev pub decision_of_whole : State → Decision
decision_of_whole state =
    if is_short_of_memory state then WantMemory else (if is_everyone_done state then Commit else Restore)

-- the decision: the first that applies of a lost part, want of memory, a commit and a restore
abbrev pub decision_where : Option (ℕ × ℕ) → State → Decision
decision_where (Some lost) state = Lose lost.0 lost.1
decision_where None state = decision_of_whole state

unfoldable pub decision : State → Decision
decision state = decision_where (first_lost state) state

-- the members whose parts of the new snapshot have a block
unfoldable pub filled_members : State → List ℕ
filled_members state = filter (λ rank. is_filled (stage state rank)) state.epoch.members

-- a state whose epoch is decided: each who arrived must leave, and no message waits
unfoldable pub dissolved : State → State
dissolved state = record state {
  standings = dissolved_in state.standings;
  queues = replicate (length state.queues) 0;
}

abbrev pub ended : State → Outcome → State
ended state outcome = record (dissolved state) { outcome = Some outcome }

abbrev pub committed : State → State
committed state = record (dissolved state) {
  epoch = epoch_after_commit state.steps state.interval state.epoch;
  stored = filled_members state;
}

abbrev pub restored : State → State
restored state = record (dissolved state) { epoch = epoch_after_restore (live_members state) state.epoch }

-- a state after a decision
unfoldable pub decided : State → Decision → State
decided state (Lose home buddy) = ended state (outcomes.Lost state.epoch.time home buddy)
decided state WantMemory = ended state outcomes.Memory
decided state Commit = if state.epoch.target == state.steps then ended state outcomes.Finished else committed state
decided state Restore = restored state

-- whether a running epoch is to be decided
abbrev pub is_ripe : State → Bool
is_ripe state = not (is_some state.outcome) && has_everyone_arrived state

-- a state after the decision, if it is time for one
unfoldable pub settled : State → State
settled state = if is_ripe state then decided state (decision state) else state

-- whether an event may bring a decision
abbrev pub may_decide : Event → Bool
may_decide (Send rank to blocks sum) = false
may_decide (Recv rank peer) = false
may_decide (Arrive rank how) = true
may_decide (Leave rank) = false
may_decide (Die rank) = true

-- a state after an event, before any decision; `filled` belongs to an arrival with all rounds done
abbrev pub happened : State → Event → (filled : Bool) → State
happened state (Send rank to blocks sum) filled = with_queue (with_event state rank) rank to (queue state rank to + 1)
happened state (Recv rank peer) filled = with_queue (with_event state rank) peer rank (queue state peer rank - 1)
happened state (Arrive rank how) filled = with_stage state rank (Arrived how (is_done how && filled))
happened state (Leave rank) filled = with_stage state rank (if is_some state.outcome then Ended else Running)
happened state (Die rank) filled = with_stage state rank Dead

-- the next state
abbrev pub next : State → Event → (filled : Bool) → State
next state event filled = if may_decide event then settled (happened state event filled) else happened state event filled

-- an event that brings a decision
pub record Decides (state : State) (event : Event) (filled : Bool) (made : Decision) : Type 0 where
  pub may : IsTrue (may_decide event)
  pub ripe : IsTrue (is_ripe (happened state event filled))
  pub is_made : decision (happened state event filled) ≡ made
