-- The whole state of a run between two events, without the places and what the messages hold.
use Rattle.std.specs.Prelude.{ℕ, ◌≡◌, ◌≤◌, ◌+◌, ◌*◌, Bool, length, ◌&&◌, not, List, filter, replicate, slice_index_or, Option, None}
use Rattle.std.specs.List.{list_any}
use Rattle.bf_buddy.specs.Losses.{first_lost_of}
use Rattle.bf_program.specs.declared.epoch.Epoch.{Epoch}
use Rattle.bf_program.specs.Epochs.{first_epoch}
use Rattle.bf_core.specs.declared.outcome.Outcome.{Outcome}
use Rattle.bf_core.specs.declared.standing.Stage.{Stage}
use Rattle.bf_core.specs.declared.standing.Standing.{Standing}
use Rattle.bf_core.specs.Stages.{is_running, is_awaited, is_short, is_dead, goes_on, lives}
use Rattle.bf_core.specs.Places.{is_just}
use Rattle.bf_core.specs.Rolls.{standing_in, opening_in}

pub record State : Type 0 where
  pub ranks : ℕ
  -- one for each rank
  pub standings : List Standing
  -- how many messages wait from each rank to each, those of the first rank first
  pub queues : List ℕ
  pub epoch : Epoch
  -- the homes whose part of the agreed snapshot has a block
  pub stored : List ℕ
  pub shift : ℕ
  pub steps : ℕ
  -- how much time lies between two snapshots
  pub interval : ℕ
  -- how the run ended, if it has
  pub outcome : Option Outcome

-- what is true of each state of a run
pub record IsState (state : State) : Type 0 where
  pub some : 1 ≤ state.ranks
  pub few : state.ranks ≤ 32
  pub every_standing : length state.standings ≡ state.ranks
  pub every_queue : length state.queues ≡ state.ranks * state.ranks

-- how a rank stands; what is no rank is gone
abbrev pub standing : State → ℕ → Standing
standing state rank = standing_in state.standings rank

abbrev pub stage : State → ℕ → Stage
stage state rank = (standing state rank).stage

-- where the length of a queue stands
abbrev pub channel : (ranks from to : ℕ) → ℕ
channel ranks from to = from * ranks + to

-- how many messages wait from one rank to another
abbrev pub queue : State → (from to : ℕ) → ℕ
queue state from to = slice_index_or state.queues (channel state.ranks from to) 0

-- whether a rank's next event is its death: it goes on, and has had as many events as its schedule says
abbrev pub is_due : State → ℕ → Bool
is_due state rank = goes_on (stage state rank) && is_just (standing state rank).death (standing state rank).events

-- whether a rank does its rounds and isn't due
abbrev pub is_active : State → ℕ → Bool
is_active state rank = is_running (stage state rank) && not (is_due state rank)

-- whether a member has died
abbrev pub has_dead_member : State → Bool
has_dead_member state = list_any (λ s. is_dead s.stage) state.standings

-- whether a member has arrived for want of memory
abbrev pub is_short_of_memory : State → Bool
is_short_of_memory state = list_any (λ s. is_short s.stage) state.standings

-- whether every live member has arrived
abbrev pub has_everyone_arrived : State → Bool
has_everyone_arrived state = not (list_any (λ s. is_awaited s.stage) state.standings)

-- whether every rank is dead or has left an ended run
abbrev pub is_finished : State → Bool
is_finished state = not (list_any (λ s. goes_on s.stage) state.standings)

-- the members that live
unfoldable pub live_members : State → List ℕ
live_members state = filter (λ rank. lives (stage state rank)) state.epoch.members

-- the first home whose part of the agreed snapshot is lost, with its buddy
abbrev pub first_lost : State → Option (ℕ × ℕ)
first_lost state = first_lost_of state.epoch.homes state.stored (live_members state) state.shift

-- the state at the opening, of ranks with their scheduled deaths, where the parts of some homes have blocks
unfoldable pub opening : (ranks : ℕ) (filled : List ℕ) (deaths : List (ℕ × ℕ)) (shift steps interval : ℕ) → State
opening ranks filled deaths shift steps interval = record {
  ranks = ranks;
  standings = opening_in ranks deaths;
  queues = replicate (ranks * ranks) 0;
  epoch = first_epoch ranks steps interval;
  stored = filled;
  shift = shift;
  steps = steps;
  interval = interval;
  outcome = None;
}
