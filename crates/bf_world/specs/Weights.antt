-- What is left of a run: a number that bounds how many events may still come.
use Rattle.std.specs.Prelude.{ℕ, zero, suc, ◌+◌, ◌-◌, ◌*◌, ◌/◌, ◌^◌, Bool, if◌then◌else◌, List, length, sum_by, is_some}
use Rattle.std.specs.List.{range_with_len}
use Rattle.bf_program.specs.declared.epoch.Epoch.{Epoch}
use Rattle.bf_program.specs.Meanings.{Meanings}
use Rattle.bf_core.specs.declared.place.Place.{Place}
use Rattle.bf_core.specs.declared.place.Place.TheVariants.{Rounds, Past}
use Rattle.bf_core.specs.declared.standing.Stage.{Stage}
use Rattle.bf_core.specs.declared.standing.Stage.TheVariants.{Running, Arrived, Leaving, Ended, Dead, Gone}
use Rattle.bf_core.specs.States.{State, stage}
use Rattle.bf_world.specs.Course.{peers_at}
use Rattle.bf_world.specs.Runs.{Run, place}

module _ {S L M T R : Type 0} (m : Meanings S L M T R) (setup : S) (epoch : Epoch) (start : List L) where
  -- how many peers a rank has in so many rounds from one on
  unfoldable pub peers_left : (rank left round : ℕ) → ℕ
  peers_left rank zero round = 0
  peers_left rank (suc left) round = length (peers_at m setup epoch start rank round) + peers_left rank left (round + 1)

  -- how many sends and receives a rank at a place has before it
  unfoldable pub steps_left : (rank : ℕ) → Place → ℕ
  steps_left rank (Rounds round sent received peers) =
      2 * (length peers + peers_left rank (m.rounds setup epoch - (round + 1)) (round + 1)) - (sent + received)
  steps_left rank Past = 0

-- how many intervals cover a time
abbrev pub intervals_in : (time interval : ℕ) → ℕ
intervals_in time interval = (time + (interval - 1)) / interval

-- what is left of a rank by its stage, before it so many sends and receives: after the end of the run its leave alone
abbrev pub left_of : (over : Bool) → Stage → (steps : ℕ) → ℕ
left_of over Running steps = 2 + steps
left_of over (Arrived how filled) steps = 1
left_of over Leaving steps = if over then 1 else 3 + steps
left_of over Ended steps = 0
left_of over Dead steps = 0
left_of over Gone steps = 0

-- a commit more where the copies of the agreed snapshot are being made again
abbrev pub repairs_left : Epoch → ℕ
repairs_left epoch = if epoch.restored then 1 else 0

-- at least as many as decisions may still come: a commit for each interval up to the last step, and for each member one that leaves it
-- behind or ends the run, and the commit after that
unfoldable pub epochs_left : State → ℕ
epochs_left state =
    if is_some state.outcome then 0
    else intervals_in (state.steps - state.epoch.time) state.interval + 2 * length state.epoch.members + repairs_left state.epoch

-- as much as may be left of any rank in an epoch of so many rounds: its leave, its arrival and its death, and in each round a send
-- to each other rank and a receive from it
unfoldable pub most_left : (ranks rounds : ℕ) → ℕ
most_left ranks rounds = 2 * ((ranks - 1) * rounds) + 3

module _ {S L M T R : Type 0} (m : Meanings S L M T R) (setup : S) where
  -- what is left of a rank
  unfoldable pub left_of_rank : Run L T → (rank : ℕ) → ℕ
  left_of_rank run rank = left_of (is_some run.core.outcome) (stage run.core rank) (steps_left m setup run.core.epoch run.start rank (place run rank))

  -- what is left of all ranks until the next decision
  unfoldable pub total : Run L T → ℕ
  total run = sum_by (left_of_rank run) (range_with_len 0 (m.ranks setup))

  -- as much as may be left of all ranks, where no epoch has more rounds than so many
  unfoldable pub bound : (rounds : ℕ) → ℕ
  bound rounds = m.ranks setup * most_left (m.ranks setup) rounds

  -- at least as many as events may still come, where no epoch has more rounds than so many
  unfoldable pub weight_within : (rounds : ℕ) → Run L T → ℕ
  weight_within rounds run = bound rounds * epochs_left run.core + total run

  -- at least as many as events may still come, whatever the numbers of rounds: such a number has 32 bits
  abbrev pub weight : Run L T → ℕ
  weight run = weight_within (2 ^ 32 - 1) run

  -- how many events a journal has at most, where no epoch has more rounds than so many: in each epoch those that may be left of all
  -- ranks, and an epoch for each interval, two for each rank and one for the end
  unfoldable pub most_events : (rounds : ℕ) → ℕ
  most_events rounds =
      (intervals_in (m.steps setup) (m.interval setup) + 1 + 2 * m.ranks setup) * (m.ranks setup * most_left (m.ranks setup) rounds)
