-- Who owns which pieces of the domain, by the journal and by what waits.
use Rattle.std.specs.Prelude.{◌≡◌, ℕ, false, ◌⊎◌, ◌==◌, if◌then◌else◌, List, [], ◌++◌, filter, Option, Some, None, is_some}
use Rattle.std.specs.List.{flat_map, range_with_len, sum_by}
use Rattle.std.specs.Option.{option_map}
use Rattle.bf_program.specs.Meanings.{Meanings, Regions}
use Rattle.bf_program.specs.Laws.{times}
use Rattle.bf_program.specs.Lockstep.{local_of}
use Rattle.bf_core.specs.declared.event.How.TheVariants.{Done, Broken, Memory}
use Rattle.bf_core.specs.declared.outcome.Outcome.TheVariants.{Finished}
use Rattle.bf_core.specs.declared.standing.Stage.{Stage}
use Rattle.bf_core.specs.declared.standing.Stage.TheVariants.{Running, Arrived, Leaving, Ended, Dead, Gone}
use Rattle.bf_core.specs.Stages.{lives}
use Rattle.bf_core.specs.States.{State, stage, has_dead_member, is_short_of_memory}
use Rattle.bf_world.specs.Course.{local_at_place}
use Rattle.bf_world.specs.Queues.{messages}
use Rattle.bf_world.specs.Runs.{Run, place, last_local, run_after}
use Rattle.bf_world.specs.Worlds.{View, core_after}

module _ {S L M T R : Type 0} (m : Meanings S L M T R) (setup : S) (run : Run L T) where
  -- a rank's local of the lockstep where it stands in a run
  abbrev pub local_here : (rank : ℕ) → Option L
  local_here rank = local_at_place m setup run.core.epoch run.start rank (place run rank)

  -- what a rank has left of its last local once it has arrived done: in the last epoch it has given its parcel
  abbrev pub local_left : L → L
  local_left last = if run.core.epoch.target == run.core.steps then (m.parcel last).0 else last

  -- the local whose pieces a rank owns, by its stage: who must leave has that with which it begins the epoch, or none where the run
  -- has ended, and who has arrived for want of memory has none; who has failed for want of memory and has not arrived yet is counted
  -- with the lockstep's local, though it has none
  abbrev pub local_by : (rank : ℕ) → Stage → Option L
  local_by rank Running = local_here rank
  local_by rank (Arrived Done filled) = option_map local_left (last_local m setup run rank)
  local_by rank (Arrived Broken filled) = local_here rank
  local_by rank (Arrived Memory filled) = None
  local_by rank Leaving = if is_some run.core.outcome then None else local_of run.core.epoch.members run.start rank
  local_by rank Ended = None
  local_by rank Dead = None
  local_by rank Gone = None

-- the boxes of a local, if there is one
abbrev pub boxes_of : {S L M T R B U : Type 0} → Regions S L M T R B U → Option L → List B
boxes_of regions (Some local) = regions.of_local local
boxes_of regions None = []

module _ {S L M T R B U : Type 0} (m : Meanings S L M T R) (regions : Regions S L M T R B U) (view : View S M T) where
  -- the boxes of the local whose pieces a rank owns
  unfoldable pub held : (rank : ℕ) → List B
  held rank =
      let run = run_after m view.setup view.journal in
      boxes_of regions (local_by m view.setup run rank (stage run.core rank))

  -- those of the messages that wait for it
  unfoldable pub awaited : (rank : ℕ) → List B
  awaited rank = flat_map (λ from. flat_map regions.of_message (messages view.waiting from rank)) (range_with_len 0 (m.ranks view.setup))

  -- those of the parcel that it has given
  unfoldable pub given : (rank : ℕ) → List B
  given rank = flat_map (λ parcel. regions.of_part parcel.1) (filter (λ parcel. parcel.0 == rank) view.parcels)

  -- the boxes that a rank owns
  abbrev pub owned : (rank : ℕ) → List B
  owned rank = held rank ++ (awaited rank ++ given rank)

  -- how often some ranks together own a unit
  abbrev pub times_owned : (ranks : List ℕ) → U → ℕ
  times_owned ranks unit = sum_by (λ rank. times regions (owned rank) unit) ranks

module _ {S L M T R : Type 0} (m : Meanings S L M T R) (view : View S M T) where
  -- the ranks of a run
  abbrev pub all_ranks : List ℕ
  all_ranks = range_with_len 0 (m.ranks view.setup)

  -- the ranks that live
  abbrev pub live_ranks : List ℕ
  live_ranks = filter (λ rank. lives (stage (core_after m view.setup view.journal) rank)) all_ranks

-- a run that has finished, or that goes on with every member alive, and none arrived for want of memory
abbrev pub IsUnhurt : State → Type 0
IsUnhurt state =
    (state.outcome ≡ Some Finished)
    ⊎ ((state.outcome ≡ None) × ((has_dead_member state ≡ false) × (is_short_of_memory state ≡ false)))
