-- The whole state of a run, as its journal tells it.
use Rattle.std.specs.Prelude.{ℕ, Bool, true, false, ◌&&◌, not, ◌==◌, if◌then◌else◌, List, [], ◌∷◌, ◌++◌, map, filter, slice_index_or, slice_set, Option, Some, None}
use Rattle.std.specs.List.{range_with_len}
use Rattle.bf_program.specs.declared.epoch.Epoch.{Epoch}
use Rattle.bf_program.specs.Meanings.{Meanings}
use Rattle.bf_program.specs.Lockstep.{lockstep}
use Rattle.bf_program.specs.Restores.{restored_locals}
use Rattle.bf_core.specs.declared.event.Event.{Event}
use Rattle.bf_core.specs.declared.event.Event.TheVariants.{Send, Recv, Arrive, Leave, Die}
use Rattle.bf_core.specs.declared.event.How.TheVariants.{Done, Broken, Memory}
use Rattle.bf_core.specs.declared.place.Place.{Place}
use Rattle.bf_core.specs.declared.place.Place.TheVariants.{Past}
use Rattle.bf_core.specs.Places.{round_of}
use Rattle.bf_core.specs.Stages.{is_arrived, lives}
use Rattle.bf_core.specs.States.{State, stage, opening}
use Rattle.bf_core.specs.Legal.{actor, is_legal}
use Rattle.bf_core.specs.declared.decision.Decision.{Decision}
use Rattle.bf_core.specs.declared.decision.Decision.TheVariants.{Lose, WantMemory, Commit, Restore}
use Rattle.bf_core.specs.Next.{may_decide, happened, is_ripe, decision, decided}
use Rattle.bf_world.specs.Course.{local_at, message_at, first_place, after_send, after_receive}

pub record Run (L T : Type 0) : Type 0 where
  pub core : State
  -- the members' locals with which the present epoch began
  pub start : List L
  -- where each rank stands in the rounds
  pub places : List Place
  -- what was given by ranks that arrived in the last epoch
  pub parcels : List (ℕ × T)

-- where a rank stands
abbrev pub place : {L T : Type 0} → Run L T → ℕ → Place
place run rank = slice_index_or run.places rank Past

module _ {S L M T R : Type 0} (m : Meanings S L M T R) (setup : S) where
  -- the places at which the ranks begin an epoch
  unfoldable pub first_places : Epoch → (start : List L) → List Place
  first_places epoch start = map (first_place m setup epoch start) (range_with_len 0 (m.ranks setup))

  -- a run whose next epoch begins
  abbrev pub begun : State → (start : List L) → List (ℕ × T) → Run L T
  begun core start parcels = record { core = core; start = start; places = first_places core.epoch start; parcels = parcels }

  -- the run at its opening
  unfoldable pub opening_run : Run L T
  opening_run = begun (opening (m.ranks setup) (m.laid setup) (m.deaths setup) (m.shift setup) (m.steps setup) (m.interval setup)) (m.opening setup) []

  -- the members' locals once all rounds of the epoch are done
  unfoldable pub last_locals : Run L T → List L
  last_locals run = lockstep m setup run.core.epoch run.start (m.rounds setup run.core.epoch)

  -- a rank's local once all rounds are done
  abbrev pub last_local : Run L T → ℕ → Option L
  last_local run rank = local_at m setup run.core.epoch run.start rank (m.rounds setup run.core.epoch)

  abbrev pub filled_with : Option L → Bool
  filled_with (Some local) = m.filled local
  filled_with None = false

  -- whether the rank's part of the new snapshot will have a block
  unfoldable pub will_be_filled : Run L T → ℕ → Bool
  will_be_filled run rank = filled_with (last_local run rank)

  abbrev pub parcel_with : (rank : ℕ) → Option L → List (ℕ × T)
  parcel_with rank (Some local) = (rank, (m.parcel local).1) ∷ []
  parcel_with rank None = []

  -- the parcel that a rank gives once all rounds of the last epoch are done
  unfoldable pub parcel_of : Run L T → ℕ → List (ℕ × T)
  parcel_of run rank = parcel_with rank (last_local run rank)

  -- the parcels after an event, before any decision: those who are done in the last epoch give theirs, and that of a rank that
  -- dies before the decision is dropped
  abbrev pub parcels_after : Run L T → Event → List (ℕ × T)
  parcels_after run (Send rank to blocks sum) = run.parcels
  parcels_after run (Recv rank peer) = run.parcels
  parcels_after run (Arrive rank Done) = if run.core.epoch.target == run.core.steps then run.parcels ++ parcel_of run rank else run.parcels
  parcels_after run (Arrive rank Broken) = run.parcels
  parcels_after run (Arrive rank Memory) = run.parcels
  parcels_after run (Leave rank) = run.parcels
  parcels_after run (Die rank) = if is_arrived (stage run.core rank) then filter (λ parcel. not (parcel.0 == rank)) run.parcels else run.parcels

  -- the places after an event, before any decision
  abbrev pub places_after : Run L T → Event → List Place
  places_after run (Send rank to blocks sum) = slice_set run.places rank (after_send (place run rank))
  places_after run (Recv rank peer) = slice_set run.places rank (after_receive m setup run.core.epoch run.start rank (place run rank))
  places_after run (Arrive rank how) = run.places
  places_after run (Leave rank) = run.places
  places_after run (Die rank) = run.places

  -- a run after an event, before any decision
  abbrev pub run_happened : Run L T → Event → Run L T
  run_happened run event = record {
    core = happened run.core event (will_be_filled run (actor event));
    start = run.start;
    places = places_after run event;
    parcels = parcels_after run event;
  }

  -- a run after a decision: a commit goes on from the snapshots that the members keep, a restore from those that were agreed
  abbrev pub run_decided : Run L T → Decision → Run L T
  run_decided run (Lose home buddy) = record run { core = decided run.core (Lose home buddy) }
  run_decided run WantMemory = record run { core = decided run.core WantMemory }
  run_decided run Commit =
      if run.core.epoch.target == run.core.steps then record run { core = decided run.core Commit }
      else begun (decided run.core Commit) (map m.keep (last_locals run)) run.parcels
  run_decided run Restore =
      begun (decided run.core Restore) (restored_locals m setup run.core.epoch (λ rank. lives (stage run.core rank)) run.start) []

  abbrev pub run_settled : Run L T → Run L T
  run_settled run = if is_ripe run.core then run_decided run (decision run.core) else run

  -- the run after an event
  unfoldable pub next_run : Run L T → Event → Run L T
  next_run run event = if may_decide event then run_settled (run_happened run event) else run_happened run event

  abbrev pub is_measured : Option M → (blocks sum : ℕ) → Bool
  is_measured (Some msg) blocks sum = ((m.measure msg).blocks == blocks) && ((m.measure msg).sum == sum)
  is_measured None blocks sum = false

  -- whether a send tells the measure of the lockstep's message
  abbrev pub tells_truly : Run L T → Event → Bool
  tells_truly run (Send rank to blocks sum) = is_measured (message_at m setup run.core.epoch run.start rank to (round_of (place run rank))) blocks sum
  tells_truly run (Recv rank peer) = true
  tells_truly run (Arrive rank how) = true
  tells_truly run (Leave rank) = true
  tells_truly run (Die rank) = true

  -- whether an event is legal
  unfoldable pub is_legal_in : Run L T → Event → Bool
  is_legal_in run event = is_legal run.core event (place run (actor event)) && tells_truly run event

  -- the run after some events
  abbrev pub run_from : Run L T → List Event → Run L T
  run_from run [] = run
  run_from run (event ∷ events) = run_from (next_run run event) events

  abbrev pub is_legal_from : Run L T → List Event → Bool
  is_legal_from run [] = true
  is_legal_from run (event ∷ events) = is_legal_in run event && is_legal_from (next_run run event) events

  -- the run that a journal tells
  unfoldable pub run_after : List Event → Run L T
  run_after journal = run_from opening_run journal

  -- whether each event of a journal is legal in its turn
  unfoldable pub is_journal : List Event → Bool
  is_journal journal = is_legal_from opening_run journal
