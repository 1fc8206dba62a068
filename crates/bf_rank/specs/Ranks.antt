-- What a rank holds, as the journal tells it.
use Rattle.std.specs.Prelude.{◌≡◌, ℕ, ◌<◌, Bool, true, false, IsTrue, ◌⊎◌, ◌==◌, if◌then◌else◌, List, [], ◌∷◌, ◌++◌, Option, Some, None}
use Rattle.std.specs.List.{list_any}
use Rattle.bf_program.specs.declared.epoch.Epoch.{Epoch}
use Rattle.bf_program.specs.Meanings.{Meanings}
use Rattle.bf_program.specs.Lockstep.{local_of}
use Rattle.bf_program.specs.Points.{IsRestoring}
use Rattle.bf_core.specs.declared.event.Event.{Event}
use Rattle.bf_core.specs.declared.event.Event.TheVariants.{Arrive, Die}
use Rattle.bf_core.specs.declared.event.How.TheVariants.{Done, Broken, Memory}
use Rattle.bf_core.specs.declared.outcome.Outcome.{Outcome}
use Rattle.bf_core.specs.declared.outcome.Outcome.TheVariants.{Finished}
use Rattle.bf_core.specs.declared.place.Place.{Place}
use Rattle.bf_core.specs.declared.place.Place.TheVariants.{Rounds, Past}
use Rattle.bf_core.specs.declared.standing.Stage.{Stage}
use Rattle.bf_core.specs.declared.standing.Stage.TheVariants.{Running, Arrived, Leaving, Ended, Dead, Gone}
use Rattle.bf_core.specs.Stages.{is_leaving, goes_on}
use Rattle.bf_core.specs.States.{stage}
use Rattle.bf_core.specs.Legal.{actor, is_memory, IsOffered}
use Rattle.bf_world.specs.Course.{local_at, local_in_round, first_place}
use Rattle.bf_world.specs.Runs.{Run, place, run_happened, opening_run, next_run, run_after}
use Rattle.bf_world.specs.Worlds.{brings_decision}
use Rattle.bf_rank.specs.declared.stand.Stand.{Stand}
use Rattle.bf_rank.specs.declared.stand.Stand.TheVariants as stands
use Rattle.bf_rank.specs.declared.stand.Turn.{Turn}
use Rattle.bf_rank.specs.declared.stand.Turn.TheVariants as turns

-- what concerns one rank of a run: the epoch with the locals with which it began, where the rank stands, and how the run ended
pub record Sight (L : Type 0) : Type 0 where
  pub epoch : Epoch
  pub start : List L
  pub steps : ℕ
  pub outcome : Option Outcome
  pub stage : Stage
  pub place : Place

abbrev pub sight : {L T : Type 0} → Run L T → (rank : ℕ) → Sight L
sight run rank = record
    { epoch = run.core.epoch; start = run.start; steps = run.core.steps; outcome = run.core.outcome; stage = stage run.core rank; place = place run rank }

-- what contracts see of a rank
pub record RankView (L : Type 0) : Type 0 where
  pub rank : ℕ
  pub local : Option L
  pub epoch : Epoch
  pub stand : Stand

module _ {S L M T R : Type 0} (m : Meanings S L M T R) (setup : S) where
  -- the run as the last decision that events bring finds it, or the one before where they bring none
  abbrev pub decided_from : Run L T → List Event → (before : Run L T) → Run L T
  decided_from run [] before = before
  decided_from run (event ∷ events) before =
      decided_from (next_run m setup run event) events (if brings_decision m setup run event then run_happened m setup run event else before)

  -- the run as the last decision of a journal found it, each live member having arrived; the opening, where nothing is decided
  unfoldable pub last_decided : List Event → Run L T
  last_decided journal = decided_from (opening_run m setup) journal (opening_run m setup)

module _ {S L M T R : Type 0} (m : Meanings S L M T R) (good : S → Epoch → ℕ → List L → Type 0) (setup : S) where
  -- a member's local of the lockstep at a place, from that with which the place's round begins
  abbrev pub local_from : Sight L → (rank : ℕ) → Place → L → L
  local_from seen rank (Rounds round sent received peers) first = local_in_round m setup seen.epoch seen.start rank round sent received peers first
  local_from seen rank Past first = first

  -- the round at whose beginning the local of a place began
  abbrev pub round_begun : Sight L → Place → ℕ
  round_begun seen (Rounds round sent received peers) = round
  round_begun seen Past = m.rounds setup seen.epoch

  -- a rank's local is the lockstep's at a place
  pub record IsLocalAt (seen : Sight L) (rank : ℕ) (at : Place) (local : L) : Type 0 where
    pub first : L
    pub its : local_at m setup seen.epoch seen.start rank (round_begun seen at) ≡ Some first
    pub here : local ≡ local_from seen rank at first

  -- a restore reads of a rank's local what it would read of the local with which the rank began the epoch
  pub record IsSaved (seen : Sight L) (rank : ℕ) (local : L) : Type 0 where
    pub first : L
    pub its : local_of seen.epoch.members seen.start rank ≡ Some first
    pub same : m.reads local ≡ m.reads first

  -- what a rank has that has arrived with all rounds done: the lockstep's last local, in the last epoch less the parcel that it
  -- has given
  pub record HasFinished (seen : Sight L) (rank : ℕ) (local : L) : Type 0 where
    pub last : L
    pub its : local_at m setup seen.epoch seen.start rank (m.rounds setup seen.epoch) ≡ Some last
    pub here : local ≡ (if seen.epoch.target == seen.steps then (m.parcel last).0 else last)

  -- what a rank has that must leave into a running epoch: keeping or restoring gives the local with which it begins
  abbrev pub WillBegin : (restored : Bool) → Sight L → (rank : ℕ) → L → Type 0
  WillBegin false seen rank local = local_of seen.epoch.members seen.start rank ≡ Some (m.keep local)
  WillBegin true seen rank local =
      IsRestoring m good setup seen.epoch rank local × (local_of seen.epoch.members seen.start rank ≡ Some (m.restore setup local rank seen.epoch))

  -- what a rank has with which it has arrived, by its stage: done, the last local less the parcel that it has given; broken, its local
  -- at its place; for want of memory, none
  abbrev pub HasArrived : Sight L → RankView L → Stage → Type 0
  HasArrived seen view (Arrived Done filled) = (local : L) × ((view.local ≡ Some local) × HasFinished seen view.rank local)
  HasArrived seen view (Arrived Broken filled) = (local : L) × ((view.local ≡ Some local) × IsLocalAt seen view.rank seen.place local)
  HasArrived seen view (Arrived Memory filled) = view.local ≡ None
  HasArrived seen view Running = ⊥
  HasArrived seen view Leaving = ⊥
  HasArrived seen view Ended = ⊥
  HasArrived seen view Dead = ⊥
  HasArrived seen view Gone = ⊥

  -- what a rank has from its arrival until it leaves: that with which it has arrived; once the epoch is decided, what the next begins
  -- with, or the last local of a finished run
  abbrev pub HasLocal : Sight L → RankView L → Stage → Type 0
  HasLocal seen view (Arrived how filled) = HasArrived seen view (Arrived how filled)
  HasLocal seen view Leaving =
      (seen.outcome ≡ None → (seen.place ≡ first_place m setup seen.epoch seen.start view.rank)
      × ((local : L) × ((view.local ≡ Some local) × WillBegin seen.epoch.restored seen view.rank local)))
      × (seen.outcome ≡ Some Finished → (local : L) × ((view.local ≡ Some local) × HasFinished seen view.rank local))
  HasLocal seen view Running = ⊥
  HasLocal seen view Ended = ⊥
  HasLocal seen view Dead = ⊥
  HasLocal seen view Gone = ⊥

  -- a rank's account agrees with what concerns it
  abbrev pub Agrees : Sight L → RankView L → Stand → Type 0
  Agrees seen view stands.Opening =
      (seen.stage ≡ Running) × ((view.epoch ≡ seen.epoch) × ((seen.place ≡ first_place m setup seen.epoch seen.start view.rank)
      × ((local : L) × ((view.local ≡ Some local) × (local_of seen.epoch.members seen.start view.rank ≡ Some local)))))
  Agrees seen view (stands.Placed at) =
      (seen.stage ≡ Running) × ((view.epoch ≡ seen.epoch) × ((seen.place ≡ at)
      × ((local : L) × ((view.local ≡ Some local) × IsLocalAt seen view.rank at local))))
  Agrees seen view stands.Arrived = HasLocal seen view seen.stage
  Agrees seen view stands.Failed = (seen.stage ≡ Running) × (view.local ≡ None)
  Agrees seen view stands.Ended = goes_on seen.stage ≡ false

  -- a rank of this setup that has made all its turns of a journal
  pub record IsAt (journal : List Event) (view : RankView L) : Type 0 where
    pub within : view.rank < m.ranks setup
    pub agrees : Agrees (sight (run_after m setup journal) view.rank) view view.stand
    -- one that must leave still has what it had when its epoch was decided
    pub decided : IsTrue (is_leaving (stage (run_after m setup journal).core view.rank))
        → HasArrived (sight (last_decided m setup journal) view.rank) view (stage (last_decided m setup journal).core view.rank)
    -- one that has failed did so in an event of its own
    pub acted : view.stand ≡ stands.Failed → IsTrue (list_any (λ event. actor event == view.rank) journal)

  -- an event that a turn of a rank may add: one that it is offered, or an arrival for want of memory
  pub record IsTurn (journal : List Event) (rank : ℕ) (event : Event) : Type 0 where
    pub its : actor event ≡ rank
    pub offered : IsOffered (run_after m setup journal).core rank (place (run_after m setup journal) rank) event ⊎ IsTrue (is_memory event)

  -- some event is offered to a rank
  abbrev pub IsOfferedSome : (journal : List Event) (rank : ℕ) → Type 0
  IsOfferedSome journal rank = (event : Event) × IsOffered (run_after m setup journal).core rank (place (run_after m setup journal) rank) event

  -- what a turn came to: one event more, and the rank goes on; or none, where none is offered; or the rank has ended, by one event
  -- more or before
  abbrev pub TookTurn : (old new : List Event) (rank : ℕ) → Turn → Type 0
  TookTurn old new rank turns.Moved =
      (goes_on (stage (run_after m setup new).core rank) ≡ true) × ((event : Event) × ((new ≡ old ++ event ∷ []) × IsTurn old rank event))
  TookTurn old new rank turns.NotYet =
      (new ≡ old) × ((event : Event) → IsOffered (run_after m setup old).core rank (place (run_after m setup old) rank) event → ⊥)
  TookTurn old new rank turns.Ended =
      (goes_on (stage (run_after m setup new).core rank) ≡ false)
      × ((new ≡ old) ⊎ ((event : Event) × ((new ≡ old ++ event ∷ []) × IsTurn old rank event)))

-- an arrival of a rank for want of memory
abbrev pub short_arrival : (rank : ℕ) → Event
short_arrival rank = Arrive rank Memory

-- the next event of a rank that has failed: its death where that is due, else its arrival for want of memory
abbrev pub event_of_failed : (due : Bool) (rank : ℕ) → Event
event_of_failed due rank = if due then Die rank else short_arrival rank
