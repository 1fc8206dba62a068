-- What contracts see of a world, what its type keeps, and what its calls ask and answer.
use Rattle.std.specs.Prelude.{◌≡◌, ℕ, ◌+◌, ◌≤◌, Bool, true, false, ◌&&◌, if◌then◌else◌, IsTrue, List, [], ◌∷◌, ◌++◌, sum_by, drop, Option, Some, None, is_some}
use Rattle.bf_program.specs.Meanings.{Meanings}
use Rattle.bf_core.specs.declared.decision.Decision.{Decision}
use Rattle.bf_core.specs.declared.decision.Decision.TheVariants as decisions
use Rattle.bf_core.specs.declared.place.Place.{Place}
use Rattle.bf_core.specs.declared.event.Event.{Event}
use Rattle.bf_core.specs.declared.event.Event.TheVariants.{Recv, Arrive, Leave}
use Rattle.bf_core.specs.declared.event.How.{How}
use Rattle.bf_core.specs.declared.event.How.TheVariants as hows
use Rattle.bf_core.specs.declared.standing.Stage.{Stage}
use Rattle.bf_core.specs.declared.standing.Stage.TheVariants.{Running, Arrived, Leaving, Ended, Dead, Gone}
use Rattle.bf_core.specs.Stages.{is_arrived, is_leaving, wants_memory}
use Rattle.bf_core.specs.Places.{next_send, next_receive, is_past, round_of}
use Rattle.bf_core.specs.States.{State, stage, is_active, has_dead_member, is_short_of_memory}
use Rattle.bf_core.specs.Legal.{actor}
use Rattle.bf_core.specs.Next.{may_decide, is_ripe, happened, decision}
use Rattle.bf_world.specs.declared.answers.Arrival.{Arrival}
use Rattle.bf_world.specs.declared.answers.Arrival.TheVariants as arrivals
use Rattle.bf_world.specs.declared.answers.Got.{Got}
use Rattle.bf_world.specs.declared.answers.Got.TheVariants as got
use Rattle.bf_world.specs.declared.answers.Left.{Left}
use Rattle.bf_world.specs.declared.answers.Left.TheVariants as left
use Rattle.bf_world.specs.Course.{message_at}
use Rattle.bf_world.specs.Journals.{Noted}
use Rattle.bf_world.specs.Messages.{AreQueuesOf}
use Rattle.bf_world.specs.Queues.{Waiting, messages}
use Rattle.bf_world.specs.Runs.{Run, place, will_be_filled, parcel_of, next_run, opening_run, run_after, is_journal}

-- what contracts see of a world
pub record View (S M T : Type 0) : Type 0 where
  pub setup : S
  pub journal : List Event
  pub waiting : Waiting M
  pub parcels : List (ℕ × T)

-- how many events of a rank the journal must have memory for: an arrival for want of memory, and a leave or a death
abbrev pub room_of : (ended : Bool) → Stage → ℕ
room_of ended Running = 2
room_of ended (Arrived how filled) = if wants_memory how then 1 else 3
room_of ended Leaving = if ended then 1 else 3
room_of ended Ended = 0
room_of ended Dead = 0
room_of ended Gone = 0

-- how many events the journal must have memory for
unfoldable pub room_needed : State → ℕ
room_needed state = sum_by (λ s. room_of (is_some state.outcome) s.stage) state.standings

module _ {S L M T R : Type 0} (m : Meanings S L M T R) where
  -- what is true of each world, as contracts see it: its journal is legal in turn, while the run goes on its queues hold the
  -- lockstep's messages that were sent and not received, and its parcels are those that the journal leaves
  pub record IsView (view : View S M T) : Type 0 where
    pub legal : IsTrue (is_journal m view.setup view.journal)
    pub queues : AreQueuesOf m view.setup (run_after m view.setup view.journal) view.waiting
    pub parcels : view.parcels ≡ (run_after m view.setup view.journal).parcels

-- how a rank arrives
abbrev pub how_of : {T : Type 0} → Arrival T → How
how_of (arrivals.Done filled parcel) = hows.Done
how_of arrivals.Memory = hows.Memory

-- whether what is decided, if anything is, is a restore
abbrev pub is_restore : (decided : Bool) → Decision → Bool
is_restore decided decisions.Restore = decided
is_restore decided (decisions.Lose home buddy) = false
is_restore decided decisions.WantMemory = false
is_restore decided decisions.Commit = false

module _ {S L M T R : Type 0} (m : Meanings S L M T R) (setup : S) where
  -- whether an event brings a decision
  unfoldable pub brings_decision : Run L T → Event → Bool
  brings_decision run event = may_decide event && is_ripe (happened run.core event (will_be_filled m setup run (actor event)))

  -- whether an event brings a restore
  unfoldable pub brings_restore : Run L T → Event → Bool
  brings_restore run event = is_restore (brings_decision run event) (decision (happened run.core event (will_be_filled m setup run (actor event))))

  -- how many restores events bring, beside those before
  abbrev pub restores_from : Run L T → List Event → (before : ℕ) → ℕ
  restores_from run [] before = before
  restores_from run (event ∷ events) before =
      restores_from (next_run m setup run event) events (if brings_restore run event then before + 1 else before)

  -- how many restores a journal has
  unfoldable pub restores_in : List Event → ℕ
  restores_in journal = restores_from (opening_run m setup) journal 0

  -- what the fields of a world keep
  pub record IsWorld (core : State) (waiting : Waiting M) (noted : Noted) (parcels : List (ℕ × T)) (restores : ℕ) : Type 0 where
    pub legal : IsTrue (is_journal m setup noted.events)
    pub core_is : core ≡ (run_after m setup noted.events).core
    pub queues : AreQueuesOf m setup (run_after m setup noted.events) waiting
    pub parcels_are : parcels ≡ (run_after m setup noted.events).parcels
    pub room : room_needed core ≤ noted.room
    pub restores_are : restores ≡ restores_in noted.events

  -- the core that a journal leads to
  abbrev pub core_after : List Event → State
  core_after journal = (run_after m setup journal).core

  -- where a rank stands once a journal is told
  abbrev pub place_after : List Event → ℕ → Place
  place_after journal rank = place (run_after m setup journal) rank

  -- the message of the lockstep that a rank at its place sends to another
  abbrev pub message_after : List Event → (from to round : ℕ) → Option M
  message_after journal from to round = message_at m setup (core_after journal).epoch (run_after m setup journal).start from to round

  -- a rank whose next step is to send this message of the lockstep to another
  pub record SendsNext (journal : List Event) (rank to : ℕ) (msg : M) : Type 0 where
    pub active : IsTrue (is_active (core_after journal) rank)
    pub next : next_send (place_after journal rank) ≡ Some to
    pub its : message_after journal rank to (round_of (place_after journal rank)) ≡ Some msg

  -- a rank whose next step is to receive from a peer
  pub record ReceivesNext (journal : List Event) (rank peer : ℕ) : Type 0 where
    pub active : IsTrue (is_active (core_after journal) rank)
    pub next : next_receive (place_after journal rank) ≡ Some peer

  -- a parcel is there exactly in the last epoch, and then it is what the rank's last local gives
  abbrev pub IsParcel : Run L T → (rank : ℕ) → Option T → Type 0
  IsParcel run rank (Some part) = (run.core.epoch.target ≡ run.core.steps) × (parcel_of m setup run rank ≡ (rank, part) ∷ [])
  IsParcel run rank None = run.core.epoch.target ≡ run.core.steps → ⊥

  -- an arrival that a rank may make: done past the last round, with what its last local gives, or for want of memory
  abbrev pub ArrivesAs : List Event → (rank : ℕ) → Arrival T → Type 0
  ArrivesAs journal rank (arrivals.Done filled parcel) =
      IsTrue (is_past (place_after journal rank)) × ((filled ≡ will_be_filled m setup (run_after m setup journal) rank) × IsParcel (run_after m setup journal) rank parcel)
  ArrivesAs journal rank arrivals.Memory = Unit {0}

  -- what a receive answers: the front of the queue, which is the lockstep's message, where it isn't empty; an arrival where it is
  -- and a member is dead; else whether a member has arrived for want of memory
  abbrev pub HasGot : (old new : View S M T) (rank peer : ℕ) → Got M → Type 0
  HasGot old new rank peer (got.Message msg) =
      (messages old.waiting peer rank ≡ msg ∷ drop 1 (messages old.waiting peer rank))
      × ((message_after old.journal peer rank (round_of (place_after old.journal rank)) ≡ Some msg)
      × (new.journal ≡ old.journal ++ Recv rank peer ∷ []))
  HasGot old new rank peer got.NotYet =
      (messages old.waiting peer rank ≡ []) × ((has_dead_member (core_after old.journal) ≡ false)
      × ((is_short_of_memory (core_after old.journal) ≡ false) × (new ≡ old)))
  HasGot old new rank peer got.Short =
      (messages old.waiting peer rank ≡ []) × ((has_dead_member (core_after old.journal) ≡ false)
      × ((is_short_of_memory (core_after old.journal) ≡ true) × (new ≡ old)))
  HasGot old new rank peer got.Broken =
      (messages old.waiting peer rank ≡ []) × ((has_dead_member (core_after old.journal) ≡ true)
      × (new.journal ≡ old.journal ++ Arrive rank hows.Broken ∷ []))

  -- what a leave answers: not yet where the epoch of the rank's arrival is not decided, else the next epoch or the end
  abbrev pub HasLeft : (old new : View S M T) (rank : ℕ) → Left → Type 0
  HasLeft old new rank left.NotYet = IsTrue (is_arrived (stage (core_after old.journal) rank)) × (new ≡ old)
  HasLeft old new rank (left.Run epoch) =
      IsTrue (is_leaving (stage (core_after old.journal) rank)) × (((core_after old.journal).outcome ≡ None)
      × ((epoch ≡ (core_after old.journal).epoch) × (new.journal ≡ old.journal ++ Leave rank ∷ [])))
  HasLeft old new rank (left.Ended outcome) =
      IsTrue (is_leaving (stage (core_after old.journal) rank)) × (((core_after old.journal).outcome ≡ Some outcome)
      × (new.journal ≡ old.journal ++ Leave rank ∷ []))
