-- What one step of a rank asks and does.
use Rattle.std.specs.Prelude.{◌≡◌, ℕ, ◌<◌, ◌≤◌, ◌+◌, ◌-◌, false, ◌⊎◌, List, [], ◌∷◌, ◌++◌, length, Option, Some, None, slice_get}
use Rattle.bf_program.specs.declared.epoch.Epoch.{Epoch}
use Rattle.bf_program.specs.Meanings.{Meanings}
use Rattle.bf_program.specs.Points.{IsFinishing}
use Rattle.bf_core.specs.declared.event.Event.{Event}
use Rattle.bf_core.specs.declared.place.Place.{Place}
use Rattle.bf_core.specs.declared.place.Place.TheVariants.{Rounds, Past}
use Rattle.bf_core.specs.declared.standing.Stage.TheVariants.{Running}
use Rattle.bf_core.specs.States.{stage, is_due}
use Rattle.bf_core.specs.Legal.{IsOffered}
use Rattle.bf_world.specs.Course.{local_at, peers_at, message_at, place_from}
use Rattle.bf_world.specs.Runs.{place, run_after}
use Rattle.bf_rank.specs.declared.stand.Stand.{Stand}
use Rattle.bf_rank.specs.declared.stand.Stand.TheVariants.{Opening, Placed, Arrived, Failed, Ended}
use Rattle.bf_rank.specs.declared.stand.Step.{Step}
use Rattle.bf_rank.specs.declared.stand.Step.TheVariants.{Moved, NotYet, Short}
use Rattle.bf_rank.specs.declared.stand.Turn.{Turn}
use Rattle.bf_rank.specs.declared.stand.Turn.TheVariants as turns
use Rattle.bf_rank.specs.Ranks.{RankView, Sight, IsLocalAt, WillBegin, IsAt, IsOfferedSome}

-- a rank that has a local
abbrev pub holding : {L : Type 0} → (rank : ℕ) → L → Epoch → Stand → RankView L
holding rank local epoch stand = record { rank = rank; local = Some local; epoch = epoch; stand = stand }

-- a rank that may have a local
abbrev pub viewed : {L : Type 0} → (rank : ℕ) → Option L → Epoch → Stand → RankView L
viewed rank local epoch stand = record { rank = rank; local = local; epoch = epoch; stand = stand }

-- a rank's local at a stand; without memory and at its end it has no local
abbrev pub local_kept : {L : Type 0} → Option L → Stand → Option L
local_kept local Opening = local
local_kept local (Placed at) = local
local_kept local Arrived = local
local_kept local Failed = None
local_kept local Ended = None

-- what a turn came to that led to a stand
abbrev pub turn_to : Stand → Turn
turn_to Opening = turns.Moved
turn_to (Placed at) = turns.Moved
turn_to Arrived = turns.Moved
turn_to Failed = turns.Moved
turn_to Ended = turns.Ended

-- the same rank where it stands elsewhere
abbrev pub standing_at : {L : Type 0} → RankView L → Stand → RankView L
standing_at view stand = record { rank = view.rank; local = view.local; epoch = view.epoch; stand = stand }

-- the same rank with what it keeps of its local at its stand
abbrev pub kept : {L : Type 0} → RankView L → RankView L
kept view = viewed view.rank (local_kept view.local view.stand) view.epoch view.stand

module _ {S L M T R : Type 0} (m : Meanings S L M T R) (good : S → Epoch → ℕ → List L → Type 0) (setup : S) where
  -- a rank's local is the lockstep's at the beginning of a round, or after the last
  pub record Begins (seen : Sight L) (epoch : Epoch) (rank round : ℕ) (local : L) : Type 0 where
    pub same : epoch ≡ seen.epoch
    pub is_good : good setup seen.epoch 0 seen.start
    pub within : round ≤ m.rounds setup seen.epoch
    pub its : local_at m setup seen.epoch seen.start rank round ≡ Some local

  -- a rank has come to the place that follows the rounds before
  pub record HasPassed (seen : Sight L) (rank round : ℕ) (at : Place) (local : L) : Type 0 where
    pub at_is : at ≡ place_from m setup seen.epoch seen.start rank (m.rounds setup seen.epoch - round) round
    pub here : IsLocalAt m good setup seen rank at local

  -- what follows the beginning of a round: its place, where it has peers, or the beginning of the next round
  abbrev pub Follows : (seen : Sight L) (epoch : Epoch) (rank round : ℕ) (local : L) → Option (List ℕ) → Type 0
  Follows seen epoch rank round local (Some peers) = HasPassed seen rank round (Rounds round 0 0 peers) local
  Follows seen epoch rank round local None =
      Begins seen epoch rank (round + 1) local
      × (place_from m setup seen.epoch seen.start rank (m.rounds setup seen.epoch - round) round
      ≡ place_from m setup seen.epoch seen.start rank (m.rounds setup seen.epoch - (round + 1)) (round + 1))

  -- a rank has come to this place, or has found no memory on its way there
  abbrev pub ComesTo : (seen : Sight L) (rank : ℕ) (to : Place) (local : L) → Stand → Type 0
  ComesTo seen rank to local (Placed at) = (to ≡ at) × IsLocalAt m good setup seen rank at local
  ComesTo seen rank to local Failed = Unit {0}
  ComesTo seen rank to local Opening = ⊥
  ComesTo seen rank to local Arrived = ⊥
  ComesTo seen rank to local Ended = ⊥

  -- a rank's local that has sent and received all of a round
  pub record EndsRound (seen : Sight L) (epoch : Epoch) (rank round : ℕ) (local : L) : Type 0 where
    pub same : epoch ≡ seen.epoch
    pub is_good : good setup seen.epoch 0 seen.start
    pub within : round < m.rounds setup seen.epoch
    pub point : IsFinishing m good setup seen.epoch round local
    pub after : local_at m setup seen.epoch seen.start rank (round + 1) ≡ Some (m.finish setup local seen.epoch round)

  -- a rank's local whose next step in a round is to take the lockstep's message from a peer
  pub record TakesInRound (seen : Sight L) (epoch : Epoch) (rank round sent received : ℕ) (peers : List ℕ) (peer : ℕ) (msg : M) (local : L) : Type 0 where
    pub same : epoch ≡ seen.epoch
    pub is_good : good setup seen.epoch 0 seen.start
    pub within : round < m.rounds setup seen.epoch
    pub peers_are : peers ≡ peers_at m setup seen.epoch seen.start rank round
    pub all_sent : sent ≡ length peers
    pub next : slice_get peers received ≡ Some peer
    pub here : IsLocalAt m good setup seen rank (Rounds round sent received peers) local
    pub its : message_at m setup seen.epoch seen.start peer rank round ≡ Some msg

  abbrev pub TakesNext : (seen : Sight L) (epoch : Epoch) (rank : ℕ) → Place → (peer : ℕ) (msg : M) (local : L) → Type 0
  TakesNext seen epoch rank (Rounds round sent received peers) peer msg local = TakesInRound seen epoch rank round sent received peers peer msg local
  TakesNext seen epoch rank Past peer msg local = ⊥

  -- a rank's local that the epoch begins with, once it is kept or restored
  pub record IsBeginning (seen : Sight L) (epoch : Epoch) (rank : ℕ) (local : L) : Type 0 where
    pub same : epoch ≡ seen.epoch
    pub is_good : good setup seen.epoch 0 seen.start
    pub will : WillBegin m good setup seen.epoch.restored seen rank local

  -- what a rank that is done gives: its parcel in the last epoch alone
  abbrev pub Gives : Epoch → (before after : L) → Option T → Type 0
  Gives epoch before after (Some part) = (epoch.target ≡ m.steps setup) × ((part ≡ (m.parcel before).1) × (after ≡ (m.parcel before).0))
  Gives epoch before after None = (epoch.target ≡ m.steps setup → ⊥) × (after ≡ before)

  -- a rank that has made all its turns, and whose next event is not its death
  pub record MayStep (journal : List Event) (view : RankView L) : Type 0 where
    pub at : IsAt m good setup journal view
    pub undue : is_due (run_after m setup journal).core view.rank ≡ false

  -- one event more of a rank, that it was offered; it has made all its turns then, once it drops what it doesn't keep, and is past
  -- its opening
  pub record HasMoved (old new : List Event) (view : RankView L) : Type 0 where
    pub event : Event
    pub more : new ≡ old ++ event ∷ []
    pub offered : IsOffered (run_after m setup old).core view.rank (place (run_after m setup old) view.rank) event
    pub opened : view.stand ≡ Opening → ⊥
    pub at : IsAt m good setup new (kept view)

  -- what a step came to: one event more; or none, where none is offered; or none for want of memory, before the rank has arrived,
  -- where it has failed or is offered an event
  abbrev pub HasStepped : (old new : List Event) (before after : RankView L) → Step → Type 0
  HasStepped old new before after (Moved stand) = HasMoved old new (standing_at after stand)
  HasStepped old new before after NotYet =
      (new ≡ old) × ((after ≡ before)
      × ((event : Event) → IsOffered (run_after m setup old).core before.rank (place (run_after m setup old) before.rank) event → ⊥))
  HasStepped old new before after Short =
      (new ≡ old) × ((stage (run_after m setup old).core before.rank ≡ Running)
      × ((before.stand ≡ Failed) ⊎ IsOfferedSome m good setup old before.rank))
