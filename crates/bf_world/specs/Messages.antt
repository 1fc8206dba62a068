-- Which messages of the lockstep have been sent and received at a place.
use Rattle.std.specs.Prelude.{◌≡◌, ℕ, zero, suc, ◌<◌, if◌then◌else◌, List, [], ◌∷◌, ◌++◌, length, take, Option, Some, None}
use Rattle.bf_buddy.specs.Members.{is_member}
use Rattle.bf_program.specs.declared.epoch.Epoch.{Epoch}
use Rattle.bf_program.specs.Meanings.{Meanings}
use Rattle.bf_core.specs.declared.place.Place.{Place}
use Rattle.bf_core.specs.declared.place.Place.TheVariants.{Rounds, Past}
use Rattle.bf_world.specs.Course.{peers_at, message_at}
use Rattle.bf_world.specs.Queues.{Waiting, messages, lengths, IsSquare}
use Rattle.bf_world.specs.Runs.{Run, place}

abbrev pub listed : {M : Type 0} → Option M → List M
listed (Some msg) = msg ∷ []
listed None = []

module _ {S L M T R : Type 0} (m : Meanings S L M T R) (setup : S) (epoch : Epoch) (start : List L) where
  -- the message from a rank to another in a round, if the other is among the first peers of the one
  unfoldable pub sent_in : (from to round count : ℕ) → List M
  sent_in from to round count = if is_member (take count (peers_at m setup epoch start from round)) to then listed (message_at m setup epoch start from to round) else []

  -- the messages from a rank to another in the rounds before
  abbrev pub sent_before : (from to round : ℕ) → List M
  sent_before from to zero = []
  sent_before from to (suc round) = sent_before from to round ++ sent_in from to round (length (peers_at m setup epoch start from round))

  -- the messages that a rank has sent to another, where it stands at a place
  unfoldable pub sent_to : (from to : ℕ) → Place → List M
  sent_to from to (Rounds round sent received peers) = sent_before from to round ++ sent_in from to round sent
  sent_to from to Past = sent_before from to (m.rounds setup epoch)

  -- the message to a rank from another in a round, if the other is among the first peers of the one
  unfoldable pub received_in : (to from round count : ℕ) → List M
  received_in to from round count = if is_member (take count (peers_at m setup epoch start to round)) from then listed (message_at m setup epoch start from to round) else []

  abbrev pub received_before : (to from round : ℕ) → List M
  received_before to from zero = []
  received_before to from (suc round) = received_before to from round ++ received_in to from round (length (peers_at m setup epoch start to round))

  -- the messages that a rank has received from another, where it stands at a place
  unfoldable pub received_from : (to from : ℕ) → Place → List M
  received_from to from (Rounds round sent received peers) = received_before to from round ++ received_in to from round received
  received_from to from Past = received_before to from (m.rounds setup epoch)

-- the queues of a run hold the messages of the lockstep that were sent and not received, in their order
pub record HoldsMessages {S L M T R : Type 0} (m : Meanings S L M T R) (setup : S) (run : Run L T) (waiting : Waiting M) : Type 0 where
  pub holds : (from to : ℕ) → from < waiting.ranks → to < waiting.ranks
      → received_from m setup run.core.epoch run.start to from (place run to) ++ messages waiting from to
      ≡ sent_to m setup run.core.epoch run.start from to (place run from)

-- the queues of a run: one from each rank to each, as long as the state says, with the messages of the lockstep while the run goes on
pub record AreQueuesOf {S L M T R : Type 0} (m : Meanings S L M T R) (setup : S) (run : Run L T) (waiting : Waiting M) : Type 0 where
  pub ranks : waiting.ranks ≡ m.ranks setup
  pub square : IsSquare waiting
  pub counts : lengths waiting ≡ run.core.queues
  pub holds : run.core.outcome ≡ None → HoldsMessages m setup run waiting
