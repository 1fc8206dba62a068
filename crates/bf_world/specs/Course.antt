-- Where the lockstep of an epoch leads each rank.
use Rattle.std.specs.Prelude.{ℕ, zero, suc, ◌+◌, ◌-◌, cond, nat_lt, if◌then◌else◌, List, [], ◌∷◌, length, Option, Some, None}
use Rattle.std.specs.Option.{option_map}
use Rattle.bf_program.specs.declared.epoch.Epoch.{Epoch}
use Rattle.bf_program.specs.Meanings.{Meanings}
use Rattle.bf_program.specs.Lockstep.{local_of, after_sends, after_receives, message, lockstep}
use Rattle.bf_core.specs.declared.place.Place.{Place}
use Rattle.bf_core.specs.declared.place.Place.TheVariants.{Rounds, Past}

-- the place at the beginning of a round, or what follows it where the round has no peers
abbrev pub place_with : (round : ℕ) (peers : List ℕ) → Place → Place
place_with round [] later = later
place_with round (peer ∷ peers) later = Rounds round 0 0 (peer ∷ peers)

-- over the epoch and the members' locals with which it began
module _ {S L M T R : Type 0} (m : Meanings S L M T R) (setup : S) (epoch : Epoch) (start : List L) where
  -- a member's local at the beginning of a round
  abbrev pub local_at : (rank round : ℕ) → Option L
  local_at rank round = local_of epoch.members (lockstep m setup epoch start round) rank

  -- a member's local, from that at the beginning of a round, after so many sends, or after all of them and so many receives
  abbrev pub local_in_round : (rank round sent received : ℕ) (peers : List ℕ) → L → L
  local_in_round rank round sent received peers first =
      cond (nat_lt sent (length peers)) (after_sends m setup epoch round first sent)
      (after_receives m setup epoch round (lockstep m setup epoch start round) rank first received)

  -- a rank's local at a place, if it is a member
  unfoldable pub local_at_place : (rank : ℕ) → Place → Option L
  local_at_place rank (Rounds round sent received peers) = option_map (local_in_round rank round sent received peers) (local_at rank round)
  local_at_place rank Past = local_at rank (m.rounds setup epoch)

  abbrev peers_with : (round : ℕ) → Option L → List ℕ
  peers_with round (Some local) = m.peers setup local epoch round
  peers_with round None = []

  -- its peers in that round
  unfoldable pub peers_at : (rank round : ℕ) → List ℕ
  peers_at rank round = peers_with round (local_at rank round)

  abbrev pub message_with : (round to : ℕ) → Option L → Option M
  message_with round to (Some local) = Some (message m setup epoch round local to)
  message_with round to None = None

  -- its message to a peer in that round
  unfoldable pub message_at : (from to round : ℕ) → Option M
  message_at from to round = message_with round to (local_at from round)

  -- the place of a rank that has done the rounds before, of which so many are left; rounds without peers are passed
  unfoldable pub place_from : (rank left round : ℕ) → Place
  place_from rank zero round = Past
  place_from rank (suc left) round = place_with round (peers_at rank round) (place_from rank left (round + 1))

  -- the place at which a rank begins the epoch
  abbrev pub first_place : (rank : ℕ) → Place
  first_place rank = place_from rank (m.rounds setup epoch) 0

  -- the place after a receive
  abbrev pub after_receive : (rank : ℕ) → Place → Place
  after_receive rank (Rounds round sent received peers) =
      if nat_lt (received + 1) (length peers) then Rounds round sent (received + 1) peers
      else place_from rank (m.rounds setup epoch - (round + 1)) (round + 1)
  after_receive rank Past = Past

-- the place after a send
abbrev pub after_send : Place → Place
after_send (Rounds round sent received peers) = Rounds round (sent + 1) received peers
after_send Past = Past
