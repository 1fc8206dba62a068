-- The lockstep: the rounds of an epoch over the list of the members' locals, without queues, order or threads.
use Rattle.std.specs.Prelude.{ℕ, zero, suc, ◌==◌, List, map, length, take, Option, Some, None}
use Rattle.std.specs.List.{zip, fold}
use Rattle.std.specs.Map.{lookup}
use Rattle.bf_buddy.specs.Buddy.{place_of}
use Rattle.bf_program.specs.declared.epoch.Epoch.{Epoch}
use Rattle.bf_program.specs.Meanings.{Meanings}

-- the local of a member
abbrev pub local_of : {L : Type 0} → (members : List ℕ) → List L → (rank : ℕ) → Option L
local_of members locals rank = lookup (λ member. member == rank) (zip members locals)

module _ {S L M T R : Type 0} (m : Meanings S L M T R) (setup : S) (epoch : Epoch) (round : ℕ) where
  -- a local that has sent to a peer
  abbrev pub after_send : L → ℕ → L
  after_send local to = (m.out setup local epoch round to).0

  -- a local that has sent to the first peers of the round
  unfoldable pub after_sends : L → (count : ℕ) → L
  after_sends local count = fold after_send local (take count (m.peers setup local epoch round))

  -- a local's message to a peer, after those to the peers before
  unfoldable pub message : L → (to : ℕ) → M
  message local to = (m.out setup (after_sends local (place_of (m.peers setup local epoch round) to)) epoch round to).1

  -- a local that has received a message of a peer's local
  abbrev pub after_message : (rank peer : ℕ) → L → Option L → L
  after_message rank peer local (Some sender) = m.take setup local epoch round peer (message sender rank)
  after_message rank peer local None = local

  -- a member's local that has sent to all peers, and received from the first of them
  unfoldable pub after_receives : List L → (rank : ℕ) → L → (count : ℕ) → L
  after_receives locals rank local count =
      fold (λ receiver peer. after_message rank peer receiver (local_of epoch.members locals peer))
      (after_sends local (length (m.peers setup local epoch round)))
      (take count (m.peers setup local epoch round))

  -- a member's local after the round
  unfoldable pub after_round : List L → (rank : ℕ) → L → L
  after_round locals rank local =
      m.finish setup (after_receives locals rank local (length (m.peers setup local epoch round))) epoch round

  -- the members' locals after the round
  unfoldable pub next_locals : List L → List L
  next_locals locals = map (λ seat. after_round locals seat.0 seat.1) (zip epoch.members locals)

-- the members' locals after so many rounds of an epoch
abbrev pub lockstep : {S L M T R : Type 0} → Meanings S L M T R → S → Epoch → (start : List L) → (rounds : ℕ) → List L
lockstep m setup epoch start zero = start
lockstep m setup epoch start (suc rounds) = next_locals m setup epoch rounds (lockstep m setup epoch start rounds)
