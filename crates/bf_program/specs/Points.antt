-- Where a local stands in the lockstep: what each call of a program asks of the local and the message that it is given.
use Rattle.std.specs.Prelude.{◌≡◌, ℕ, ◌<◌, IsTrue, List, length, Some, slice_get}
use Rattle.bf_buddy.specs.Members.{is_member}
use Rattle.bf_program.specs.declared.epoch.Epoch.{Epoch}
use Rattle.bf_program.specs.Meanings.{Meanings}
use Rattle.bf_program.specs.Lockstep.{local_of, after_sends, message, after_receives, lockstep}

module _ {S L M T R : Type 0} (m : Meanings S L M T R) (good : S → Epoch → ℕ → List L → Type 0) (setup : S) (epoch : Epoch) where
  -- the members' locals at the beginning of a round, in the lockstep from a good start
  pub record IsReached (round : ℕ) (locals : List L) : Type 0 where
    pub start : List L
    pub good_start : good setup epoch 0 start
    pub within : round < m.rounds setup epoch
    pub reached : locals ≡ lockstep m setup epoch start round

  -- a member's local at the beginning of a round
  pub record BeginsRound (round : ℕ) (locals : List L) (rank : ℕ) (first : L) : Type 0 where
    pub reached : IsReached round locals
    pub its : local_of epoch.members locals rank ≡ Some first

  -- a local at the beginning of a round
  pub record IsFirst (round : ℕ) (first : L) : Type 0 where
    pub locals : List L
    pub rank : ℕ
    pub begins : BeginsRound round locals rank first

  -- a local whose next send of the round is that to a peer
  pub record IsSending (round to : ℕ) (local : L) : Type 0 where
    pub first : L
    pub is_first : IsFirst round first
    pub count : ℕ
    pub sent : local ≡ after_sends m setup epoch round first count
    pub next : slice_get (m.peers setup first epoch round) count ≡ Some to

  -- a local whose next receive of the round is that of a message from a peer
  pub record IsReceiving (round peer : ℕ) (msg : M) (local : L) : Type 0 where
    pub locals : List L
    pub rank : ℕ
    pub first : L
    pub begins : BeginsRound round locals rank first
    pub count : ℕ
    pub received : local ≡ after_receives m setup epoch round locals rank first count
    pub next : slice_get (m.peers setup first epoch round) count ≡ Some peer
    pub sender : L
    pub sends : local_of epoch.members locals peer ≡ Some sender
    pub sent : msg ≡ message m setup epoch round sender rank

  -- a local that has sent and received all of the round
  pub record IsFinishing (round : ℕ) (local : L) : Type 0 where
    pub locals : List L
    pub rank : ℕ
    pub first : L
    pub begins : BeginsRound round locals rank first
    pub received : local ≡ after_receives m setup epoch round locals rank first (length (m.peers setup first epoch round))

  -- a local of which a restore reads what it would read of this member's local in a good vector that has the same agreed snapshot
  pub record IsRestoring (rank : ℕ) (local : L) : Type 0 where
    pub member : IsTrue (is_member epoch.members rank)
    pub before : Epoch
    pub time : before.time ≡ epoch.time
    pub homes : before.homes ≡ epoch.homes
    pub round : ℕ
    pub locals : List L
    pub is_good : good setup before round locals
    pub agreed : L
    pub its : local_of before.members locals rank ≡ Some agreed
    pub same : m.reads local ≡ m.reads agreed
