-- What the calls of a round program mean, on plain values.
use Rattle.std.specs.Prelude.{ℕ, Bool, List}
use Rattle.bf_program.specs.declared.epoch.Epoch.{Epoch}
use Rattle.bf_program.specs.declared.measure.Measure.{Measure}

-- over setups, locals, messages, parts, and what a restore reads of a local
pub record Meanings (S L M T R : Type 0) : Type 0 where
  pub ranks : S → ℕ
  pub steps : S → ℕ
  pub shift : S → ℕ
  -- how much time lies between two snapshots
  pub interval : S → ℕ
  -- the ranks that die, rising, and how many events each has by then
  pub deaths : S → List (ℕ × ℕ)
  pub rounds : S → Epoch → ℕ
  pub peers : S → L → Epoch → (round : ℕ) → List ℕ
  -- the local that has sent to a peer, and the message
  pub out : S → L → Epoch → (round to : ℕ) → L × M
  -- the local that has received from a peer
  pub take : S → L → Epoch → (round peer : ℕ) → M → L
  pub finish : S → L → Epoch → (round : ℕ) → L
  -- whether the rank's part of the new snapshot has a block
  pub filled : L → Bool
  -- the local whose finished blocks are moved out, and they
  pub parcel : L → L × T
  -- the local whose new snapshot is the agreed one
  pub keep : L → L
  pub restore : S → L → (rank : ℕ) → Epoch → L
  pub measure : M → Measure
  -- the locals at the opening, one for each rank
  pub opening : S → List L
  -- the ranks whose part of the opening's snapshot has a block
  pub laid : S → List ℕ
  -- of the members' locals: the homes whose part of the agreed snapshot has a block
  pub stored : List L → List ℕ
  -- what a restore reads of a local
  pub reads : L → R
  -- the homes whose parts a restore gives to a rank, by what it reads
  pub given : S → R → (rank : ℕ) → Epoch → List ℕ

-- the pieces of the domain that a local, a message, a part and an agreed snapshot hold, as boxes of units
pub record Regions (S L M T R B U : Type 0) : Type 0 where
  pub of_local : L → List B
  pub of_message : M → List B
  pub of_part : T → List B
  -- those of a home's part of the agreed snapshot, as a rank has it, by what a restore reads
  pub of_saved : R → (rank home : ℕ) → List B
  pub holds : B → U → Bool
  -- the units of the domain
  pub is_in_domain : S → U → Bool
