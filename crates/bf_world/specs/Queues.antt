-- The messages that wait from each rank to each.
use Rattle.std.specs.Prelude.{ℕ, ◌≡◌, ◌*◌, ◌<◌, List, [], length, map, replicate, slice_index_or, slice_set}
use Rattle.bf_core.specs.States.{channel}

pub record Waiting (M : Type 0) : Type 0 where
  pub ranks : ℕ
  -- what waits from each rank to each, that from the first rank first; the front of each first
  pub queues : List (List M)

-- the messages that wait from one rank to another
abbrev pub messages : {M : Type 0} → Waiting M → (from to : ℕ) → List M
messages waiting from to = slice_index_or waiting.queues (channel waiting.ranks from to) []

-- how many messages wait from each rank to each
abbrev pub lengths : {M : Type 0} → Waiting M → List ℕ
lengths waiting = map length waiting.queues

-- what waits once other messages wait from one rank to another
abbrev pub with_messages : {M : Type 0} → Waiting M → (from to : ℕ) → List M → Waiting M
with_messages waiting from to others =
    record { ranks = waiting.ranks; queues = slice_set waiting.queues (channel waiting.ranks from to) others }

-- no message waits
abbrev pub no_messages : {M : Type 0} → (ranks : ℕ) → Waiting M
no_messages ranks = record { ranks = ranks; queues = replicate (ranks * ranks) [] }

-- there is one queue from each rank to each
abbrev pub IsSquare : {M : Type 0} → Waiting M → Type 0
IsSquare waiting = length waiting.queues ≡ waiting.ranks * waiting.ranks

-- all queues but the one from a rank to another hold what they did
abbrev pub OthersStay : {M : Type 0} → (old new : Waiting M) (from to : ℕ) → Type 0
OthersStay old new from to =
    (a b : ℕ) → a < old.ranks → b < old.ranks → (a ≡ from → b ≡ to → ⊥) → messages new a b ≡ messages old a b
