-- A diary of several writers.
use Rattle.std.specs.Prelude.{◌≡◌, ℕ, ◌+◌, Bool, true, List, ◌++◌, map}
use Rattle.bf_turn.specs.declared.known.Known.{Known}
use Rattle.bf_turn.specs.declared.diary.Note.{Note}
use Rattle.bf_turn.specs.Seats.{Sitting}

abbrev pub writer_of : Note → ℕ
writer_of note = note.writer

-- the notes of a writer, by their texts
abbrev pub notes_of : (writer : ℕ) → (texts : List ℕ) → List Note
notes_of writer texts = map (λ text. record { writer = writer; text = text }) texts

-- a seat has made these notes from a take to a give
pub record Writes (before now : Known Note ℕ) (notes : List Note) : Type 0 where
  pub parties : now.parties ≡ before.parties
  pub name : now.name ≡ before.name
  pub calls : now.calls ≡ before.calls ++ notes
  pub passes : now.passes ≡ before.passes + 1

-- a seat has made the notes of a writer by several takes to gives, all of them unless memory was wanting
pub record WritesAll (writer : ℕ) (texts : List ℕ) (before now : Sitting Note ℕ) (whole : Bool) : Type 0 where
  pub lock : now.lock ≡ before.lock
  pub parties : now.known.parties ≡ before.known.parties
  pub name : now.known.name ≡ before.known.name
  pub calls : whole ≡ true → now.known.calls ≡ before.known.calls ++ notes_of writer texts
