-- What a call has to do with the outside: its source and its sink, before it and after.
use Rattle.std.specs.Prelude.{◌≡◌, ℕ, ◌+◌, ◌≤◌, List, Option, Some}
use Rattle.bf_edge.specs.Source.{left_after, Passes}
use Rattle.bf_text.specs.Reading.{input_limit}

-- the bytes that a source has left, where they are told, and its count of faults, before a call and after
pub record SourceEnds : Type 0 where
  pub left : Option (List ℕ)
  pub left_then : Option (List ℕ)
  pub faults : ℕ
  pub faults_then : ℕ

-- what a source tells by these of itself before and after
abbrev pub source_ends : {R : Type 0} → (R → Option (List ℕ)) → (R → ℕ) → R → R → SourceEnds
source_ends left faults old new = record {
  left = left old;
  left_then = left new;
  faults = faults old;
  faults_then = faults new;
}

-- the bytes that a sink has taken, where they are told, and its count of faults, before a call and after
pub record SinkEnds : Type 0 where
  pub written : Option (List ℕ)
  pub written_then : Option (List ℕ)
  pub faults : ℕ
  pub faults_then : ℕ

-- what a sink tells by these of itself before and after
abbrev pub sink_ends : {W : Type 0} → (W → Option (List ℕ)) → (W → ℕ) → W → W → SinkEnds
sink_ends written faults old new = record {
  written = written old;
  written_then = written new;
  faults = faults old;
  faults_then = faults new;
}

-- nothing was read
pub record IsUnread (source : SourceEnds) : Type 0 where
  pub left : source.left_then ≡ source.left
  pub steady : source.faults_then ≡ source.faults

-- all that an input may have was read, with no fault
pub record IsRead (source : SourceEnds) : Type 0 where
  pub left : source.left_then ≡ left_after source.left (input_limit + 1)
  pub steady : source.faults_then ≡ source.faults

-- what is certain of a source after any call: no more than an input may have is gone, from the front, and its count of faults has not fallen
pub record IsLeft (source : SourceEnds) : Type 0 where
  pub passed : Passes source.left source.left_then (input_limit + 1)
  pub never_falls : source.faults ≤ source.faults_then

-- the source of which these bytes were read, and which had no others
abbrev pub source_of : List ℕ → SourceEnds
source_of bytes = record {
  left = Some bytes;
  left_then = left_after (Some bytes) (input_limit + 1);
  faults = 0;
  faults_then = 0;
}
