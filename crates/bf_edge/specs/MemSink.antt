-- A sink in memory, as contracts see it.
use Rattle.std.specs.Prelude.{◌⊎◌, ℕ, ◌-◌, ◌<◌, ◌≤◌, min, List, ◌++◌, length, Contains}
use Rattle.bf_edge.specs.Faults.{next_count}

pub record Store : Type 0 where
  pub written : List ℕ  -- the bytes taken so far
  pub piece : ℕ  -- the most that a call takes
  pub room : ℕ  -- the most bytes in all
  pub failing : List ℕ  -- the numbers of the calls that fail, counted from 1
  pub calls : ℕ  -- how many calls there were
  pub faults : ℕ  -- how many of them failed

-- the next call fails, if it brings so many bytes: it is one of those that do, or there is no room left
abbrev pub RefusesNext : Store → ℕ → Type 0
RefusesNext s size = Contains s.failing (next_count s.calls) ⊎ ((0 < size) × (s.room ≤ length s.written))

-- how many of so many bytes the next call takes, if it does not fail
abbrev pub taken_length : Store → ℕ → ℕ
taken_length s size = min s.piece (min size (s.room - length s.written))

-- the sink once a call has taken these bytes
abbrev pub store_after : Store → List ℕ → Store
store_after s bytes = record s { written = s.written ++ bytes; calls = next_count s.calls }

-- the sink once a call has failed
abbrev pub failed_store : Store → Store
failed_store s = record s { calls = next_count s.calls; faults = next_count s.faults }
