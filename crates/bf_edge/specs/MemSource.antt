-- A source in memory, as contracts see it.
use Rattle.std.specs.Prelude.{ℕ, min, List, length, drop, Contains}
use Rattle.bf_edge.specs.Faults.{next_count}

pub record Supply : Type 0 where
  pub left : List ℕ  -- the bytes still to come
  pub piece : ℕ  -- the most that a call gives
  pub failing : List ℕ  -- the numbers of the calls that fail, counted from 1
  pub calls : ℕ  -- how many calls there were
  pub faults : ℕ  -- how many of them failed

-- the next call is one of those that fail
abbrev pub FailsNext : Supply → Type 0
FailsNext s = Contains s.failing (next_count s.calls)

-- how many bytes the next call gives, if it does not fail, into so much room
abbrev pub next_length : Supply → ℕ → ℕ
next_length s room = min s.piece (min room (length s.left))

-- the source once a call has given n bytes
abbrev pub supply_after : Supply → ℕ → Supply
supply_after s n = record s { left = drop n s.left; calls = next_count s.calls }

-- the source once a call has failed
abbrev pub failed_supply : Supply → Supply
failed_supply s = record s { calls = next_count s.calls; faults = next_count s.faults }
