-- How often an outside end has failed, as a count that is kept in 64 bits.
use Rattle.std.specs.Prelude.{◌≡◌, ◌⊎◌, ℕ, ◌+◌, ◌-◌, ◌^◌, ◌<◌, min}

-- the last value of a kept count
abbrev pub last_count : ℕ
last_count = 2 ^ 64 - 1

-- the value after n; the last one stands still
abbrev pub next_count : ℕ → ℕ
next_count n = min (n + 1) last_count

-- the count is greater than before, or stands at its last value
abbrev pub Rose : ℕ → ℕ → Type 0
Rose before after = (before < after) ⊎ (after ≡ last_count)
