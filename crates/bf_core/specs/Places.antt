-- What a place's next step is.
use Rattle.std.specs.Prelude.{ℕ, ◌<◌, Bool, true, false, ◌==◌, nat_lt, if◌then◌else◌, length, Option, Some, None, slice_get, All}
use Rattle.bf_core.specs.declared.place.Place.{Place}
use Rattle.bf_core.specs.declared.place.Place.TheVariants.{Rounds, Past}

-- whether this is the number that there may be
abbrev pub is_just : Option ℕ → ℕ → Bool
is_just (Some m) n = m == n
is_just None n = false

-- the round of a place
abbrev pub round_of : Place → ℕ
round_of (Rounds round sent received peers) = round
round_of Past = 0

-- to whom a rank sends next
abbrev pub next_send : Place → Option ℕ
next_send (Rounds round sent received peers) = slice_get peers sent
next_send Past = None

-- from whom a rank receives next, once all sends of the round are done
abbrev pub next_receive : Place → Option ℕ
next_receive (Rounds round sent received peers) = if nat_lt sent (length peers) then None else slice_get peers received
next_receive Past = None

-- whether a rank is past the last round
abbrev pub is_past : Place → Bool
is_past Past = true
is_past (Rounds round sent received peers) = false

-- the peers of a place are ranks below a bound
abbrev pub PeersBelow : ℕ → Place → Type 0
PeersBelow ranks (Rounds round sent received peers) = All (λ peer. peer < ranks) peers
PeersBelow ranks Past = Unit {0}
