-- What contracts see of locks and seats, and what becomes of what a seat knows.
use Rattle.std.specs.Prelude.{◌≡◌, ℕ, ◌+◌, ◌==◌, List, [], ◌∷◌, ◌++◌, filter, not, Contains, Some}
use Rattle.std.specs.List.{range_with_len}
use Rattle.atomic_table.specs.Seated.{TableId}
use Rattle.bf_turn.specs.declared.known.Known.{Known}
use Rattle.bf_turn.specs.Logs.{entries_of, after, longer}

-- a lock, with the number of its parties
pub record Lock : Type 0 where
  pub lock : TableId
  pub parties : ℕ

-- a seat of a lock
pub record Sitting (E N : Type 0) : Type 0 where
  pub lock : TableId
  pub known : Known E N

-- Of each party of a seat a log has just the seat's calls, all of which the seat has seen. The seat has no calls of others.
pub record HasOwnCalls {E N : Type 0} (party_of : E → ℕ) (known : Known E N) (log : List E) : Type 0 where
  pub seen : (party : ℕ) → Contains known.parties party → entries_of party_of party log ≡ entries_of party_of party known.seen
  pub calls : (party : ℕ) → Contains known.parties party → entries_of party_of party log ≡ entries_of party_of party known.calls
  pub alone : (party : ℕ) → ¬ Contains known.parties party → entries_of party_of party known.calls ≡ []

module _ {E N : Type 0} where
  -- of all parties, at the empty log
  abbrev pub opened : (parties : ℕ) → N → Known E N
  opened parties name = record { parties = range_with_len 0 parties; name = Some name; seen = []; calls = []; passes = 0 }

  -- the state is given back with this log
  abbrev pub passed : Known E N → (log : List E) → Known E N
  passed known log = record known { seen = log; calls = known.calls ++ after known.seen log; passes = known.passes + 1 }

  -- a party is split off: what the others' seat knows, and what its own does
  abbrev pub without : (party : ℕ) → Known E N → Known E N
  without party known = record known { parties = filter (λ other. not (other == party)) known.parties }

  abbrev pub newcomer : (party : ℕ) → Known E N → Known E N
  newcomer party known = record { parties = party ∷ []; name = known.name; seen = known.seen; calls = []; passes = 0 }

  -- two seats are joined
  abbrev pub joined : (a b : Known E N) → Known E N
  joined a b = record {
    parties = a.parties ++ b.parties;
    name = a.name;
    seen = longer a.seen b.seen;
    calls = a.calls ++ b.calls;
    passes = a.passes + b.passes;
  }
