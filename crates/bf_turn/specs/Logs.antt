-- Logs: lists of entries, each of one party.
use Rattle.std.specs.Prelude.{◌≡◌, ℕ, ◌==◌, List, ◌++◌, length, drop, filter, All, Contains, nat_le, if◌then◌else◌}

-- the entries of a party, in their order
abbrev pub entries_of : {E : Type 0} → (party_of : E → ℕ) → (party : ℕ) → List E → List E
entries_of party_of party log = filter (λ entry. party_of entry == party) log

-- a log has just these calls of each party, each once and in its order
abbrev pub HasJust : {E : Type 0} → (party_of : E → ℕ) → (calls log : List E) → Type 0
HasJust party_of calls log = (party : ℕ) → entries_of party_of party log ≡ entries_of party_of party calls

-- a log begins with what was seen of it
abbrev pub StartsWith : {E : Type 0} → (log seen : List E) → Type 0
StartsWith {E = E} log seen = (rest : List E) × (log ≡ seen ++ rest)

-- the entries of a log after those that were seen
abbrev pub after : {E : Type 0} → (seen log : List E) → List E
after seen log = drop (length seen) log

-- a log goes on from what was seen by entries of these parties alone
abbrev pub GoesOn : {E : Type 0} → (party_of : E → ℕ) → (parties : List ℕ) → (seen log : List E) → Type 0
GoesOn party_of parties seen log = StartsWith log seen × All (λ entry. Contains parties (party_of entry)) (after seen log)

-- of two lists the longer, and the other
abbrev pub longer : {E : Type 0} → List E → List E → List E
longer a b = if nat_le (length a) (length b) then b else a

abbrev pub shorter : {E : Type 0} → List E → List E → List E
shorter a b = if nat_le (length a) (length b) then a else b
