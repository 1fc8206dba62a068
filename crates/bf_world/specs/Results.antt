-- What a run comes to.
use Rattle.std.specs.Prelude.{ℕ, List, map}
use Rattle.std.specs.List.{zip}
use Rattle.bf_program.specs.Meanings.{Meanings}

-- what the members give once all rounds of the last epoch are done, in rising order of ranks
abbrev pub parcels_of : {S L M T R : Type 0} → Meanings S L M T R → (members : List ℕ) → List L → List (ℕ × T)
parcels_of {L = L} {T = T} m members locals = map {A = ℕ × L} {B = ℕ × T} (λ seat. (seat.0, (m.parcel seat.1).1)) (zip members locals)
