-- How an `Id` is stored: its octants fill four places, and zeros follow them.
use Rattle.std.specs.Prelude.{◌≡◌, ℕ, List, [], ◌∷◌, ◌++◌, length, take}
use Rattle.bf_id.specs.Id.{BlockId, IsId}

abbrev pub padded : List ℕ → List ℕ
padded octants = take 4 (octants ++ 0 ∷ 0 ∷ 0 ∷ 0 ∷ [])

-- the level and the four places are those of the id
pub record IsStored (i : BlockId) (level : ℕ) (places : List ℕ) : Type 0 where
  pub sound : IsId i
  pub level_fits : level ≡ length i.digits
  pub places_fit : places ≡ padded i.digits

-- an id as it is seen
abbrev pub shown : ℕ → ℕ → List ℕ → BlockId
shown root level places = record { root = root; digits = take level places }
