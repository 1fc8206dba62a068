-- Two lists of items in rising order made one.
use Rattle.std.specs.Prelude.{ℕ, Bool, List, [], ◌∷◌, map, if◌then◌else◌}
use Rattle.std.specs.List.{position_or_len}
use Rattle.bf_buddy.specs.Members.{is_member}
use Rattle.bf_program.specs.Restores.{heir_of}
use Rattle.bf_parts.specs.declared.side.Side.{Side}
use Rattle.bf_parts.specs.Leaves.{Kind}

-- an item and what is to come of the rest, among items
abbrev pub placed : {I : Type 0} → (first : I → I → Bool) → I → (rest : List I → List I) → List I → List I
placed first x rest [] = x ∷ rest []
placed first x rest (y ∷ ys) = if first x y then x ∷ rest (y ∷ ys) else y ∷ placed first x rest ys

abbrev pub merged : {I : Type 0} → (first : I → I → Bool) → List I → List I → List I
merged first [] = λ ys. ys
merged first (x ∷ xs) = placed first x (merged first xs)

-- who goes on for an owner in a link
abbrev pub heir_by : {I : Type 0} → Side I → (shift : ℕ) → (live : List ℕ) → ℕ → ℕ
heir_by side shift live owner = heir_of side.homes live shift owner

-- the items that a rank goes on with: its own part, and its predecessor's where that is dead, in rising order, with
-- dead owners in links replaced by their buddies
unfoldable pub regained : {I : Type 0} → Kind I → Side I → (shift : ℕ) → (live : List ℕ) → List I
regained kind side shift live =
    map (kind.remap (heir_by side shift live)) (if is_member live side.source then side.own else merged kind.first side.own side.other)

-- how many of some items don't come after one
abbrev pub passed : {I : Type 0} → (first : I → I → Bool) → I → List I → ℕ
passed first x ys = position_or_len (first x) ys
