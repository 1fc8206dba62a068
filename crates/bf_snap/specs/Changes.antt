-- Changes of a rank's two sides, one after the other.
use Rattle.std.specs.Prelude.{ℕ, Bool, true, false, List}
use Rattle.std.specs.List.{fold, list_any}
use Rattle.bf_snap.specs.Buffers.{TwoSides, heard, written, cleared, swapped}

-- one call that changes them
pub data Change (I : Type 0) : Type 0 where
  Hear : (part : List I) → Change I
  Write : (time : ℕ) → (homes : List ℕ) → (source : ℕ) → (own : List I) → Change I
  Clear : Change I
  Swap : Change I

-- the sides after one change
abbrev pub after : {I : Type 0} → TwoSides I → Change I → TwoSides I
after sides (Hear part) = heard part sides
after sides (Write time homes source own) = written time homes source own sides
after sides Clear = cleared sides
after sides Swap = swapped sides

-- the sides after all of some changes
unfoldable pub after_all : {I : Type 0} → TwoSides I → List (Change I) → TwoSides I
after_all sides changes = fold after sides changes

abbrev pub is_swap : {I : Type 0} → Change I → Bool
is_swap (Hear part) = false
is_swap (Write time homes source own) = false
is_swap Clear = false
is_swap Swap = true

-- whether one of some changes is a swap
abbrev pub has_swap : {I : Type 0} → List (Change I) → Bool
has_swap changes = list_any is_swap changes
