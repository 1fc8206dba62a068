-- Homes whose part of a snapshot is lost.
use Rattle.std.specs.Prelude.{ℕ, Bool, not, ◌&&◌, ◌||◌, IsTrue, List, Option, find}
use Rattle.std.specs.Option.{option_map}
use Rattle.bf_buddy.specs.Members.{is_member}
use Rattle.bf_buddy.specs.Buddy.{buddy_of}

-- whether a home is filled, and both it and its buddy among the homes are dead
unfoldable pub is_lost : (homes filled live : List ℕ) (shift home : ℕ) → Bool
is_lost homes filled live shift home =
    is_member filled home && not (is_member live home) && not (is_member live (buddy_of homes home shift))

-- the first lost home in the order of ranks
unfoldable pub first_lost_home : (homes filled live : List ℕ) (shift : ℕ) → Option ℕ
first_lost_home homes filled live shift = find (is_lost homes filled live shift) homes

-- the first lost home with its buddy
unfoldable pub first_lost_of : (homes filled live : List ℕ) (shift : ℕ) → Option (ℕ × ℕ)
first_lost_of homes filled live shift =
    option_map (λ home. (home, buddy_of homes home shift)) (first_lost_home homes filled live shift)

-- each filled home or its buddy lives
abbrev pub LosesNothing : (homes filled live : List ℕ) (shift : ℕ) → Type 0
LosesNothing homes filled live shift = (home : ℕ) → IsTrue (is_member homes home) → IsTrue (is_member filled home)
    → IsTrue (is_member live home || is_member live (buddy_of homes home shift))
