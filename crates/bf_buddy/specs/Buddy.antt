-- Who holds a second copy of a member's part.
use Rattle.std.specs.Prelude.{ℕ, ◌+◌, ◌-◌, ◌%◌, List, length, slice_index, find, unwrap_or, ◌==◌}
use Rattle.std.specs.List.{position_or_len}

-- the place of a rank among the members
abbrev pub place_of : List ℕ → ℕ → ℕ
place_of members rank = position_or_len (λ member. member == rank) members

-- the place of the buddy of the member at a place: of two or more one to `count - 1` places on, round the end; of one 0
unfoldable pub buddy_place : (count place shift : ℕ) → ℕ
buddy_place count place shift = (place + 1 + shift % (count - 1)) % count

-- the place of the member whose buddy stands at a place
unfoldable pub predecessor_place : (count place shift : ℕ) → ℕ
predecessor_place count place shift = (place + (count - 1 - shift % (count - 1))) % count

-- the buddy of a member; a lone member is its own
unfoldable pub buddy_of : (members : List ℕ) (rank shift : ℕ) → ℕ
buddy_of members rank shift = slice_index members (buddy_place (length members) (place_of members rank) shift)

-- the member whose buddy a rank is
unfoldable pub predecessor_of : (members : List ℕ) (rank shift : ℕ) → ℕ
predecessor_of members rank shift = unwrap_or (find (λ member. buddy_of members member shift == rank) members) rank
