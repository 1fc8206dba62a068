-- The members of a run: ranks in rising order.
use Rattle.std.specs.Prelude.{ℕ, ◌+◌, ◌^◌, Bool, not, ◌||◌, List, [], ◌∷◌, Option, filter, position, ◌==◌}
use Rattle.std.specs.List.{range_with_len, list_any}
use Rattle.std.specs.Int.{bit_at}

-- whether a rank is a member
abbrev pub is_member : List ℕ → ℕ → Bool
is_member members rank = list_any (λ member. member == rank) members

-- the place of a rank among the members, if it is one
unfoldable pub place_in : List ℕ → ℕ → Option ℕ
place_in members rank = position (λ member. member == rank) members

-- the members but one
abbrev pub without : List ℕ → ℕ → List ℕ
without members rank = filter (λ member. not (member == rank)) members

-- the members and one rank more, in rising order
unfoldable pub with_member : List ℕ → ℕ → List ℕ
with_member members rank = filter (λ member. is_member members member || member == rank) (range_with_len 0 32)

-- whether the bit of a rank is 1
unfoldable pub has_bit : ℕ → ℕ → Bool
has_bit bits rank = bit_at bits rank == 1

-- the ranks whose bits are 1
unfoldable pub ranks_in : ℕ → List ℕ
ranks_in bits = filter (has_bit bits) (range_with_len 0 32)

-- the number whose bits are those of ranks
abbrev pub bits_of : List ℕ → ℕ
bits_of [] = 0
bits_of (rank ∷ ranks) = 2 ^ rank + bits_of ranks
