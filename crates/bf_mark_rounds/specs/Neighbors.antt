-- Who owns which leaves, and whose leaves touch those of another.
use Rattle.std.specs.Prelude.{ℕ, ◌==◌, ◌&&◌, not, Bool, IsTrue, List, Contains}
use Rattle.std.specs.List.{list_any}
use Rattle.bf_id.specs.declared.shape.Shape.{Shape}
use Rattle.bf_id.specs.Id.{BlockId, touches}
use Rattle.bf_buddy.specs.Members.{is_member}

-- each leaf's owner is a member
abbrev pub AreOwned : List BlockId → (owner : BlockId → ℕ) → (members : List ℕ) → Type 0
AreOwned ids owner members = (i : BlockId) → Contains ids i → IsTrue (is_member members (owner i))

abbrev pub is_own : (owner : BlockId → ℕ) → (rank : ℕ) → BlockId → Bool
is_own owner rank i = owner i == rank

module _ (shape : Shape) (ids : List BlockId) (owner : BlockId → ℕ) where
  -- whether a leaf touches one of a rank's
  abbrev pub is_near : (rank : ℕ) → BlockId → Bool
  is_near rank i = list_any (λ j. touches shape i j && is_own owner rank j) ids

  -- whether it is another's
  abbrev pub is_other : (rank : ℕ) → BlockId → Bool
  is_other rank i = not (is_own owner rank i) && is_near rank i

  -- whether a rank and another own leaves that touch
  abbrev pub is_neighbor : (rank other : ℕ) → Bool
  is_neighbor rank other = not (other == rank) && list_any (λ i. is_own owner rank i && is_near other i) ids

  -- whether a leaf is a neighbour's
  abbrev pub is_neighbors : (rank : ℕ) → BlockId → Bool
  is_neighbors rank i = is_neighbor rank (owner i)
