-- Which octets of leaves merge into their parent.
use Rattle.std.specs.Prelude.{◌≡◌, ℕ, zero, suc, ◌+◌, ◌<◌, ◌==◌, ◌&&◌, not, Bool, false, List, filter, Contains, IsTrue}
use Rattle.std.specs.List.{list_any, list_all}
use Rattle.bf_id.specs.declared.shape.Shape.{Shape}
use Rattle.bf_id.specs.Id.{BlockId, level_of, parent_of, child_of, children_of, Touch, touches}
use Rattle.bf_case.specs.Wishes.{Wishes}
use Rattle.bf_case.specs.Refinement.{is_among}

-- whether one of the blocks touches this one
abbrev pub touched_by : Shape → List BlockId → BlockId → Bool
touched_by shape octet i = list_any (λ j. touches shape j i) octet

-- whether the eight children of a block merge, where at most so many levels lie below it: all eight are leaves and wish to be coarsened, none is
-- refined, no leaf of their level that touches one of them is refined, and every leaf one level finer that touches one of them merges
unfoldable pub merges_within : Shape → List BlockId → Wishes → List BlockId → ℕ → BlockId → Bool
merges_within shape ids w refined zero parent = false
merges_within shape ids w refined (suc levels) parent =
    let octet = children_of parent in
    list_all (λ i. is_among ids i && w.coarser i && not (is_among refined i)) octet
    && list_all (λ i. not (level_of i == level_of parent + 1 && touched_by shape octet i)) refined
    && list_all (λ i. merges_within shape ids w refined levels (parent_of i))
    (filter (λ i. level_of i == level_of parent + 2 && touched_by shape octet i) ids)

-- whether the eight children of a block merge: at most four levels lie below it
abbrev pub merges : Shape → List BlockId → Wishes → List BlockId → BlockId → Bool
merges shape ids w refined parent = merges_within shape ids w refined 4 parent

-- the same, told without a count of levels. The eight children are leaves and wish to be coarsened, and none is refined. No refined leaf of
-- their level touches one of them. And each leaf one level finer that touches one of them merges with its own octet
pub record Merges (shape : Shape) (ids : List BlockId) (w : Wishes) (refined : List BlockId) (parent : BlockId) : Type 0 where
  pub leaves : (octant : ℕ) → octant < 8 → Contains ids (child_of parent octant)
  pub wishes : (octant : ℕ) → octant < 8 → IsTrue (w.coarser (child_of parent octant))
  pub unrefined : (octant : ℕ) → octant < 8 → Contains refined (child_of parent octant) → ⊥
  pub no_refined_beside : (octant : ℕ) (j : BlockId) → octant < 8 → Contains refined j → level_of j ≡ level_of (child_of parent octant)
      → Touch shape j (child_of parent octant) → ⊥
  pub finer_merge : (octant : ℕ) (j : BlockId) → octant < 8 → Contains ids j → level_of j ≡ level_of (child_of parent octant) + 1
      → Touch shape j (child_of parent octant) → IsTrue (merges shape ids w refined (parent_of j))
