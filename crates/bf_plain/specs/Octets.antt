-- Which octets merge, told by the leaves that hold them back.
use Rattle.std.specs.Prelude.{◌&&◌, ◌||◌, ◌==◌, ℕ, not, nat_lt, Bool, List, ◌≡◌, ◌<◌, false, length, All, AllPairs}
use Rattle.std.specs.List.{list_all, slice_index_or}
use Rattle.bf_id.specs.declared.shape.Shape.{Shape}
use Rattle.bf_id.specs.Id.{BlockId, IsId, level_of, parent_of, child_of, children_of}
use Rattle.bf_id.specs.Tiling.{Tiles}
use Rattle.bf_id.specs.Walk.{IsBefore}
use Rattle.bf_case.specs.Wishes.{Wishes}
use Rattle.bf_case.specs.Refinement.{is_among}
use Rattle.bf_case.specs.Merging.{merges}
use Rattle.bf_plain.specs.Atlas.{id_at}
use Rattle.bf_plain.specs.Marks.{is_reached}

-- leaves that tile a domain, in rising order
pub record AreInOrder (ids : List BlockId) : Type 0 where
  pub shape : Shape
  pub tiling : Tiles shape ids
  pub named : All IsId ids
  pub rising : AllPairs IsBefore ids

-- whether a leaf merges with its siblings
abbrev pub leaf_merges : Shape → List BlockId → Wishes → List BlockId → BlockId → Bool
leaf_merges shape ids w refined i = nat_lt 0 (level_of i) && merges shape ids w refined (parent_of i)

-- whether a leaf is barred from merging by wishes and refined leaves alone: it does not wish to be coarsened, or it is refined, or a refined leaf
-- of its level touches it
abbrev pub is_barred : Shape → List BlockId → (BlockId → Bool) → (BlockId → Bool) → BlockId → Bool
is_barred shape ids coarser refined i = not (coarser i) || refined i || is_reached shape 0 refined ids i

-- whether a leaf is held: it is barred, or a leaf one level finer touches it that does not merge, as far as leaves below a level are looked at
abbrev pub is_held : Shape → List BlockId → Wishes → List BlockId → ℕ → BlockId → Bool
is_held shape ids w refined level i =
    is_barred shape ids w.coarser (is_among refined) i
    || is_reached shape 1 (λ j. nat_lt level (level_of j) && not (leaf_merges shape ids w refined j)) ids i

-- whether the octet of a leaf is free: it is no root, and all eight of its octet are leaves that are not held
abbrev pub is_free : List BlockId → (BlockId → Bool) → BlockId → Bool
is_free ids held i = nat_lt 0 (level_of i) && list_all (λ j. is_among ids j && not (held j)) (children_of (parent_of i))

-- whether a leaf is of this level and its octet is not free
abbrev pub stays_at : List BlockId → (BlockId → Bool) → ℕ → BlockId → Bool
stays_at ids held level i = level_of i == level && not (is_free ids held i)

-- at a place among the leaves stands this child of a block, and is not held
pub record StandsFree (ids : List BlockId) (held : List Bool) (parent : BlockId) (octant : ℕ) (place : ℕ) : Type 0 where
  pub below : place < length ids
  pub child : id_at ids place ≡ child_of parent octant
  pub free : slice_index_or held place false ≡ false
