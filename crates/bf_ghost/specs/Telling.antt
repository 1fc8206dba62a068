-- Which strips are told: by the leaves that a block is linked with, and by one rank to another.
use Rattle.std.specs.Prelude.{◌≡◌, ℕ, ◌==◌, All, Contains, List, Option, filter, flat_map, map, option_map}
use Rattle.std.specs.List.{filter_map}
use Rattle.bf_id.specs.declared.shape.Shape.{Shape}
use Rattle.bf_id.specs.Id.{BlockId, box_of, id_eq}
use Rattle.bf_id.specs.Sharing.{shared_face}
use Rattle.bf_cells.specs.Grid.{Grid}
use Rattle.bf_case.specs.declared.case.Case.{Case}
use Rattle.bf_case.specs.Map.{Leaf, ids_of}
use Rattle.bf_block.specs.declared.point.Point.{Point}
use Rattle.bf_block.specs.Block.{leaf_of, map_at, BlockValue, IsModels}
use Rattle.bf_block.specs.Runs.{CanRun}
use Rattle.bf_ghost.specs.Strips.{strip_of, StripValue}

-- the strip that a leaf tells to a block, if the two share a face
abbrev pub strip_between : Shape → Leaf → BlockId → Option StripValue
strip_between shape leaf i = option_map (λ face. strip_of leaf face i) (shared_face shape (box_of shape i) (box_of shape leaf.0))

-- the strips that a block is told by those of some leaves that share a face with it, in their order
abbrev pub strips_among : Shape → (BlockId → Grid) → List BlockId → BlockId → List StripValue
strips_among shape cells near i = filter_map (λ j. strip_between shape (j, cells j) i) near

-- the strips that a leaf tells to some blocks, in their order
abbrev pub strips_from : Shape → Leaf → List BlockId → List StripValue
strips_from shape leaf targets = filter_map (strip_between shape leaf) targets

-- what one rank tells another in a step: a strip for each leaf of its own and each leaf of the other that share a face
abbrev pub told_strips : Shape → List Leaf → (owner : BlockId → ℕ) → (from to : ℕ) → List StripValue
told_strips shape leaves owner from to =
    flat_map (λ (leaf : Leaf). strips_from shape leaf (filter (λ i. owner i == to) (ids_of leaves)))
    (filter (λ (leaf : Leaf). owner leaf.0 == from) leaves)

-- the same, where a rank knows of each of its leaves those with which it is linked
abbrev pub linked_strips : Shape → List Leaf → (links : BlockId → List BlockId) → (owner : BlockId → ℕ) → (from to : ℕ) → List StripValue
linked_strips shape leaves links owner from to =
    flat_map (λ (leaf : Leaf). strips_from shape leaf (filter (λ i. owner i == to) (links leaf.0)))
    (filter (λ (leaf : Leaf). owner leaf.0 == from) leaves)

-- those of some strips that are for one block
abbrev pub strips_for : BlockId → List StripValue → List StripValue
strips_for i strips = filter (λ (s : StripValue). id_eq s.target i) strips

-- what some ranks tell a rank for one of its blocks
abbrev pub heard_by : Shape → List Leaf → (owner : BlockId → ℕ) → (ranks : List ℕ) → (rank : ℕ) → BlockId → List StripValue
heard_by shape leaves owner ranks rank i = flat_map (λ from. strips_for i (told_strips shape leaves owner from rank)) ranks

-- the strips that a block is told by those of some blocks that share a face with it, in their order
abbrev pub strips_by : List BlockValue → BlockId → List StripValue
strips_by blocks i = filter_map (λ (b : BlockValue). strip_between b.case.roots (leaf_of b) i) blocks

-- blocks of one case and point, among which is each leaf of the model there
pub record AreAllLeaves (c : Case) (p : Point) (blocks : List BlockValue) : Type 0 where
  pub runs : CanRun c
  pub models : All IsModels blocks
  pub cases : All (λ (b : BlockValue). b.case ≡ c) blocks
  pub points : All (λ (b : BlockValue). b.point ≡ p) blocks
  pub whole : (i : BlockId) → Contains (ids_of (map_at c p)) i → Contains (map (λ (b : BlockValue). b.id) blocks) i
