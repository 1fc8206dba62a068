-- The leaves of a map of the roots.
use Rattle.std.proofs.Common.{◌≡◌, ℕ, ◌<◌, List, length, get_or, sym, ◌∙◌, ap, arith}
use Rattle.std.proofs.lemmas.List.{length-map, get_or-map}
use Rattle.std.proofs.lemmas.List.FromFn.{length-map-range_with_len, get_or-map-range_with_len}
use Rattle.bf_id.specs.declared.shape.Shape.{Shape}
use Rattle.bf_id.specs.Shape.{root_count}
use Rattle.bf_id.specs.Id.{root_id}
use Rattle.bf_case.specs.Map.{Leaf}
use Rattle.bf_case.specs.Around.{AreRootIds}

-- a map of the roots has as many leaves as there are roots, and the leaf k is the root k
pub roots_are : (shape : Shape) (leaves : List Leaf) → AreRootIds shape leaves
    → (length leaves ≡ root_count shape) × ((k : ℕ) (d : Leaf) → k < root_count shape → (get_or leaves k d).0 ≡ root_id k)
roots_are shape leaves ids =
    let count : length leaves ≡ root_count shape =
    sym (length-map leaves (λ (leaf : Leaf). leaf.0)) ∙ ap length ids ∙ length-map-range_with_len root_id 0 (root_count shape) in (
      count,
      λ k d h.
          sym (get_or-map (λ (leaf : Leaf). leaf.0) leaves k d (root_id 0) (omega arith))
          ∙ ap (λ l. get_or l k (root_id 0)) ids
          ∙ get_or-map-range_with_len root_id 0 (root_count shape) k k (root_id 0) h (omega arith),
    )
