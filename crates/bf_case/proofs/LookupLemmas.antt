-- Leaves, looked up by their ids.
use Rattle.std.proofs.Common.{◌≡◌, ℕ, ◌<◌, true, false, List, [], ◌∷◌, Some, ◌⊎◌, inl, inr, Contains, refl, sym, ap}
use Rattle.std.specs.Prelude.{AllPairs, option_map}
use Rattle.std.proofs.lemmas.Bool.{cases_Bool}
use Rattle.bf_id.specs.declared.shape.Shape.{Shape}
use Rattle.bf_id.specs.Shape.{root_count}
use Rattle.bf_id.specs.Id.{BlockId, level_of, root_id, id_eq}
use Rattle.bf_id.specs.Walk.{IsBefore}
use Rattle.bf_id.proofs.Boxes.{id_eq_is_equal}
use Rattle.bf_id.proofs.Tilings.{Contains-head, Contains-tail, Contains-from_fn}
use Rattle.bf_cells.specs.Grid.{Grid, table}
use Rattle.bf_case.specs.declared.case.Case.{Case}
use Rattle.bf_case.specs.Case.{IsValid}
use Rattle.bf_case.specs.Map.{Leaf, ids_of, cells_at, IsMap}
use Rattle.bf_case.specs.Sample.{cell_corner}
use Rattle.bf_case.specs.Stencil.{stepped_value, stencil}
use Rattle.bf_case.specs.Model.{filled_root, initial}
use Rattle.bf_case.proofs.ListLemmas.{Contains-map, find_only}
use Rattle.bf_case.proofs.SampleLemmas.{same_leaf}
use Rattle.bf_case.proofs.MapLemmas.{IsMap-stencil, IsMap-initial}

-- a leaf is found by its id
pub cells_at-leaf : (leaves : List Leaf) (i : BlockId) (g : Grid) → AllPairs IsBefore (ids_of leaves) → Contains leaves (i, g) → cells_at leaves i ≡ Some g
cells_at-leaf leaves i g rising has =
    ap (option_map (λ (leaf : Leaf). leaf.1)) (find_only (λ (leaf : Leaf). id_eq leaf.0 i) leaves (i, g) has ((id_eq_is_equal i i).1 refl)
    (λ (leaf : Leaf) has' passed. same_leaf leaves leaf (i, g) rising has' has ((id_eq_is_equal leaf.0 i).0 passed)))

-- and what is found is a leaf
pub leaf_from_cells_at : (leaves : List Leaf) (i : BlockId) (g : Grid) → cells_at leaves i ≡ Some g → Contains leaves (i, g)
leaf_from_cells_at [] i g found = cc
leaf_from_cells_at (leaf ∷ leaves) i g found = by (cases_Bool (id_eq leaf.0 i)) (leaf_from_cells_at leaves i g)
  where
    by : (id_eq leaf.0 i ≡ true) ⊎ (id_eq leaf.0 i ≡ false) → (cells_at leaves i ≡ Some g → Contains leaves (i, g)) → Contains (leaf ∷ leaves) (i, g)
    by (inl passed) later =
        let cells : Some leaf.1 ≡ Some g = rw passed at found in
        let same_cells : leaf.1 ≡ g = cc in
        let same_id : leaf.0 ≡ i = (id_eq_is_equal leaf.0 i).0 passed in
        let same : leaf ≡ (i, g) = λ k. (same_id k, same_cells k) in
        rw (sym same) (Contains-head leaf leaves)
    by (inr failed) later = Contains-tail leaf leaves (i, g) (later (rw failed at found))

-- a leaf after a step
pub cells_at-stencil : (shape : Shape) (side : ℕ) (leaves : List Leaf) (i : BlockId) (g : Grid) → IsMap shape side leaves → cells_at leaves i ≡ Some g
    → cells_at (stencil shape side leaves) i ≡ Some (table side (λ x y z. stepped_value shape side leaves (level_of i) (cell_corner shape side i x y z)))
unfolding stencil
cells_at-stencil shape side leaves i g is found =
    cells_at-leaf (stencil shape side leaves) i (table side (λ x y z. stepped_value shape side leaves (level_of i) (cell_corner shape side i x y z)))
    (IsMap-stencil shape side leaves is).rising
    (Contains-map (λ (leaf : Leaf). (leaf.0, table side (λ x y z. stepped_value shape side leaves (level_of leaf.0) (cell_corner shape side leaf.0 x y z))))
    leaves (i, g) (leaf_from_cells_at leaves i g found))

-- a root at the beginning
pub cells_at-initial : (c : Case) (root : ℕ) → IsValid c → root < root_count c.roots → cells_at (initial c) (root_id root) ≡ Some (filled_root c root).1
unfolding initial
cells_at-initial c root is below =
    cells_at-leaf (initial c) (root_id root) (filled_root c root).1 (IsMap-initial c is).rising
    (Contains-from_fn (filled_root c) (root_count c.roots) root below)
