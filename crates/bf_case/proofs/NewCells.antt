-- Which cells the new leaves of a regrid have.
use Rattle.std.proofs.Common.{◌≡◌, ℕ, ◌<◌, ◌≤◌, cond, List, [], ◌∷◌, map, Some, Contains, refl, sym, ap, subst, ◌∙◌, arith, All}
use Rattle.std.specs.Prelude.{◌==◌, option_map}
use Rattle.std.proofs.lemmas.List.Elements.{All-contains, All-weaker}
use Rattle.bf_id.specs.Id.{BlockId, IsId, id_eq, level_of, child_of, parent_of}
use Rattle.bf_id.proofs.Boxes.{id_eq_is_equal}
use Rattle.bf_id.proofs.Tilings.{Contains-one, Contains-child, Contains-flat_map}
use Rattle.bf_cells.specs.Grid.{Grid}
use Rattle.bf_cells.specs.Octant.{octant_copy_of}
use Rattle.bf_case.specs.declared.case.Case.{Case}
use Rattle.bf_case.specs.declared.target.Target.TheVariants.{Keep, Refine, Merge}
use Rattle.bf_case.specs.Map.{Leaf, ids_of, cells_at, HasCells, IsMap}
use Rattle.bf_case.specs.Wishes.{wishes_of}
use Rattle.bf_case.specs.Regrid.{target_in, heirs_by, heirs_of, regridded_ids, merged_grid, sampled_leaf, regrid}
use Rattle.bf_case.proofs.ListLemmas.{Contains-map, Contains-map_cases, find_only}
use Rattle.bf_case.proofs.LookupLemmas.{leaf_from_cells_at}
use Rattle.bf_case.proofs.MapLemmas.{sampled_leaf_same}
use Rattle.bf_case.proofs.OctetLemmas.{parent_of-child, octant_of-child}
use Rattle.bf_case.proofs.ChoiceLemmas.{refined_has_room, refined_from_target}
use Rattle.bf_case.proofs.ModelLemmas.{finer_has_room, ids_of-regrid}
use Rattle.bf_case.proofs.RegridCells.{sampled_leaf-child, sampled_leaf-parent}

-- a refined leaf lies above the finest level of all
pub refined_above : (c : Case) (leaves : List Leaf) (i : BlockId) → c.levels ≤ 4 → All IsId (ids_of leaves) → target_in c leaves i ≡ Refine → level_of i < 4
refined_above c leaves i shallow named e =
    let low : All (λ j. level_of j ≤ 4) (ids_of leaves) = All-weaker IsId (λ j. level_of j ≤ 4) (λ j is. is.shallow) (ids_of leaves) named in
    refined_has_room c.roots 4 (ids_of leaves) (wishes_of c leaves) i low (λ j _ wish. omega (arith, finer_has_room c leaves j wish))
    (refined_from_target c.roots (ids_of leaves) (wishes_of c leaves) i low e)

-- a leaf's heirs are among the new leaves
heir_among : (c : Case) (leaves : List Leaf) (i j : BlockId) → Contains (ids_of leaves) i → Contains (heirs_by (target_in c leaves i) i) j
    → Contains (regridded_ids c.roots (ids_of leaves) (wishes_of c leaves)) j
unfolding regridded_ids
heir_among c leaves i j has heir = Contains-flat_map (heirs_of c.roots (ids_of leaves) (wishes_of c leaves)) (ids_of leaves) i j has heir

-- a new leaf's cells are the samples there
cells_at-new : (c : Case) (leaves : List Leaf) (j : BlockId) → Contains (regridded_ids c.roots (ids_of leaves) (wishes_of c leaves)) j
    → cells_at (regrid c leaves) j ≡ Some (sampled_leaf c.roots c.side leaves j).1
unfolding regrid
cells_at-new c leaves j among =
    let made : BlockId → Leaf = sampled_leaf c.roots c.side leaves in
    let ids = regridded_ids c.roots (ids_of leaves) (wishes_of c leaves) in
    ap (option_map (λ (leaf : Leaf). leaf.1))
    (find_only (λ (leaf : Leaf). id_eq leaf.0 j) (map made ids) (made j) (Contains-map made ids j among) ((id_eq_is_equal j j).1 refl)
    (λ (leaf : Leaf) found passed. let from = Contains-map_cases made ids leaf found in
    let id : from.0 ≡ j = sym (ap (λ (l : Leaf). l.0) from.2) ∙ (id_eq_is_equal leaf.0 j).0 passed in
    from.2 ∙ ap made id))

-- so are those of a leaf's heirs
pub cells_at-regrid : (c : Case) (leaves : List Leaf) (i j : BlockId) → Contains (ids_of leaves) i → Contains (heirs_by (target_in c leaves i) i) j
    → cells_at (regrid c leaves) j ≡ Some (sampled_leaf c.roots c.side leaves j).1
cells_at-regrid c leaves i j has heir = cells_at-new c leaves j (heir_among c leaves i j has heir)

-- the ids of leaves
pub id_of_found : (leaves : List Leaf) (i : BlockId) (g : Grid) → cells_at leaves i ≡ Some g → Contains (ids_of leaves) i
id_of_found leaves i g found = Contains-map (λ (leaf : Leaf). leaf.0) leaves (i, g) (leaf_from_cells_at leaves i g found)

-- a leaf that is among the new leaves too keeps its cells
pub cells_at-stays : (c : Case) (leaves : List Leaf) (i : BlockId) (g : Grid) → IsMap c.roots c.side leaves → cells_at leaves i ≡ Some g
    → Contains (ids_of (regrid c leaves)) i → cells_at (regrid c leaves) i ≡ Some g
cells_at-stays c leaves i g is found stays =
    let has = leaf_from_cells_at leaves i g found in
    cells_at-new c leaves i (subst (λ ids. Contains ids i) (ids_of-regrid c leaves) stays)
    ∙ ap (λ (leaf : Leaf). Some leaf.1) (sampled_leaf_same c.roots c.side leaves (i, g) is has (All-contains (HasCells c.side) leaves (i, g) is.cells has))

-- a kept leaf is among them
pub cells_at-kept : (c : Case) (leaves : List Leaf) (i : BlockId) (g : Grid) → IsMap c.roots c.side leaves → cells_at leaves i ≡ Some g
    → target_in c leaves i ≡ Keep → cells_at (regrid c leaves) i ≡ Some g
cells_at-kept c leaves i g is found target =
    let heir : Contains (heirs_by (target_in c leaves i) i) i = subst (λ t. Contains (heirs_by t i) i) (sym target) (Contains-one i) in
    cells_at-stays c leaves i g is found
    (subst (λ ids. Contains ids i) (sym (ids_of-regrid c leaves)) (heir_among c leaves i i (id_of_found leaves i g found) heir))

-- a refined leaf gives its octants
pub cells_at-refined : (c : Case) (leaves : List Leaf) (i : BlockId) (g : Grid) (octant : ℕ) → c.levels ≤ 4 → IsMap c.roots c.side leaves → cells_at leaves i ≡ Some g
    → target_in c leaves i ≡ Refine → octant < 8 → cells_at (regrid c leaves) (child_of i octant) ≡ Some (octant_copy_of g octant)
cells_at-refined c leaves i g octant shallow is found target octal =
    let has = leaf_from_cells_at leaves i g found in
    let heir : Contains (heirs_by (target_in c leaves i) i) (child_of i octant) =
    subst (λ t. Contains (heirs_by t i) (child_of i octant)) (sym target) (Contains-child i octant octal) in
    cells_at-regrid c leaves i (child_of i octant) (id_of_found leaves i g found) heir
    ∙ ap (λ (leaf : Leaf). Some leaf.1)
    (sampled_leaf-child c.roots c.side leaves i g octant is has (refined_above c leaves i shallow is.ids target) octal)

-- a merging octet gives its means
pub cells_at-merged : (c : Case) (leaves : List Leaf) (parent : BlockId) (g : ℕ → Grid) → IsMap c.roots c.side leaves
    → ((octant : ℕ) → octant < 8 → cells_at leaves (child_of parent octant) ≡ Some (g octant))
    → target_in c leaves (child_of parent 0) ≡ Merge → cells_at (regrid c leaves) parent ≡ Some (merged_grid c.side g)
cells_at-merged c leaves parent g is found target =
    let i = child_of parent 0 in
    let heirs : heirs_by (target_in c leaves i) i ≡ parent ∷ [] =
    ap (λ t. heirs_by t i) target
    ∙ ap (λ n. cond (n == 0) (parent_of i ∷ []) []) (octant_of-child parent 0) ∙ ap (λ p. p ∷ []) (parent_of-child parent 0) in
    cells_at-regrid c leaves i parent (id_of_found leaves i (g 0) (found 0 (omega arith))) (subst (λ l. Contains l parent) (sym heirs) (Contains-one parent))
    ∙ ap (λ (leaf : Leaf). Some leaf.1)
    (sampled_leaf-parent c.roots c.side leaves parent g is (λ octant octal. leaf_from_cells_at leaves (child_of parent octant) (g octant) (found octant octal)))
