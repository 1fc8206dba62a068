-- Octets that merge: where their leaves stand, and which cells they have.
use Rattle.std.proofs.Common.{◌≡◌, ℕ, ◌+◌, ◌<◌, ◌≤◌, true, List, length, get_or, Contains, sym, ap, subst, ◌∙◌, arith}
use Rattle.std.specs.Prelude.{unwrap_or}
use Rattle.std.proofs.lemmas.List.{length-map, get_or-map}
use Rattle.std.proofs.lemmas.List.Elements.{Contains-get_or, at_from_Contains}
use Rattle.bf_id.specs.Id.{BlockId, IsId, child_of, parent_of, octant_of}
use Rattle.bf_id.proofs.Boxes.{level-child}
use Rattle.bf_cells.specs.Grid.{Grid}
use Rattle.bf_case.specs.declared.case.Case.{Case}
use Rattle.bf_case.specs.declared.target.Target.TheVariants.{Merge}
use Rattle.bf_case.specs.Around.{nothing}
use Rattle.bf_case.specs.Map.{Leaf, ids_of, cells_at, IsMap}
use Rattle.bf_case.specs.Wishes.{wishes_of}
use Rattle.bf_case.specs.Refinement.{refined_ids}
use Rattle.bf_case.specs.Merging.{merges}
use Rattle.bf_case.specs.Regrid.{target_in, merged_grid, sampled_leaf}
use Rattle.bf_case.proofs.ListLemmas.{Contains-map_cases}
use Rattle.bf_case.proofs.LookupLemmas.{cells_at-leaf}
use Rattle.bf_case.proofs.PlaceLemmas.{StandsAt, one_place, siblings_stand_together}
use Rattle.bf_case.proofs.RegridCells.{sampled_leaf-parent}
use Rattle.bf_case.proofs.OctetLemmas.{child_of_parent, octant_small, parent_of-child}
use Rattle.bf_case.proofs.ChoiceLemmas.{merging_from_target, target_from_merging, merging_octet}

-- the id of the leaf at a place
abbrev pub id_at : List Leaf → ℕ → BlockId
id_at leaves n = (get_or leaves n nothing).0

-- whether the eight children of a block merge
abbrev pub MergesInto : Case → List Leaf → BlockId → Type 0
MergesInto c leaves parent =
    let ids = ids_of leaves in
    let w = wishes_of c leaves in
    merges c.roots ids w (refined_ids c.roots ids w) parent ≡ true

-- ---- places

pub StandsAt-leaf : (leaves : List Leaf) (n : ℕ) → n < length leaves → StandsAt (ids_of leaves) n (id_at leaves n)
StandsAt-leaf leaves n below =
    (omega (arith, length-map leaves (λ (leaf : Leaf). leaf.0)), λ d. get_or-map (λ (leaf : Leaf). leaf.0) leaves n nothing d below)

pub id_at-standing : (leaves : List Leaf) (n : ℕ) (i : BlockId) → StandsAt (ids_of leaves) n i → (n < length leaves) × (id_at leaves n ≡ i)
id_at-standing leaves n i stands =
    let below : n < length leaves = omega (arith, stands.0, length-map leaves (λ (leaf : Leaf). leaf.0)) in
    (below, sym (get_or-map (λ (leaf : Leaf). leaf.0) leaves n nothing i below) ∙ stands.1 i)

-- a leaf that merges, by its parent and its octant
pub record IsChild (c : Case) (leaves : List Leaf) (n : ℕ) (parent : BlockId) (octant : ℕ) : Type 0 where
  pub stands : StandsAt (ids_of leaves) n (child_of parent octant)
  pub octal : octant < 8
  pub merging : MergesInto c leaves parent

pub IsChild-from_target : (c : Case) (leaves : List Leaf) (n : ℕ) → IsMap c.roots c.side leaves → n < length leaves → target_in c leaves (id_at leaves n) ≡ Merge
    → IsChild c leaves n (parent_of (id_at leaves n)) (octant_of (id_at leaves n))
IsChild-from_target c leaves n is below target =
    let i = id_at leaves n in
    let merging = merging_from_target c.roots (ids_of leaves) (wishes_of c leaves) i target in
    let stands = StandsAt-leaf leaves n below in
    let named : IsId i = subst IsId (stands.1 i) (is.ids n i stands.0) in
    record {
      stands = subst (StandsAt (ids_of leaves) n) (child_of_parent i merging.deep) stands;
      octal = octant_small i named merging.deep;
      merging = merging.octet;
    }

-- all eight children are leaves
pub octet_there : (c : Case) (leaves : List Leaf) (parent : BlockId) → MergesInto c leaves parent → (octant : ℕ) → octant < 8
    → Contains (ids_of leaves) (child_of parent octant)
octet_there c leaves parent merging octant octal =
    (merging_octet c.roots (ids_of leaves) (wishes_of c leaves) (refined_ids c.roots (ids_of leaves) (wishes_of c leaves)) 3 parent merging).leaves octant octal

-- where the first of the eight stands
record BeginsOctet (c : Case) (leaves : List Leaf) (n : ℕ) (parent : BlockId) (octant : ℕ) : Type 0 where
  first : ℕ
  behind : n ≡ first + octant
  stand : (o : ℕ) → o < 8 → StandsAt (ids_of leaves) (first + o) (child_of parent o)

octet_begins : (c : Case) (leaves : List Leaf) (n : ℕ) (parent : BlockId) (octant : ℕ) → IsMap c.roots c.side leaves → IsChild c leaves n parent octant
    → BeginsOctet c leaves n parent octant
octet_begins c leaves n parent octant is child =
    let ids = ids_of leaves in
    let there = octet_there c leaves parent child.merging in
    let first = at_from_Contains ids (child_of parent 0) (there 0 (omega arith)) in
    let k = first.0 in
    let from : (o : ℕ) → o < 8 → StandsAt ids (k + o) (child_of parent o) =
    λ o small. siblings_stand_together c.roots ids parent k o is.tiling is.ids is.rising there (first.1, first.2) small in
    record {
      first = k;
      behind = one_place ids n (k + octant) (child_of parent octant) is.rising child.stands (from octant child.octal);
      stand = from;
    }

-- as many leaves stand before a leaf of a merging octet as its octant says
pub octant_before : (c : Case) (leaves : List Leaf) (n : ℕ) (parent : BlockId) (octant : ℕ) → IsMap c.roots c.side leaves → IsChild c leaves n parent octant
    → octant ≤ n
octant_before c leaves n parent octant is child = omega (arith, (octet_begins c leaves n parent octant is child).behind)

-- from one leaf of a merging octet to another
pub IsChild-other : (c : Case) (leaves : List Leaf) (n : ℕ) (parent : BlockId) (octant other m : ℕ) → IsMap c.roots c.side leaves → IsChild c leaves n parent octant
    → other < 8 → n + other ≡ m + octant → IsChild c leaves m parent other
IsChild-other c leaves n parent octant other m is child octal place =
    let begins = octet_begins c leaves n parent octant is child in
    let e : begins.first + other ≡ m = omega (arith, begins.behind) in
    record {
      stands = subst (λ a. StandsAt (ids_of leaves) a (child_of parent other)) e (begins.stand other octal);
      octal = octal;
      merging = child.merging;
    }

-- such a leaf merges
pub target_in-child : (c : Case) (leaves : List Leaf) (n : ℕ) (parent : BlockId) (octant : ℕ) → IsChild c leaves n parent octant
    → target_in c leaves (child_of parent octant) ≡ Merge
target_in-child c leaves n parent octant child =
    let ids = ids_of leaves in
    let w = wishes_of c leaves in
    let i = child_of parent octant in
    target_from_merging c.roots ids w i (record {
      unrefined = (merging_octet c.roots ids w (refined_ids c.roots ids w) 3 parent child.merging).unrefined octant child.octal;
      deep = omega (arith, level-child parent octant);
      octet = subst (MergesInto c leaves) (sym (parent_of-child parent octant)) child.merging;
    })

-- ---- cells

-- the cells of a block's children, by octant
abbrev pub octet_cells : List Leaf → BlockId → ℕ → Grid
octet_cells leaves parent octant = unwrap_or (cells_at leaves (child_of parent octant)) nothing.1

-- a leaf of an octet has these cells
pub octet_leaf : (c : Case) (leaves : List Leaf) (parent : BlockId) (octant : ℕ) → IsMap c.roots c.side leaves → Contains (ids_of leaves) (child_of parent octant)
    → Contains leaves (child_of parent octant, octet_cells leaves parent octant)
octet_leaf c leaves parent octant is has =
    let i = child_of parent octant in
    let from = Contains-map_cases (λ (leaf : Leaf). leaf.0) leaves i has in
    let with : Grid → Leaf = λ g. (i, g) in
    let named : Contains leaves (i, from.0.1) = subst (λ j. Contains leaves (j, from.0.1)) (sym from.2) from.1 in
    let found = cells_at-leaf leaves i from.0.1 is.rising named in
    subst (λ g. Contains leaves (i, g)) (sym (ap (λ o. unwrap_or o nothing.1) found)) named

pub leaf_of_child : (c : Case) (leaves : List Leaf) (n : ℕ) (parent : BlockId) (octant : ℕ) → IsMap c.roots c.side leaves → IsChild c leaves n parent octant
    → get_or leaves n nothing ≡ (child_of parent octant, octet_cells leaves parent octant)
leaf_of_child c leaves n parent octant is child =
    let at = id_at-standing leaves n (child_of parent octant) child.stands in
    let leaf = get_or leaves n nothing in
    let i = child_of parent octant in
    let has : Contains leaves (i, leaf.1) = subst (λ j. Contains leaves (j, leaf.1)) at.1 (Contains-get_or leaves n nothing at.0) in
    let found = cells_at-leaf leaves i leaf.1 is.rising has in
    let named : BlockId → Leaf = λ j. (j, leaf.1) in
    let with : Grid → Leaf = λ g. (i, g) in
    ap named at.1 ∙ ap with (sym (ap (λ o. unwrap_or o nothing.1) found))

-- the parent, sampled
pub sampled_parent : (c : Case) (leaves : List Leaf) (parent : BlockId) → IsMap c.roots c.side leaves → MergesInto c leaves parent
    → sampled_leaf c.roots c.side leaves parent ≡ (parent, merged_grid c.side (octet_cells leaves parent))
sampled_parent c leaves parent is merging =
    sampled_leaf-parent c.roots c.side leaves parent (octet_cells leaves parent) is
    (λ octant octal. octet_leaf c leaves parent octant is (octet_there c leaves parent merging octant octal))
