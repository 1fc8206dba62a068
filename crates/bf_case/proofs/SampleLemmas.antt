-- A map's samples: at the cells of its own leaves they are those cells, and all of them have 32 bits.
use Rattle.std.proofs.Common.{◌≡◌, ℕ, ◌+◌, ◌-◌, ◌*◌, ◌/◌, ◌^◌, ◌<◌, ◌≤◌, true, List, [], ◌∷◌, length, get_or, Some, inl, inr, Contains, refl, sym, ap, subst, ◌∙◌, arith, All, lit<, pow_pos}
use Rattle.std.specs.Prelude.{AllPairs, nat_le}
use Rattle.std.specs.Option.{option_map_or}
use Rattle.std.specs.Cmp.Lexicographic.{slice_cmp}
use Rattle.std.specs.Ordering.{nat_cmp, ordering_then}
use Rattle.std.specs.declared.cmp.Ordering.TheVariants.{Less, Equal}
use Rattle.std.specs.Cmp.{nat_cmp_is}
use Rattle.std.proofs.Math.Nat.{mul-le-mul_left, add-mul-div_left}
use Rattle.std.proofs.lemmas.Nat.{div_below, shl-shr}
use Rattle.std.proofs.lemmas.Bool.{cases_order, cond-true, cond_both, le-leb}
use Rattle.std.proofs.lemmas.List.{length-map, get_or-map}
use Rattle.std.proofs.lemmas.List.Elements.{All-contains, All-weaker, at_from_Contains}
use Rattle.bf_id.specs.declared.shape.Shape.{Shape}
use Rattle.bf_id.specs.Cube.{Voxel, Spans, Holds, holds}
use Rattle.bf_id.specs.Id.{BlockId, IsId, level_of, box_of, id_cmp}
use Rattle.bf_id.specs.Walk.{IsBefore}
use Rattle.bf_id.proofs.Boxes.{edge-box}
use Rattle.bf_cells.specs.Grid.{IsGrid, cell_at}
use Rattle.bf_cells.proofs.OctantLemmas.{eighth_small}
use Rattle.bf_cells.proofs.GridLemmas.{cell_small}
use Rattle.bf_case.specs.Map.{Leaf, ids_of, HasCells, IsMap}
use Rattle.bf_case.specs.Sample.{scale_of, unit_of, moved, corner_of, cell_corner, leaf_at, value_at, mean_of_eight, sample_of, sample}
use Rattle.bf_case.proofs.TestLemmas.{holds_decides}
use Rattle.bf_case.proofs.ListLemmas.{Contains-map, find_only, option_map_or-find}

-- ---- one axis

-- the unit of a finest cell of a block, which has so many finest cells to a cell's edge
pub unit_in_span : (side low scale x : ℕ) → 0 < side → 0 < scale → x < side → Spans low scale ((side * low + x * scale) / side)
unit_in_span side low scale x some wide h =
    let room : scale * (x + 1) ≤ scale * side = mul-le-mul_left scale h' in
    let below : x * scale / side < scale = div_below (x * scale) side scale some (omega (arith, room)) in
    let swapped : side * low + x * scale ≡ x * scale + side * low = omega arith in
    let is : (x * scale + side * low) / side ≡ x * scale / side + low = add-mul-div_left (x * scale) low some in
    rw (swapped, is) (omega arith, omega arith)
  where
    h' : x + 1 ≤ side
    h' = omega arith

-- the cell of a block in which its finest cell lies
pub cell_in_block : (corner x level : ℕ) → (corner + x * scale_of level - corner) / scale_of level ≡ x
cell_in_block corner x level =
    let less : corner + x * 2 ^ (4 - level) - corner ≡ x * 2 ^ (4 - level) = omega arith in
    rw less (shl-shr x (4 - level))

-- ---- leaves

-- an id isn't before itself
pub not_before_itself : (i : BlockId) → IsBefore i i → ⊥
not_before_itself i before =
    let equal : id_cmp i i ≡ Equal = ap (λ o. ordering_then o (slice_cmp nat_cmp i.digits i.digits)) (nat_tie i.root) ∙ slice_tie i.digits in
    less_apart (sym before ∙ equal)
  where
    nat_tie : (n : ℕ) → nat_cmp n n ≡ Equal
    nat_tie n = sym (nat_cmp_is n n Equal refl)

    slice_tie : (ds : List ℕ) → slice_cmp nat_cmp ds ds ≡ Equal
    slice_tie [] = refl
    slice_tie (d ∷ ds) = rw (nat_tie d) (slice_tie ds)

    less_apart : Less ≡ Equal → ⊥
    less_apart e = cc

-- leaves whose ids rise are one leaf where they have one id
pub same_leaf : (leaves : List Leaf) (a b : Leaf) → AllPairs IsBefore (ids_of leaves) → Contains leaves a → Contains leaves b → a.0 ≡ b.0 → a ≡ b
same_leaf leaves a b rising has has' same = by (at_from_Contains leaves a has) (at_from_Contains leaves b has')
  where
    id_at : (k : ℕ) (d : Leaf) → k < length leaves → get_or (ids_of leaves) k d.0 ≡ (get_or leaves k d).0
    id_at k d h = get_or-map (λ (leaf : Leaf). leaf.0) leaves k d d.0 h

    apart : (k l : ℕ) → k < l → l < length leaves → (get_or leaves k a).0 ≡ (get_or leaves l a).0 → ⊥
    apart k l less below e =
        let up : IsBefore (get_or (ids_of leaves) k a.0) (get_or (ids_of leaves) l a.0) =
        rising k l a.0 less (omega (arith, length-map leaves (λ (leaf : Leaf). leaf.0), below)) in
        let ends : get_or (ids_of leaves) k a.0 ≡ get_or (ids_of leaves) l a.0 = id_at k a (omega arith) ∙ e ∙ sym (id_at l a below) in
        not_before_itself (get_or (ids_of leaves) l a.0) (subst (λ i. IsBefore i (get_or (ids_of leaves) l a.0)) ends up)

    by : (k : ℕ) × (k < length leaves) × ((d : Leaf) → get_or leaves k d ≡ a) → (l : ℕ) × (l < length leaves) × ((d : Leaf) → get_or leaves l d ≡ b) → a ≡ b
    by (k, below, is) (l, below', is') =
        let ids : (get_or leaves k a).0 ≡ (get_or leaves l a).0 = ap (λ (leaf : Leaf). leaf.0) (is a) ∙ same ∙ sym (ap (λ (leaf : Leaf). leaf.0) (is' a)) in
        elim (cases_order k l) [
          | inl one ↦ sym (is a) ∙ ap (λ n. get_or leaves n a) one ∙ is' a
          | inr (inl less) ↦ absurd (apart k l less below' ids)
          | inr (inr more) ↦ absurd (apart l k more below (sym ids))
        ]

-- ---- samples at own cells

abbrev own_unit : ℕ → ℕ → ℕ → ℕ → ℕ
own_unit side low scale x = (side * low + x * scale) / side

-- the box of a leaf holds the unit of each of its cells
pub own_cell_held : (shape : Shape) (side : ℕ) (i : BlockId) (x y z : ℕ) → 0 < side → level_of i ≤ 4 → x < side → y < side → z < side
    → Holds (box_of shape i) (unit_of side (cell_corner shape side i x y z))
own_cell_held shape side i x y z some shallow hx hy hz =
    let box = box_of shape i in
    let scale : ℕ = 2 ^ (4 - level_of i) in
    let wide : 0 < scale = pow_pos (4 - level_of i) in
    let left : level_of i + (4 - level_of i) ≡ 4 = omega arith in
    let edge : scale ≡ box.edge = sym (edge-box shape i (4 - level_of i) left) in
    record {
      along_x = subst (λ e. Spans box.x e (own_unit side box.x scale x)) edge (unit_in_span side box.x scale x some wide hx);
      along_y = subst (λ e. Spans box.y e (own_unit side box.y scale y)) edge (unit_in_span side box.y scale y some wide hy);
      along_z = subst (λ e. Spans box.z e (own_unit side box.z scale z)) edge (unit_in_span side box.z scale z some wide hz);
    }

-- the leaf whose box holds the unit of a finest cell is the leaf that has it
pub leaf_holding : (shape : Shape) (side : ℕ) (leaves : List Leaf) (leaf : Leaf) (p : Voxel) → IsMap shape side leaves → Contains leaves leaf
    → Holds (box_of shape leaf.0) (unit_of side p) → leaf_at shape side leaves p ≡ Some leaf
leaf_holding shape side leaves leaf p is has held =
    let u : Voxel = unit_of side p in
    find_only (λ (other : Leaf). holds (box_of shape other.0) u) leaves leaf has
    ((holds_decides (box_of shape leaf.0) u).1 held)
    (λ (other : Leaf) has' passed. same_leaf leaves other leaf is.rising has' has
    (is.tiling.apart u other.0 leaf.0 (Contains-map (λ (leaf : Leaf). leaf.0) leaves other has') (Contains-map (λ (leaf : Leaf). leaf.0) leaves leaf has)
    ((holds_decides (box_of shape other.0) u).0 passed) held))

-- the id of a leaf is one
pub id_of_leaf : (shape : Shape) (side : ℕ) (leaves : List Leaf) (leaf : Leaf) → IsMap shape side leaves → Contains leaves leaf → IsId leaf.0
id_of_leaf shape side leaves leaf is has = All-contains IsId (ids_of leaves) leaf.0 is.ids (Contains-map (λ (leaf : Leaf). leaf.0) leaves leaf has)

-- the leaf that has a leaf's cell is that leaf
pub own_leaf : (shape : Shape) (side : ℕ) (leaves : List Leaf) (leaf : Leaf) (x y z : ℕ) → 0 < side → IsMap shape side leaves → Contains leaves leaf
    → x < side → y < side → z < side → leaf_at shape side leaves (cell_corner shape side leaf.0 x y z) ≡ Some leaf
own_leaf shape side leaves leaf x y z some is has hx hy hz =
    leaf_holding shape side leaves leaf (cell_corner shape side leaf.0 x y z) is has
    (own_cell_held shape side leaf.0 x y z some (id_of_leaf shape side leaves leaf is has).shallow hx hy hz)

-- what a leaf says of its own cell is the cell
pub own_value : (shape : Shape) (side : ℕ) (leaf : Leaf) (x y z : ℕ)
    → sample_of shape side (level_of leaf.0) (cell_corner shape side leaf.0 x y z) leaf ≡ cell_at leaf.1 x y z
own_value shape side leaf x y z =
    let level = level_of leaf.0 in
    let p : Voxel = cell_corner shape side leaf.0 x y z in
    let corner : Voxel = corner_of shape side leaf.0 in
    let ex = cell_in_block corner.x x level in
    let ey = cell_in_block corner.y y level in
    let ez = cell_in_block corner.z z level in
    let own : nat_le level level ≡ true = le-leb level level (omega arith) in
    cond-true (nat_le level level) (value_at shape side leaf p) (mean_of_eight shape side leaf p) own
    ∙ ap (λ a. cell_at leaf.1 a ((p.y - corner.y) / scale_of level) ((p.z - corner.z) / scale_of level)) ex
    ∙ ap (λ a. cell_at leaf.1 x a ((p.z - corner.z) / scale_of level)) ey
    ∙ ap (λ a. cell_at leaf.1 x y a) ez

-- a map samples the cells of its leaves as they are
pub own_sample : (shape : Shape) (side : ℕ) (leaves : List Leaf) (leaf : Leaf) (x y z : ℕ) → 0 < side → IsMap shape side leaves → Contains leaves leaf
    → x < side → y < side → z < side
    → sample shape side leaves (level_of leaf.0) (cell_corner shape side leaf.0 x y z) ≡ cell_at leaf.1 x y z
unfolding sample
own_sample shape side leaves leaf x y z some is has hx hy hz =
    let level = level_of leaf.0 in
    let p : Voxel = cell_corner shape side leaf.0 x y z in
    ap (λ o. option_map_or (sample_of shape side level p) o 0) (own_leaf shape side leaves leaf x y z some is has hx hy hz)
    ∙ own_value shape side leaf x y z

-- ---- samples have 32 bits

pub value_small : (shape : Shape) (side : ℕ) (leaf : Leaf) (p : Voxel) → IsGrid leaf.1 → value_at shape side leaf p < 2 ^ 32
value_small shape side leaf p is =
    let corner : Voxel = corner_of shape side leaf.0 in
    let scale = scale_of (level_of leaf.0) in
    cell_small leaf.1 is ((p.x - corner.x) / scale) ((p.y - corner.y) / scale) ((p.z - corner.z) / scale)

pub sample_of_small : (shape : Shape) (side level : ℕ) (p : Voxel) (leaf : Leaf) → IsGrid leaf.1 → sample_of shape side level p leaf < 2 ^ 32
sample_of_small shape side level p leaf is =
    let s = scale_of (level_of leaf.0) in
    let at : Voxel → ℕ = value_at shape side leaf in
    let small : (q : Voxel) → at q < 2 ^ 32 = λ q. value_small shape side leaf q is in
    cond_both (nat_le (level_of leaf.0) level) (value_at shape side leaf p) (mean_of_eight shape side leaf p) (λ n. n < 2 ^ 32)
    (λ _. small p)
    (λ _. eighth_small (at p) (at (moved p s 0 0)) (at (moved p 0 s 0)) (at (moved p s s 0)) (at (moved p 0 0 s)) (at (moved p s 0 s)) (at (moved p 0 s s)) (at (moved p s s s))
    (small p) (small (moved p s 0 0)) (small (moved p 0 s 0)) (small (moved p s s 0)) (small (moved p 0 0 s)) (small (moved p s 0 s)) (small (moved p 0 s s)) (small (moved p s s s)))

pub sample_small : (shape : Shape) (side : ℕ) (leaves : List Leaf) (level : ℕ) (p : Voxel) → All (HasCells side) leaves → sample shape side leaves level p < 2 ^ 32
unfolding sample
sample_small shape side leaves level p cells =
    option_map_or-find (λ n. n < 2 ^ 32) (sample_of shape side level p) (λ (leaf : Leaf). holds (box_of shape leaf.0) (unit_of side p)) leaves 0
    (All-weaker (HasCells side) (λ leaf. sample_of shape side level p leaf < 2 ^ 32) (λ leaf is. sample_of_small shape side level p leaf is.valid) leaves cells)
    (lit< tt)
