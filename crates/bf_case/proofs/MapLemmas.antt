-- Maps stay maps: at the beginning, over a step, and where no leaf is ever refined over a regrid.
use Rattle.std.proofs.Common.{◌≡◌, ℕ, zero, suc, ◌+◌, ◌*◌, ◌%◌, ◌^◌, ◌<◌, ◌≤◌, Bool, false, ◌&&◌, ◌||◌, if◌then◌else◌, List, [], ◌∷◌, get_or, map, fold, filter, Option, None, Some, inl, inr, Contains, refl, sym, ap, subst, ◌∙◌, arith, All, lit<, ◌==◌}
use Rattle.std.specs.Prelude.{AllPairs, nat_lt}
use Rattle.std.specs.List.{range_with_len, list_any}
use Rattle.std.specs.Option.{option_map_or}
use Rattle.std.specs.Cmp.{nat_cmp_is}
use Rattle.std.specs.Ordering.{ordering_then}
use Rattle.std.specs.declared.cmp.Ordering.TheVariants.{Less, Equal}
use Rattle.std.proofs.Math.Nat.{mul-le-mul}
use Rattle.std.proofs.lemmas.Bool.{cond-false, cond_both, le-ltb, and_left, and_right}
use Rattle.std.proofs.lemmas.Simd.{map-map}
use Rattle.std.proofs.lemmas.List.Elements.{All-nil, All-head, All-tail, All-map, All-weaker, Contains-get_or}
use Rattle.std.proofs.lemmas.List.Folds.{map_fixed}
use Rattle.bf_id.specs.declared.shape.Shape.{Shape}
use Rattle.bf_id.specs.Cube.{Voxel}
use Rattle.bf_id.specs.Axis.{is_first, is_last, back, on}
use Rattle.bf_id.specs.Shape.{IsShape, root_count}
use Rattle.bf_id.specs.Id.{BlockId, IsId, InShape, level_of, root_id, touches, parent_of, root_ids}
use Rattle.bf_id.specs.Tiling.{Tiles}
use Rattle.bf_id.specs.Walk.{IsBefore}
use Rattle.bf_id.proofs.Tilings.{roots_Tiles, roots_IsBalanced}
use Rattle.bf_cells.specs.Grid.{Grid, table, spread_of}
use Rattle.bf_cells.proofs.GridLemmas.{IsGrid-table, side-table, table_is}
use Rattle.bf_cells.proofs.KernelLemmas.{relaxed_small}
use Rattle.bf_case.specs.declared.case.Case.{Case}
use Rattle.bf_case.specs.declared.case.Fill.{Fill}
use Rattle.bf_case.specs.Balanced.{AreBalancedLeaves}
use Rattle.bf_case.specs.Case.{IsValid, IsFill}
use Rattle.bf_case.specs.Map.{Leaf, ids_of, cells_at, HasCells, IsMap}
use Rattle.bf_case.specs.Sample.{scale_of, moved, cell_corner, sample}
use Rattle.bf_case.specs.Stencil.{stepped_value, stencil, cells_x, cells_y, cells_z}
use Rattle.bf_case.specs.Wishes.{Wishes, wishes_of}
use Rattle.bf_case.specs.Refinement.{is_among, refined_within, refined_ids}
use Rattle.bf_case.specs.Merging.{merges}
use Rattle.bf_case.specs.Regrid.{heirs_by, heirs_of, regridded_ids, sampled_leaf, regrid}
use Rattle.bf_case.specs.declared.target.Target.TheVariants.{Keep, Refine, Merge}
use Rattle.bf_case.specs.Model.{has_cell, filled_value, first_cell, filled_root, initial, regrids, regridded, model, NeverRefines}
use Rattle.bf_case.proofs.TestLemmas.{filter_none}
use Rattle.bf_case.proofs.ListLemmas.{flat_map_same, All-from_fn, AllPairs-from_fn}
use Rattle.bf_case.proofs.SampleLemmas.{own_sample, sample_small}

-- a map with other cells in the same leaves
pub IsMap-same_ids : (shape : Shape) (side : ℕ) (before after : List Leaf) → ids_of after ≡ ids_of before → IsMap shape side before
    → All (HasCells side) after → IsMap shape side after
IsMap-same_ids shape side before after same is cells = record {
  tiling = subst (Tiles shape) (sym same) is.tiling;
  ids = subst (All IsId) (sym same) is.ids;
  in_shape = subst (All (InShape shape)) (sym same) is.in_shape;
  rising = subst (AllPairs IsBefore) (sym same) is.rising;
  cells = cells;
}

-- ---- a step

either_small : (b : Bool) (m n : ℕ) → m < 2 ^ 32 → n < 2 ^ 32 → (if b then m else n) < 2 ^ 32
either_small b m n p q = cond_both b m n (λ k. k < 2 ^ 32) (λ _. p) (λ _. q)

pub stepped_small : (shape : Shape) (side : ℕ) (leaves : List Leaf) (level : ℕ) (p : Voxel) → All (HasCells side) leaves
    → stepped_value shape side leaves level p < 2 ^ 32
stepped_small shape side leaves level p cells =
    let scale = scale_of level in
    let at : Voxel → ℕ = sample shape side leaves level in
    let small : (q : Voxel) → at q < 2 ^ 32 = λ q. sample_small shape side leaves level q cells in
    let one : (b : Bool) (q : Voxel) → (if b then at p else at q) < 2 ^ 32 = λ b q. either_small b (at p) (at q) (small p) (small q) in
    relaxed_small (at p)
    (if is_first (cells_x shape side) p.x then at p else at (record p { x = back (cells_x shape side) scale p.x }))
    (if is_last (cells_x shape side) (p.x + scale) then at p else at (record p { x = on (cells_x shape side) scale p.x }))
    (if is_first (cells_y shape side) p.y then at p else at (record p { y = back (cells_y shape side) scale p.y }))
    (if is_last (cells_y shape side) (p.y + scale) then at p else at (record p { y = on (cells_y shape side) scale p.y }))
    (if is_first (cells_z shape side) p.z then at p else at (record p { z = back (cells_z shape side) scale p.z }))
    (if is_last (cells_z shape side) (p.z + scale) then at p else at (record p { z = on (cells_z shape side) scale p.z }))
    (small p)
    (one (is_first (cells_x shape side) p.x) (record p { x = back (cells_x shape side) scale p.x }))
    (one (is_last (cells_x shape side) (p.x + scale)) (record p { x = on (cells_x shape side) scale p.x }))
    (one (is_first (cells_y shape side) p.y) (record p { y = back (cells_y shape side) scale p.y }))
    (one (is_last (cells_y shape side) (p.y + scale)) (record p { y = on (cells_y shape side) scale p.y }))
    (one (is_first (cells_z shape side) p.z) (record p { z = back (cells_z shape side) scale p.z }))
    (one (is_last (cells_z shape side) (p.z + scale)) (record p { z = on (cells_z shape side) scale p.z }))

-- a step keeps the leaves
pub ids_of-stencil : (shape : Shape) (side : ℕ) (leaves : List Leaf) → ids_of (stencil shape side leaves) ≡ ids_of leaves
unfolding stencil
ids_of-stencil shape side leaves =
    map-map (λ (leaf : Leaf). leaf.0)
    (λ (leaf : Leaf). (leaf.0, table side (λ x y z. stepped_value shape side leaves (level_of leaf.0) (cell_corner shape side leaf.0 x y z)))) leaves

-- a leaf with a table of small values
pub HasCells-table : (side : ℕ) (i : BlockId) (f : ℕ → ℕ → ℕ → ℕ) → side % 2 ≡ 0 → 2 ≤ side → side ≤ 16 → ((x y z : ℕ) → f x y z < 2 ^ 32) → HasCells side (i, table side f)
HasCells-table side i f even low high small = record {
  valid = IsGrid-table side f even low high (λ x y z _ _ _. small x y z);
  fits = side-table side f;
}

pub IsMap-stencil : (shape : Shape) (side : ℕ) (leaves : List Leaf) → IsMap shape side leaves → IsMap shape side (stencil shape side leaves)
unfolding stencil
IsMap-stencil shape side leaves is =
    IsMap-same_ids shape side leaves (stencil shape side leaves) (ids_of-stencil shape side leaves) is
    (All-map (HasCells side) step leaves (All-weaker (HasCells side) (λ leaf. HasCells side (step leaf)) stepped leaves is.cells))
  where
    step : Leaf → Leaf
    step leaf = (leaf.0, table side (λ x y z. stepped_value shape side leaves (level_of leaf.0) (cell_corner shape side leaf.0 x y z)))

    stepped : (leaf : Leaf) → HasCells side leaf → HasCells side (step leaf)
    stepped leaf has =
        HasCells-table side leaf.0 (λ x y z. stepped_value shape side leaves (level_of leaf.0) (cell_corner shape side leaf.0 x y z))
        (subst (λ s. s % 2 ≡ 0) has.fits has.valid.even) (omega (arith, has.fits, has.valid.low)) (omega (arith, has.fits, has.valid.high))
        (λ x y z. stepped_small shape side leaves (level_of leaf.0) (cell_corner shape side leaf.0 x y z) is.cells)

-- ---- one level

-- no leaf is refined where none wishes it
pub refined_within_none : (shape : Shape) (ids : List BlockId) (w : Wishes) (n : ℕ) → ((i : BlockId) → w.finer i ≡ false) → refined_within shape ids w n ≡ []
unfolding refined_within
refined_within_none shape ids w zero none = filter_none w.finer ids none
refined_within_none shape ids w (suc n) none =
    ap (λ before. filter (λ i. is_among before i || list_any (λ j. touches shape j i && level_of j == level_of i + 1) before) ids)
    (refined_within_none shape ids w n none)
    ∙ filter_none (λ (i : BlockId). false) ids (λ i. refl)

-- no leaf wishes it where level 0 is the finest
pub none_wishes : (c : Case) (leaves : List Leaf) (i : BlockId) → c.levels ≡ 0 → (wishes_of c leaves).finer i ≡ false
none_wishes c leaves i flat = by (cells_at leaves i)
  where
    by : (o : Option Grid) → option_map_or (λ g. nat_lt c.refine (spread_of g) && nat_lt (level_of i) c.levels) o false ≡ false
    by None = refl
    by (Some g) = and_right (nat_lt c.refine (spread_of g)) (nat_lt (level_of i) c.levels) (le-ltb (level_of i) c.levels (omega arith))

-- a root that isn't refined is its own heir
own_heir : (shape : Shape) (ids : List BlockId) (w : Wishes) (i : BlockId) → refined_ids shape ids w ≡ [] → level_of i ≡ 0 → heirs_of shape ids w i ≡ i ∷ []
own_heir shape ids w i none root =
    let refined = refined_ids shape ids w in
    let merging = nat_lt 0 (level_of i) && merges shape ids w refined (parent_of i) in
    let out : is_among refined i ≡ false = ap (λ r. is_among r i) none in
    let apart : merging ≡ false = and_left (nat_lt 0 (level_of i)) (merges shape ids w refined (parent_of i)) (le-ltb 0 (level_of i) (omega arith)) in
    ap (λ t. heirs_by t i)
    (cond-false (is_among refined i) Refine (if merging then Merge else Keep) out ∙ cond-false merging Merge Keep apart)

-- a leaf of a map, sampled, is the leaf
pub sampled_leaf_same : (shape : Shape) (side : ℕ) (leaves : List Leaf) (leaf : Leaf) → IsMap shape side leaves → Contains leaves leaf → HasCells side leaf
    → sampled_leaf shape side leaves leaf.0 ≡ leaf
sampled_leaf_same shape side leaves leaf is has cells =
    let f : ℕ → ℕ → ℕ → ℕ = λ x y z. sample shape side leaves (level_of leaf.0) (cell_corner shape side leaf.0 x y z) in
    let some : 0 < side = omega (arith, cells.fits, cells.valid.low) in
    let own : leaf.1 ≡ table leaf.1.side f = table_is leaf.1 f cells.valid.full
    (λ x y z hx hy hz. sym (own_sample shape side leaves leaf x y z some is has (omega (arith, cells.fits)) (omega (arith, cells.fits)) (omega (arith, cells.fits)))) in
    let whole : leaf.1 ≡ table side f = own ∙ ap (λ s. table s f) cells.fits in
    let with : Grid → Leaf = λ g. (leaf.0, g) in
    ap with (sym whole)

pub regridded_ids_same : (c : Case) (leaves : List Leaf) → c.levels ≡ 0 → All (λ i. level_of i ≡ 0) (ids_of leaves)
    → regridded_ids c.roots (ids_of leaves) (wishes_of c leaves) ≡ ids_of leaves
unfolding regridded_ids
regridded_ids_same c leaves flat roots =
    let w = wishes_of c leaves in
    let none = refined_within_none c.roots (ids_of leaves) w 4 (λ i. none_wishes c leaves i flat) in
    flat_map_same (heirs_of c.roots (ids_of leaves) w) (ids_of leaves)
    (All-weaker (λ i. level_of i ≡ 0) (λ i. heirs_of c.roots (ids_of leaves) w i ≡ i ∷ []) (λ i root. own_heir c.roots (ids_of leaves) w i none root) (ids_of leaves) roots)

-- a map of one level comes back from a regrid as it is
pub regrid_same : (c : Case) (leaves : List Leaf) → c.levels ≡ 0 → IsMap c.roots c.side leaves → All (λ i. level_of i ≡ 0) (ids_of leaves) → regrid c leaves ≡ leaves
unfolding regrid
regrid_same c leaves flat is roots =
    ap (map (sampled_leaf c.roots c.side leaves)) (regridded_ids_same c leaves flat roots)
    ∙ map-map (sampled_leaf c.roots c.side leaves) (λ (leaf : Leaf). leaf.0) leaves
    ∙ map_fixed (λ (leaf : Leaf). sampled_leaf c.roots c.side leaves leaf.0) leaves
    (λ k d h. sampled_leaf_same c.roots c.side leaves (get_or leaves k d) is (Contains-get_or leaves k d h) (is.cells k d h))

-- ---- the beginning

pub filled_small : (fills : List Fill) (p : Voxel) (v : ℕ) → All (λ (f : Fill). f.value < 2 ^ 32) fills → v < 2 ^ 32
    → fold (λ v (f : Fill). if has_cell f p then f.value else v) v fills < 2 ^ 32
filled_small [] p v each small = small
filled_small (f ∷ fills) p v each small =
    filled_small fills p (if has_cell f p then f.value else v) (All-tail (λ (f : Fill). f.value < 2 ^ 32) f fills each)
    (either_small (has_cell f p) f.value v (All-head (λ (f : Fill). f.value < 2 ^ 32) f fills each) small)

pub ids_of-initial : (c : Case) → ids_of (initial c) ≡ root_ids c.roots
unfolding initial
ids_of-initial c = map-map (λ (leaf : Leaf). leaf.0) (filled_root c) (range_with_len 0 (root_count c.roots))

-- there are at most 4096 roots
few_roots : (shape : Shape) → IsShape shape → root_count shape ≤ 4096
few_roots shape is =
    let inner : shape.ny * shape.nz ≤ 16 * 16 = mul-le-mul is.few_y is.few_z in
    mul-le-mul is.few_x inner

roots_rise : (k l : ℕ) → k < l → IsBefore (root_id k) (root_id l)
roots_rise k l h = ap (λ o. ordering_then o Equal) (sym (nat_cmp_is k l Less h))

-- the roots are balanced leaves
pub balanced_roots : (shape : Shape) (levels : ℕ) → IsShape shape → AreBalancedLeaves shape levels (root_ids shape)
balanced_roots shape levels is =
    let n = root_count shape in
    record {
      tiling = roots_Tiles shape is;
      named = All-from_fn IsId root_id n (λ k h. record {
        root_fits = omega (arith, few_roots shape is);
        shallow = omega arith;
        octal = All-nil (λ octant. octant < 8);
      });
      in_shape = All-from_fn (InShape shape) root_id n (λ k h. h);
      rising = AllPairs-from_fn IsBefore root_id n roots_rise;
      shallow = All-from_fn (λ i. level_of i ≤ levels) root_id n (λ k h. omega arith);
      balanced = roots_IsBalanced shape;
    }

pub IsMap-initial : (c : Case) → IsValid c → IsMap c.roots c.side (initial c)
unfolding initial
IsMap-initial c is =
    let same = sym (ids_of-initial c) in
    let roots = balanced_roots c.roots c.levels is.sized.shape in
    record {
      tiling = subst (Tiles c.roots) same roots.tiling;
      ids = subst (All IsId) same roots.named;
      in_shape = subst (All (InShape c.roots)) same roots.in_shape;
      rising = subst (AllPairs IsBefore) same roots.rising;
      cells = All-from_fn (HasCells c.side) (filled_root c) (root_count c.roots) (λ k _.
          let first : Voxel = first_cell c.roots c.side k in
          HasCells-table c.side (root_id k) (λ x y z. filled_value c.fills (moved first x y z)) is.sized.even is.sized.wide is.sized.narrow
          (λ x y z. filled_small c.fills (moved first x y z) 0
          (All-weaker (IsFill c.roots c.side) (λ (f : Fill). f.value < 2 ^ 32) (λ f fill. fill.value_fits) c.fills is.fills) (lit< tt)));
    }

-- ---- the model where no leaf is ever refined

-- a map with the ids of the roots
pub record IsRootMap (c : Case) (leaves : List Leaf) : Type 0 where
  pub map : IsMap c.roots c.side leaves
  pub roots : ids_of leaves ≡ root_ids c.roots

-- no regrid changes it: none comes, or it gives the map itself
pub regridded_same : (c : Case) (time : ℕ) (leaves : List Leaf) → NeverRefines c → IsRootMap c leaves → regridded c time leaves ≡ leaves
regridded_same c time leaves (inl none) is = cond-false (regrids c time) (regrid c leaves) leaves (rw none refl)
regridded_same c time leaves (inr flat) is =
    let levels : All (λ i. level_of i ≡ 0) (ids_of leaves) =
    subst (All (λ i. level_of i ≡ 0)) (sym is.roots) (All-from_fn (λ i. level_of i ≡ 0) root_id (root_count c.roots) (λ k h. refl)) in
    cond_both (regrids c time) (regrid c leaves) leaves (λ m. m ≡ leaves) (λ _. regrid_same c leaves flat is.map levels) (λ _. refl)

-- so the roots stay the leaves
pub IsRootMap-model : (c : Case) (time : ℕ) → IsValid c → NeverRefines c → IsRootMap c (model c time)
unfolding model
IsRootMap-model c zero is never = record { map = IsMap-initial c is; roots = ids_of-initial c }
IsRootMap-model c (suc time) is never =
    let before : IsRootMap c (model c time) = IsRootMap-model c time is never in
    let same : regridded c time (model c time) ≡ model c time = regridded_same c time (model c time) never before in
    subst (λ leaves. IsRootMap c (stencil c.roots c.side leaves)) (sym same) (record {
      map = IsMap-stencil c.roots c.side (model c time) before.map;
      roots = ids_of-stencil c.roots c.side (model c time) ∙ before.roots;
    })
