-- Each map of the model is balanced: at the beginning, over a step, and over a regrid.
use Rattle.std.proofs.Common.{◌≡◌, ℕ, zero, suc, ◌<◌, ◌≤◌, Bool, true, false, ◌&&◌, List, Option, None, Some, refl, sym, subst, ◌∙◌, arith, All, IsTrue, get_or}
use Rattle.std.specs.Prelude.{nat_lt}
use Rattle.std.specs.Option.{option_map_or}
use Rattle.std.proofs.lemmas.Bool.{and_parts, cond_both, ltb-true, false≢true}
use Rattle.std.proofs.lemmas.Simd.{map-map}
use Rattle.std.proofs.lemmas.List.Elements.{All-map}
use Rattle.std.proofs.lemmas.List.Folds.{map_fixed}
use Rattle.bf_id.specs.Id.{BlockId, level_of}
use Rattle.bf_id.specs.Tiling.{IsBalanced}
use Rattle.bf_cells.specs.Grid.{Grid, spread_of}
use Rattle.bf_case.specs.declared.case.Case.{Case}
use Rattle.bf_case.specs.Balanced.{AreBalancedLeaves}
use Rattle.bf_case.specs.Case.{IsSized, IsValid}
use Rattle.bf_case.specs.Map.{Leaf, ids_of, cells_at, HasCells, IsBalancedMap}
use Rattle.bf_case.specs.Sample.{cell_corner, sample}
use Rattle.bf_case.specs.Stencil.{stencil}
use Rattle.bf_case.specs.Wishes.{wishes_of}
use Rattle.bf_case.specs.Regrid.{regridded_ids, sampled_leaf, regrid}
use Rattle.bf_case.specs.Model.{initial, regrids, regridded, model, model_at}
use Rattle.bf_case.proofs.SampleLemmas.{sample_small}
use Rattle.bf_case.proofs.MapLemmas.{ids_of-stencil, IsMap-stencil, ids_of-initial, balanced_roots, IsMap-initial, HasCells-table}
use Rattle.bf_case.proofs.ChoiceLemmas.{regridded_are_balanced}

-- ---- maps and leaves

-- the leaves of a balanced map
pub leaves_from_map : (c : Case) (leaves : List Leaf) → IsBalancedMap c leaves → AreBalancedLeaves c.roots c.levels (ids_of leaves)
leaves_from_map c leaves is = record {
  tiling = is.map.tiling;
  named = is.map.ids;
  in_shape = is.map.in_shape;
  rising = is.map.rising;
  shallow = is.shallow;
  balanced = is.balanced;
}

-- balanced leaves with their cells are a balanced map
pub map_from_leaves : (c : Case) (leaves : List Leaf) → AreBalancedLeaves c.roots c.levels (ids_of leaves) → All (HasCells c.side) leaves → IsBalancedMap c leaves
map_from_leaves c leaves is cells = record {
  map = record { tiling = is.tiling; ids = is.named; in_shape = is.in_shape; rising = is.rising; cells = cells };
  shallow = is.shallow;
  balanced = is.balanced;
}

-- ---- a step

pub balanced-stencil : (c : Case) (leaves : List Leaf) → IsBalancedMap c leaves → IsBalancedMap c (stencil c.roots c.side leaves)
balanced-stencil c leaves is =
    let same = sym (ids_of-stencil c.roots c.side leaves) in
    record {
      map = IsMap-stencil c.roots c.side leaves is.map;
      shallow = subst (All (λ i. level_of i ≤ c.levels)) same is.shallow;
      balanced = subst (IsBalanced c.roots) same is.balanced;
    }

-- ---- a regrid

-- a leaf that wishes to be refined isn't of the finest level
pub finer_has_room : (c : Case) (leaves : List Leaf) (i : BlockId) → IsTrue ((wishes_of c leaves).finer i) → level_of i < c.levels
finer_has_room c leaves i = by (cells_at leaves i)
  where
    by : (o : Option Grid) → option_map_or (λ g. nat_lt c.refine (spread_of g) && nat_lt (level_of i) c.levels) o false ≡ true → level_of i < c.levels
    by None e = absurd (false≢true e)
    by (Some g) e = ltb-true (level_of i) c.levels (and_parts (nat_lt c.refine (spread_of g)) (nat_lt (level_of i) c.levels) e).1

pub ids_of-regrid : (c : Case) (leaves : List Leaf) → ids_of (regrid c leaves) ≡ regridded_ids c.roots (ids_of leaves) (wishes_of c leaves)
unfolding regrid
ids_of-regrid c leaves =
    let ids = regridded_ids c.roots (ids_of leaves) (wishes_of c leaves) in
    map-map (λ (leaf : Leaf). leaf.0) (sampled_leaf c.roots c.side leaves) ids ∙ map_fixed (λ (i : BlockId). i) ids (λ k d below. refl)

cells-regrid : (c : Case) (leaves : List Leaf) → IsSized c → All (HasCells c.side) leaves → All (HasCells c.side) (regrid c leaves)
unfolding regrid
cells-regrid c leaves sized cells =
    let ids = regridded_ids c.roots (ids_of leaves) (wishes_of c leaves) in
    All-map (HasCells c.side) (sampled_leaf c.roots c.side leaves) ids (λ k d below. each (get_or ids k d))
  where
    each : (i : BlockId) → HasCells c.side (sampled_leaf c.roots c.side leaves i)
    each i =
        HasCells-table c.side i (λ x y z. sample c.roots c.side leaves (level_of i) (cell_corner c.roots c.side i x y z)) sized.even sized.wide sized.narrow
        (λ x y z. sample_small c.roots c.side leaves (level_of i) (cell_corner c.roots c.side i x y z) cells)

pub balanced-regrid : (c : Case) (leaves : List Leaf) → IsSized c → IsBalancedMap c leaves → IsBalancedMap c (regrid c leaves)
balanced-regrid c leaves sized is =
    let w = wishes_of c leaves in
    let new : AreBalancedLeaves c.roots c.levels (regridded_ids c.roots (ids_of leaves) w) =
    regridded_are_balanced c.roots c.levels (ids_of leaves) w sized.shallow (λ i has wish. finer_has_room c leaves i wish) (leaves_from_map c leaves is) in
    map_from_leaves c (regrid c leaves) (subst (AreBalancedLeaves c.roots c.levels) (sym (ids_of-regrid c leaves)) new) (cells-regrid c leaves sized is.map.cells)

-- ---- the model

pub balanced-initial : (c : Case) → IsValid c → IsBalancedMap c (initial c)
balanced-initial c is =
    let same = sym (ids_of-initial c) in
    let roots = balanced_roots c.roots c.levels is.sized.shape in
    record {
      map = IsMap-initial c is;
      shallow = subst (All (λ i. level_of i ≤ c.levels)) same roots.shallow;
      balanced = subst (IsBalanced c.roots) same roots.balanced;
    }

pub balanced-regridded : (c : Case) (time : ℕ) (leaves : List Leaf) → IsValid c → IsBalancedMap c leaves → IsBalancedMap c (regridded c time leaves)
balanced-regridded c time leaves valid is =
    cond_both (regrids c time) (regrid c leaves) leaves (IsBalancedMap c) (λ _. balanced-regrid c leaves valid.sized is) (λ _. is)

pub balanced-model : (c : Case) (time : ℕ) → IsValid c → IsBalancedMap c (model c time)
unfolding model
balanced-model c zero valid = balanced-initial c valid
balanced-model c (suc time) valid =
    balanced-stencil c (regridded c time (model c time)) (balanced-regridded c time (model c time) valid (balanced-model c time valid))

-- at each time, before a regrid and after it
pub balanced-model_at : (c : Case) (time : ℕ) (after : Bool) → IsValid c → IsBalancedMap c (model_at c time after)
balanced-model_at c time after valid =
    cond_both after (regridded c time (model c time)) (model c time) (IsBalancedMap c)
    (λ _. balanced-regridded c time (model c time) valid (balanced-model c time valid)) (λ _. balanced-model c time valid)
