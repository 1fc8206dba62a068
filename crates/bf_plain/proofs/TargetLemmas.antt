-- What becomes of each leaf, by marks.
use Rattle.std.proofs.Common.{◌≡◌, ℕ, Bool, false, ◌&&◌, ◌+◌, ◌<◌, nat_lt, nat_le, cond, List, [], ◌∷◌, ◌++◌, length, get_or, take, map, sym, ap, ◌∙◌, arith}
use Rattle.std.specs.Option.{option_map_or}
use Rattle.std.proofs.lemmas.Simd.{map-map}
use Rattle.std.proofs.lemmas.List.{length-map, get_or-map}
use Rattle.bf_id.specs.Id.{BlockId, level_of, root_id}
use Rattle.bf_cells.specs.Grid.{spread_of}
use Rattle.bf_case.specs.declared.case.Case.{Case}
use Rattle.bf_case.specs.declared.target.Target.{Target}
use Rattle.bf_case.specs.declared.target.Target.TheVariants.{Keep, Merge, Refine}
use Rattle.bf_case.specs.Case.{IsValid}
use Rattle.bf_case.specs.Map.{Leaf, ids_of, IsBalancedMap}
use Rattle.bf_case.specs.Wishes.{wishes_of}
use Rattle.bf_case.proofs.LookupLemmas.{cells_at-leaf}
use Rattle.bf_plain.specs.Atlas.{Chart, Charts, id_at}
use Rattle.bf_plain.specs.Marks.{IsSurveyed}
use Rattle.bf_plain.proofs.RefiningLemmas.{map_alike_on}
use Rattle.bf_plain.proofs.MergingLemmas.{map_take_more}

-- what a leaf wishes
abbrev pub leaf_finer : Case → Leaf → Bool
leaf_finer c leaf = nat_lt c.refine (spread_of leaf.1) && nat_lt (level_of leaf.0) c.levels

abbrev pub leaf_coarser : Case → Leaf → Bool
leaf_coarser c leaf = nat_le (spread_of leaf.1) c.coarsen && nat_lt 0 (level_of leaf.0)

pub finer_by_leaves : (c : Case) (leaves : List Leaf) → IsBalancedMap c leaves → map (leaf_finer c) leaves ≡ map (wishes_of c leaves).finer (ids_of leaves)
finer_by_leaves c leaves is =
    map_alike_on (leaf_finer c) (λ leaf. (wishes_of c leaves).finer leaf.0) leaves
    (λ leaf has. sym (ap (λ found. option_map_or (λ g. nat_lt c.refine (spread_of g) && nat_lt (level_of leaf.0) c.levels) found false)
    (cells_at-leaf leaves leaf.0 leaf.1 is.map.rising has)))
    ∙ sym (map-map (wishes_of c leaves).finer (λ (leaf : Leaf). leaf.0) leaves)

pub coarser_by_leaves : (c : Case) (leaves : List Leaf) → IsBalancedMap c leaves → map (leaf_coarser c) leaves ≡ map (wishes_of c leaves).coarser (ids_of leaves)
coarser_by_leaves c leaves is =
    map_alike_on (leaf_coarser c) (λ leaf. (wishes_of c leaves).coarser leaf.0) leaves
    (λ leaf has. sym (ap (λ found. option_map_or (λ g. nat_le (spread_of g) c.coarsen && nat_lt 0 (level_of leaf.0)) found false)
    (cells_at-leaf leaves leaf.0 leaf.1 is.map.rising has)))
    ∙ sym (map-map (wishes_of c leaves).coarser (λ (leaf : Leaf). leaf.0) leaves)

-- what marks tell
abbrev pub target_by : Bool → Bool → Target
target_by refined merging = cond refined Refine (cond merging Merge Keep)

abbrev pub ToldBelow : List Bool → List Bool → ℕ → List Target → Type 0
ToldBelow refined merging count targets =
    (ids : List BlockId) (p q : BlockId → Bool) → refined ≡ map p ids → merging ≡ map q ids → targets ≡ map (λ i. target_by (p i) (q i)) (take count ids)

pub ToldBelow-more : (refined merging : List Bool) (targets : List Target) (k : ℕ) (new : Target) → k < length refined
    → new ≡ target_by (get_or refined k false) (get_or merging k false) → ToldBelow refined merging k targets → ToldBelow refined merging (k + 1) (targets ++ new ∷ [])
ToldBelow-more refined merging targets k new below is told ids p q from from' =
    let k_in : k < length ids = omega (arith, ap length from, length-map ids p) in
    let first : get_or refined k false ≡ p (id_at ids k) = ap (λ (l : List Bool). get_or l k false) from ∙ get_or-map p ids k (root_id 0) false k_in in
    let second : get_or merging k false ≡ q (id_at ids k) = ap (λ (l : List Bool). get_or l k false) from' ∙ get_or-map q ids k (root_id 0) false k_in in
    map_take_more (λ i. target_by (p i) (q i)) ids k (root_id 0) targets new k_in (told ids p q from from')
    (is ∙ ap (λ b. target_by b (get_or merging k false)) first ∙ ap (λ b. target_by (p (id_at ids k)) b) second)

-- a map with its chart
pub surveyed : (c : Case) (leaves : List Leaf) (chart : Chart) → IsValid c → IsBalancedMap c leaves → Charts c.roots (ids_of leaves) chart
    → IsSurveyed c.roots (ids_of leaves) chart
surveyed c leaves chart valid is charts = record {
  domain = valid.sized.shape;
  tiling = is.map.tiling;
  named = is.map.ids;
  in_shape = is.map.in_shape;
  rising = is.map.rising;
  charts = charts;
}
