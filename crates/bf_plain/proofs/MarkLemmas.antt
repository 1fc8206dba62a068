-- Marks of leaves.
use Rattle.std.proofs.Common.{◌≡◌, ◌≢◌, ℕ, Bool, true, false, not, ◌&&◌, ◌||◌, ◌==◌, ◌+◌, ◌<◌, List, length, get_or, take, map, ◌⊎◌, inl, inr, refl, sym, ap, subst, ◌∙◌, arith, eqb-true, eq-eqb}
use Rattle.std.proofs.Math.ListN.{set}
use Rattle.std.proofs.lemmas.List.Folds.{list_any_more}
use Rattle.std.proofs.lemmas.Bool.{cases_eq, cases_Bool, or_left, or_right, or_cases, and_parts, and_from, both_ways, not-true, not_from_false}
use Rattle.std.proofs.lemmas.List.{get_or-set_same, get_or-set_other, get_or-map, length-map, length-set, get_or_default, ext_get_or}
use Rattle.std.proofs.Math.Seq.{take-length}
use Rattle.bf_lemmas.proofs.Lists.{map_alike}
use Rattle.bf_lemmas.proofs.Tests.{same_tests}
use Rattle.bf_id.specs.declared.shape.Shape.{Shape}
use Rattle.bf_id.specs.Cube.{Cube, Voxel, Holds}
use Rattle.bf_id.specs.Shape.{InDomain}
use Rattle.bf_id.specs.Id.{BlockId, InShape, level_of, box_of, root_id, touches}
use Rattle.bf_id.proofs.Boxes.{domain_holds}
use Rattle.bf_case.specs.Map.{Leaf, ids_of}
use Rattle.bf_case.proofs.TestLemmas.{touches_decides}
use Rattle.bf_case.proofs.PlaceLemmas.{one_place, one_leaf_holds}
use Rattle.bf_plain.specs.Atlas.{Chart, number_at, id_at}
use Rattle.bf_id.specs.Neighbours.{IsPlaced, place_beside}
use Rattle.bf_plain.specs.Marks.{IsSurveyed, reaches, is_reached, is_finer}
use Rattle.bf_plain.proofs.AtlasLemmas.{id_of_leaf}
use Rattle.bf_plain.proofs.PlaceLemmas.{box_is_placed, meets_from_place, place_from_touch}

-- ---- truth values

-- ---- one more mark

with_mark : List Bool → ℕ → Bool → List Bool
with_mark marks k also = set marks k (get_or marks k false || also)

mark_stays : (marks : List Bool) (at : ℕ) (also : Bool) (k : ℕ) → at < length marks → get_or marks k false ≡ true → get_or (with_mark marks at also) k false ≡ true
unfolding with_mark
mark_stays marks at also k below marked = by (cases_eq k at)
  where
    by : (k ≡ at) ⊎ (k ≡ at → ⊥) → get_or (set marks at (get_or marks at false || also)) k false ≡ true
    by (inl same) =
        ap (λ n. get_or (set marks at (get_or marks at false || also)) n false) same
        ∙ get_or-set_same marks at (get_or marks at false || also) false below
        ∙ or_left (get_or marks at false) also (ap (λ n. get_or marks n false) (sym same) ∙ marked)
    by (inr other) = get_or-set_other marks at k (get_or marks at false || also) false other ∙ marked

mark_is_new : (marks : List Bool) (at : ℕ) (also : Bool) → at < length marks → also ≡ true → get_or (with_mark marks at also) at false ≡ true
unfolding with_mark
mark_is_new marks at also below new =
    get_or-set_same marks at (get_or marks at false || also) false below ∙ or_right (get_or marks at false) also new

mark_cases : (marks : List Bool) (at : ℕ) (also : Bool) (k : ℕ) → at < length marks → get_or (with_mark marks at also) k false ≡ true
    → (get_or marks k false ≡ true) ⊎ ((k ≡ at) × (also ≡ true))
unfolding with_mark
mark_cases marks at also k below marked = by (cases_eq k at)
  where
    by : (k ≡ at) ⊎ (k ≡ at → ⊥) → (get_or marks k false ≡ true) ⊎ ((k ≡ at) × (also ≡ true))
    by (inl same) = joined (or_cases (get_or marks at false) also
        (sym (get_or-set_same marks at (get_or marks at false || also) false below) ∙ ap (λ n. get_or (set marks at (get_or marks at false || also)) n false) (sym same) ∙ marked))
      where
        joined : (get_or marks at false ≡ true) ⊎ (also ≡ true) → (get_or marks k false ≡ true) ⊎ ((k ≡ at) × (also ≡ true))
        joined (inl old) = inl (ap (λ n. get_or marks n false) same ∙ old)
        joined (inr new) = inr (same, new)
    by (inr other) = inl (sym (get_or-set_other marks at k (get_or marks at false || also) false other) ∙ marked)

-- ---- around one leaf

-- what is marked after some places around a leaf
pub record Around (shape : Shape) (ids : List BlockId) (chart : Chart) (finer leaf : ℕ) (before : List Bool) (step : ℕ) (marks : List Bool) : Type 0 where
  pub full : length marks ≡ length before
  pub stay : (k : ℕ) → get_or before k false ≡ true → get_or marks k false ≡ true
  pub only : (k : ℕ) → k < length ids → get_or marks k false ≡ true
      → (get_or before k false ≡ true) ⊎ (reaches shape finer (id_at ids leaf) (id_at ids k) ≡ true)
  pub done : (s : ℕ) → s < step → is_finer ids finer leaf (number_at chart (place_beside shape (box_of shape (id_at ids leaf)) s)) ≡ true
      → get_or marks (number_at chart (place_beside shape (box_of shape (id_at ids leaf)) s)) false ≡ true

-- a leaf at a place around another one that is finer touches it
reached_at : (shape : Shape) (ids : List BlockId) (chart : Chart) (finer leaf step found : ℕ) → IsSurveyed shape ids chart → leaf < length ids → found < length ids
    → Holds (box_of shape (id_at ids found)) (place_beside shape (box_of shape (id_at ids leaf)) step) → is_finer ids finer leaf found ≡ true
    → reaches shape finer (id_at ids leaf) (id_at ids found) ≡ true
reached_at shape ids chart finer leaf step found is below found_in holds test =
    let j = id_at ids leaf in
    let i = id_at ids found in
    let parts = and_parts (not (found == leaf)) (level_of j == level_of i + finer) test in
    let meet = meets_from_place shape (box_of shape j) (box_of shape i) step
    (box_is_placed shape j is.domain (is.named leaf (root_id 0) below) (is.in_shape leaf (root_id 0) below)) holds in
    and_from (touches shape j i) (level_of j == level_of i + finer) ((touches_decides shape j i).1 (apart parts.0, meet)) parts.1
  where
    apart : not (found == leaf) ≡ true → id_at ids leaf ≢ id_at ids found
    apart other same =
        let one : leaf ≡ found = one_place ids leaf found (id_at ids found) is.rising
        (below, λ d. get_or_default ids leaf d (root_id 0) below ∙ same) (found_in, λ d. get_or_default ids found d (root_id 0) found_in) in
        both_ways (found == leaf) (not-true (found == leaf) other) (eq-eqb found leaf (sym one))

pub Around-more : (shape : Shape) (ids : List BlockId) (chart : Chart) (finer leaf step found : ℕ) (before marks : List Bool) → IsSurveyed shape ids chart
    → leaf < length ids → found < length ids → length before ≡ length ids
    → found ≡ number_at chart (place_beside shape (box_of shape (id_at ids leaf)) step)
    → Holds (box_of shape (id_at ids found)) (place_beside shape (box_of shape (id_at ids leaf)) step)
    → Around shape ids chart finer leaf before step marks
    → Around shape ids chart finer leaf before (step + 1) (set marks found (get_or marks found false || is_finer ids finer leaf found))
unfolding with_mark
Around-more shape ids chart finer leaf step found before marks is below found_in full at holds around = record {
  full = length-set marks found _ ∙ around.full;
  stay = λ k marked. mark_stays marks found (is_finer ids finer leaf found) k inside (around.stay k marked);
  only = λ k k_in marked. only_by k k_in (mark_cases marks found (is_finer ids finer leaf found) k inside marked);
  done = λ s s_in reached. done_by s reached (cases_eq s step) s_in;
}
  where
    inside : found < length marks
    inside = omega (arith, around.full)

    only_by : (k : ℕ) → k < length ids → (get_or marks k false ≡ true) ⊎ ((k ≡ found) × (is_finer ids finer leaf found ≡ true))
        → (get_or before k false ≡ true) ⊎ (reaches shape finer (id_at ids leaf) (id_at ids k) ≡ true)
    only_by k k_in (inl old) = around.only k k_in old
    only_by k k_in (inr (same, new)) = inr (ap (λ n. reaches shape finer (id_at ids leaf) (id_at ids n)) same
        ∙ reached_at shape ids chart finer leaf step found is below found_in holds new)

    done_by : (s : ℕ) → is_finer ids finer leaf (number_at chart (place_beside shape (box_of shape (id_at ids leaf)) s)) ≡ true → (s ≡ step) ⊎ (s ≡ step → ⊥) → s < step + 1
        → get_or (with_mark marks found (is_finer ids finer leaf found)) (number_at chart (place_beside shape (box_of shape (id_at ids leaf)) s)) false ≡ true
    done_by s reached (inl same) s_in =
        let here : number_at chart (place_beside shape (box_of shape (id_at ids leaf)) s) ≡ found =
        ap (λ n. number_at chart (place_beside shape (box_of shape (id_at ids leaf)) n)) same ∙ sym at in
        ap (λ n. get_or (with_mark marks found (is_finer ids finer leaf found)) n false) here
        ∙ mark_is_new marks found (is_finer ids finer leaf found) inside (ap (λ n. is_finer ids finer leaf n) (sym here) ∙ reached)
    done_by s reached (inr other) s_in =
        mark_stays marks found (is_finer ids finer leaf found) _ inside (around.done s (omega arith) reached)

-- a leaf that a finer one touches is found at one of the places around it
found_at : (shape : Shape) (ids : List BlockId) (chart : Chart) (finer leaf k : ℕ) → IsSurveyed shape ids chart → leaf < length ids → k < length ids
    → reaches shape finer (id_at ids leaf) (id_at ids k) ≡ true
    → (s : ℕ) × (s < 27) × (number_at chart (place_beside shape (box_of shape (id_at ids leaf)) s) ≡ k) × (is_finer ids finer leaf k ≡ true)
found_at shape ids chart finer leaf k is below k_in reached =
    let j = id_at ids leaf in
    let i = id_at ids k in
    let parts = and_parts (touches shape j i) (level_of j == level_of i + finer) reached in
    let touch = (touches_decides shape j i).0 parts.0 in
    let level : level_of j ≡ level_of i + finer = eqb-true (level_of j) (level_of i + finer) parts.1 in
    let place = place_from_touch shape i j is.domain (is.named k (root_id 0) k_in) (is.named leaf (root_id 0) below)
    (is.in_shape k (root_id 0) k_in) (is.in_shape leaf (root_id 0) below) (omega arith) touch.1 in
    let inside = domain_holds shape i (place_beside shape (box_of shape j) place.0) is.domain (is.named k (root_id 0) k_in) (is.in_shape k (root_id 0) k_in) place.2 in
    let named = is.charts.leaves (place_beside shape (box_of shape j) place.0) inside in
    let other : not (k == leaf) ≡ true = not_from_false (k == leaf) (differs touch.0 (cases_Bool (k == leaf))) in (
      place.0,
      place.1,
      one_leaf_holds shape ids (place_beside shape (box_of shape j) place.0) (number_at chart (place_beside shape (box_of shape j) place.0)) k (root_id 0) (root_id 0)
          is.tiling is.rising named.below k_in named.holds place.2,
      and_from (not (k == leaf)) (level_of j == level_of i + finer) other parts.1,
    )
  where
    differs : (id_at ids leaf ≡ id_at ids k → ⊥) → (k == leaf ≡ true) ⊎ (k == leaf ≡ false) → k == leaf ≡ false
    differs other (inl same) = absurd (other (ap (id_at ids) (sym (eqb-true k leaf same))))
    differs other (inr is_not) = is_not

-- after all places, the marks are told
pub marks_from_around : (shape : Shape) (ids : List BlockId) (chart : Chart) (finer leaf : ℕ) (before marks : List Bool) (p : BlockId → Bool)
    → IsSurveyed shape ids chart → leaf < length ids → Around shape ids chart finer leaf before 27 marks → before ≡ map p ids
    → marks ≡ map (λ i. p i || reaches shape finer (id_at ids leaf) i) ids
marks_from_around shape ids chart finer leaf before marks p is below around begun =
    ext_get_or false marks (map q ids) (around.full ∙ ap length begun ∙ length-map ids p ∙ sym (length-map ids q)) each
  where
    q : BlockId → Bool
    q i = p i || reaches shape finer (id_at ids leaf) i

    was : (k : ℕ) → k < length ids → get_or before k false ≡ p (id_at ids k)
    was k k_in = ap (λ (l : List Bool). get_or l k false) begun ∙ get_or-map p ids k (root_id 0) false k_in

    there : (k : ℕ) → k < length ids → (get_or before k false ≡ true) ⊎ (reaches shape finer (id_at ids leaf) (id_at ids k) ≡ true)
        → (p (id_at ids k) || reaches shape finer (id_at ids leaf) (id_at ids k)) ≡ true
    there k k_in (inl old) = or_left (p (id_at ids k)) (reaches shape finer (id_at ids leaf) (id_at ids k)) (sym (was k k_in) ∙ old)
    there k k_in (inr new) = or_right (p (id_at ids k)) (reaches shape finer (id_at ids leaf) (id_at ids k)) new

    back : (k : ℕ) → k < length ids → (p (id_at ids k) ≡ true) ⊎ (reaches shape finer (id_at ids leaf) (id_at ids k) ≡ true) → get_or marks k false ≡ true
    back k k_in (inl old) = around.stay k (was k k_in ∙ old)
    back k k_in (inr new) =
        let found = found_at shape ids chart finer leaf k is below k_in new in
        ap (λ n. get_or marks n false) (sym found.2)
        ∙ around.done found.0 found.1 (ap (λ n. is_finer ids finer leaf n) found.2 ∙ found.3)

    each : (k : ℕ) → k < length marks → get_or marks k false ≡ get_or (map q ids) k false
    each k k_in' =
        let k_in : k < length ids = omega (arith, around.full, ap length begun, length-map ids p) in
        same_tests (get_or marks k false) (p (id_at ids k) || reaches shape finer (id_at ids leaf) (id_at ids k))
        (λ marked. there k k_in (around.only k k_in marked))
        (λ either. back k k_in (or_cases (p (id_at ids k)) (reaches shape finer (id_at ids leaf) (id_at ids k)) either))
        ∙ sym (get_or-map q ids k (root_id 0) false k_in)

-- ---- leaves by their numbers

pub count_of-ids : (leaves : List Leaf) (k : ℕ) → k < length leaves → k < length (ids_of leaves)
count_of-ids leaves k below = omega (arith, length-map leaves (λ (l : Leaf). l.0), below)

pub leaf_in_shape : (shape : Shape) (leaves : List Leaf) (chart : Chart) (k : ℕ) (leaf : Leaf) → IsSurveyed shape (ids_of leaves) chart
    → k < length leaves → leaf ≡ get_or leaves k leaf → InShape shape leaf.0
leaf_in_shape shape leaves chart k leaf is below at =
    subst (InShape shape) (sym (id_of_leaf leaves k leaf below at)) (is.in_shape k (root_id 0) (count_of-ids leaves k below))

pub leaf_is_placed : (shape : Shape) (leaves : List Leaf) (chart : Chart) (k : ℕ) (leaf : Leaf) (c : Cube) → IsSurveyed shape (ids_of leaves) chart
    → k < length leaves → leaf ≡ get_or leaves k leaf → c ≡ box_of shape leaf.0 → IsPlaced shape c
leaf_is_placed shape leaves chart k leaf c is below at box =
    let h = count_of-ids leaves k below in
    subst (IsPlaced shape) (sym (box ∙ ap (box_of shape) (id_of_leaf leaves k leaf below at)))
    (box_is_placed shape (id_at (ids_of leaves) k) is.domain (is.named k (root_id 0) h) (is.in_shape k (root_id 0) h))

-- the next place around a leaf, as code comes to it
pub Around-next : (shape : Shape) (leaves : List Leaf) (chart : Chart) (finer k step found : ℕ) (leaf : Leaf) (block : Cube) (place : Voxel) (also : Bool) (before marks : List Bool)
    → IsSurveyed shape (ids_of leaves) chart → k < length leaves → leaf ≡ get_or leaves k leaf → block ≡ box_of shape leaf.0
    → place ≡ place_beside shape block step → InDomain shape place → found ≡ number_at chart place → also ≡ is_finer (ids_of leaves) finer k found
    → length before ≡ length leaves → Around shape (ids_of leaves) chart finer k before step marks
    → Around shape (ids_of leaves) chart finer k before (step + 1) (set marks found (get_or marks found false || also))
Around-next shape leaves chart finer k step found leaf block place also before marks is below at box beside inside number test full around =
    let ids = ids_of leaves in
    let block_is : block ≡ box_of shape (id_at ids k) = box ∙ ap (box_of shape) (id_of_leaf leaves k leaf below at) in
    let place_is : place ≡ place_beside shape (box_of shape (id_at ids k)) step = beside ∙ ap (λ b. place_beside shape b step) block_is in
    let named = is.charts.leaves place inside in
    let below' : found < length ids = subst (λ n. n < length ids) (sym number) named.below in
    let holds : Holds (box_of shape (id_at ids found)) (place_beside shape (box_of shape (id_at ids k)) step) =
    subst (Holds (box_of shape (id_at ids found))) place_is (subst (λ n. Holds (box_of shape (id_at ids n)) place) (sym number) named.holds) in
    let next = Around-more shape ids chart finer k step found before marks is (count_of-ids leaves k below) below'
    (omega (arith, full, length-map leaves (λ (l : Leaf). l.0))) (number ∙ ap (number_at chart) place_is) holds around in
    subst (λ b. Around shape ids chart finer k before (step + 1) (set marks found (get_or marks found false || b))) (sym test) next

-- ---- from many leaves

pub or_false : (a : Bool) → a ≡ (a || false)
or_false true = refl
or_false false = refl

or_assoc : (a b c : Bool) → ((a || b) || c) ≡ (a || (b || c))
or_assoc true b c = refl
or_assoc false b c = refl

-- the marks after the first sources
abbrev pub ReachedBy : Shape → List BlockId → ℕ → ℕ → List Bool → List Bool → List Bool → Type 0
ReachedBy shape ids finer count before sources marks =
    (p source : BlockId → Bool) → before ≡ map p ids → sources ≡ map source ids
    → marks ≡ map (λ i. p i || is_reached shape finer source (take count ids) i) ids

reached_more : (shape : Shape) (ids : List BlockId) (finer k : ℕ) (source : BlockId → Bool) (i : BlockId) (now : Bool) → k < length ids → source (id_at ids k) ≡ now
    → is_reached shape finer source (take (k + 1) ids) i ≡ (is_reached shape finer source (take k ids) i || (now && reaches shape finer (id_at ids k) i))
reached_more shape ids finer k source i now below is =
    list_any_more (λ j. source j && reaches shape finer j i) ids k (root_id 0) below
    ∙ ap (λ b. is_reached shape finer source (take k ids) i || (b && reaches shape finer (id_at ids k) i)) is

source_at : (ids : List BlockId) (k : ℕ) (sources : List Bool) (source : BlockId → Bool) → sources ≡ map source ids → k < length ids → source (id_at ids k) ≡ get_or sources k false
source_at ids k sources source from below = sym (ap (λ (l : List Bool). get_or l k false) from ∙ get_or-map source ids k (root_id 0) false below)

-- a source marks around it
pub ReachedBy-source : (shape : Shape) (ids : List BlockId) (finer k : ℕ) (before sources marks after : List Bool) → k < length ids → get_or sources k false ≡ true
    → ((p : BlockId → Bool) → marks ≡ map p ids → after ≡ map (λ i. p i || reaches shape finer (id_at ids k) i) ids)
    → ReachedBy shape ids finer k before sources marks → ReachedBy shape ids finer (k + 1) before sources after
ReachedBy-source shape ids finer k before sources marks after below on around reached p source begun from =
    around (λ i. p i || is_reached shape finer source (take k ids) i) (reached p source begun from)
    ∙ map_alike _ (λ i. p i || is_reached shape finer source (take (k + 1) ids) i) ids
    (λ i. or_assoc (p i) (is_reached shape finer source (take k ids) i) (reaches shape finer (id_at ids k) i)
    ∙ ap (λ b. p i || b) (sym (reached_more shape ids finer k source i true below (source_at ids k sources source from below ∙ on))))

-- and another leaf marks none
pub ReachedBy-other : (shape : Shape) (ids : List BlockId) (finer k : ℕ) (before sources marks : List Bool) → k < length ids → get_or sources k false ≡ false
    → ReachedBy shape ids finer k before sources marks → ReachedBy shape ids finer (k + 1) before sources marks
ReachedBy-other shape ids finer k before sources marks below off reached p source begun from =
    reached p source begun from
    ∙ map_alike _ (λ i. p i || is_reached shape finer source (take (k + 1) ids) i) ids
    (λ i. ap (λ b. p i || b) (or_false (is_reached shape finer source (take k ids) i)
    ∙ sym (reached_more shape ids finer k source i false below (source_at ids k sources source from below ∙ off))))

-- after all leaves
pub reached_by_all : (shape : Shape) (ids : List BlockId) (finer count : ℕ) (before sources marks : List Bool) → count ≡ length ids
    → ReachedBy shape ids finer count before sources marks → (p source : BlockId → Bool) → before ≡ map p ids → sources ≡ map source ids
    → marks ≡ map (λ i. p i || is_reached shape finer source ids i) ids
reached_by_all shape ids finer count before sources marks all reached p source begun from =
    reached p source begun from
    ∙ ap (λ (js : List BlockId). map (λ i. p i || is_reached shape finer source js i) ids) (ap (λ n. take n ids) all ∙ take-length ids)
