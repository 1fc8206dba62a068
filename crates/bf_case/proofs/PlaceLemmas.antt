-- The places of leaves in a list of them that rises and tiles.
use Rattle.std.proofs.Common.{◌≡◌, ℕ, zero, suc, ◌+◌, ◌<◌, List, length, get_or, ◌⊎◌, inl, inr, Contains, sym, ap, subst, ◌∙◌, arith, All}
use Rattle.std.specs.Prelude.{AllPairs}
use Rattle.std.proofs.lemmas.Bool.{cases_order}
use Rattle.std.proofs.lemmas.List.{get_or_default}
use Rattle.std.proofs.lemmas.List.Elements.{Contains-get_or, at_from_Contains}
use Rattle.bf_id.specs.declared.shape.Shape.{Shape}
use Rattle.bf_id.specs.Cube.{Voxel, Holds}
use Rattle.bf_id.specs.Id.{BlockId, IsId, child_of, box_of}
use Rattle.bf_id.specs.Tiling.{Tiles}
use Rattle.bf_id.specs.Walk.{IsBefore}
use Rattle.bf_id.proofs.Tilings.{leaves_part}
use Rattle.bf_case.proofs.SampleLemmas.{not_before_itself}
use Rattle.bf_case.proofs.OrderLemmas.{not_both_before, sibling_before, between_siblings}

-- the leaf at a place
abbrev pub StandsAt : List BlockId → ℕ → BlockId → Type 0
StandsAt ids k i = (k < length ids) × ((d : BlockId) → get_or ids k d ≡ i)

-- where ids rise, a leaf stands at one place
pub one_place : (ids : List BlockId) (j k : ℕ) (i : BlockId) → AllPairs IsBefore ids → StandsAt ids j i → StandsAt ids k i → j ≡ k
one_place ids j k i rising first second = by (cases_order j k)
  where
    apart : (l m : ℕ) → l < m → StandsAt ids l i → StandsAt ids m i → ⊥
    apart l m less here there =
        let up : IsBefore (get_or ids l i) (get_or ids m i) = rising l m i less there.0 in
        not_before_itself i (subst (λ a. IsBefore a i) (here.1 i) (subst (IsBefore (get_or ids l i)) (there.1 i) up))

    by : (j ≡ k) ⊎ ((j < k) ⊎ (k < j)) → j ≡ k
    by (inl same) = same
    by (inr (inl less)) = absurd (apart j k less first second)
    by (inr (inr more)) = absurd (apart k j more second first)

-- where ids rise, the earlier of two leaves stands at the lesser place
pub places_rise : (ids : List BlockId) (j k : ℕ) (a b : BlockId) → AllPairs IsBefore ids → StandsAt ids j a → StandsAt ids k b → IsBefore a b → j < k
places_rise ids j k a b rising first second before = by (cases_order j k)
  where
    by : (j ≡ k) ⊎ ((j < k) ⊎ (k < j)) → j < k
    by (inl same) =
        let one : a ≡ b = sym (first.1 a) ∙ ap (λ n. get_or ids n a) same ∙ second.1 a in
        absurd (not_before_itself b (subst (λ i. IsBefore i b) one before))
    by (inr (inl less)) = less
    by (inr (inr more)) =
        let up : IsBefore (get_or ids k a) (get_or ids j a) = rising k j a more first.0 in
        absurd (not_both_before a b before (subst (λ i. IsBefore i a) (second.1 a) (subst (IsBefore (get_or ids k a)) (first.1 a) up)))

-- the next sibling of a leaf stands next to it
pub next_sibling : (shape : Shape) (ids : List BlockId) (p : BlockId) (k octant : ℕ) → Tiles shape ids → All IsId ids → AllPairs IsBefore ids
    → Contains ids (child_of p (octant + 1)) → StandsAt ids k (child_of p octant) → StandsAt ids (k + 1) (child_of p (octant + 1))
next_sibling shape ids p k octant tiles named rising has here = at (at_from_Contains ids (child_of p (octant + 1)) has)
  where
    this : BlockId
    this = child_of p octant

    next : BlockId
    next = child_of p (octant + 1)

    gap : (m : ℕ) → StandsAt ids m next → k + 1 < m → ⊥
    gap m there more =
        let d : BlockId = get_or ids (k + 1) p in
        let low : IsBefore this d = subst (λ i. IsBefore i d) (here.1 p) (rising k (k + 1) p (omega arith) (omega (arith, there.0))) in
        let high : IsBefore d next = subst (IsBefore d) (there.1 p) (rising (k + 1) m p more there.0) in
        let in' : Contains ids d = Contains-get_or ids (k + 1) p (omega (arith, there.0)) in
        let same : this ≡ d =
        leaves_part shape ids this d tiles (subst (Contains ids) (here.1 p) (Contains-get_or ids k p here.0)) in' (named (k + 1) p (omega (arith, there.0)))
        (between_siblings p d octant low high) in
        not_before_itself d (subst (λ i. IsBefore i d) same low)

    by : (m : ℕ) → StandsAt ids m next → k < m → (k + 1 ≡ m) ⊎ ((k + 1 < m) ⊎ (m < k + 1)) → StandsAt ids (k + 1) next
    by m there above (inl same) = subst (λ n. StandsAt ids n next) (sym same) there
    by m there above (inr (inl more)) = absurd (gap m there more)
    by m there above (inr (inr less)) = absurd (omega arith)

    at : (m : ℕ) × (m < length ids) × ((d : BlockId) → get_or ids m d ≡ next) → StandsAt ids (k + 1) next
    at (m, below, is) = by m (below, is) (places_rise ids k m this next rising here (below, is) (sibling_before p octant)) (cases_order (k + 1) m)

-- where the eight children of a block are leaves, they stand together, by rising octant
pub siblings_stand_together : (shape : Shape) (ids : List BlockId) (p : BlockId) (k octant : ℕ) → Tiles shape ids → All IsId ids → AllPairs IsBefore ids
    → ((o : ℕ) → o < 8 → Contains ids (child_of p o)) → StandsAt ids k (child_of p 0) → octant < 8
    → StandsAt ids (k + octant) (child_of p octant)
siblings_stand_together shape ids p k zero tiles named rising eight first small =
    let place : k ≡ k + 0 = omega arith in
    subst (λ n. StandsAt ids n (child_of p 0)) place first
siblings_stand_together shape ids p k (suc octant) tiles named rising eight first small =
    let here = siblings_stand_together shape ids p k octant tiles named rising eight first (omega arith) in
    let more : octant + 1 ≡ suc octant = omega arith in
    let place : k + octant + 1 ≡ k + suc octant = omega arith in
    let next = next_sibling shape ids p (k + octant) octant tiles named rising (subst (λ o. Contains ids (child_of p o)) (sym more) (eight (suc octant) small)) here in
    subst (λ o. StandsAt ids (k + suc octant) (child_of p o)) more (subst (λ n. StandsAt ids n (child_of p (octant + 1))) place next)

-- the leaf that holds a unit stands at one place
pub one_leaf_holds : (shape : Shape) (ids : List BlockId) (v : Voxel) (j k : ℕ) (d e : BlockId) → Tiles shape ids → AllPairs IsBefore ids
    → j < length ids → k < length ids → Holds (box_of shape (get_or ids j d)) v → Holds (box_of shape (get_or ids k e)) v → j ≡ k
one_leaf_holds shape ids v j k d e tiles rising first second holds holds' =
    let same : get_or ids j d ≡ get_or ids k e =
    tiles.apart v (get_or ids j d) (get_or ids k e) (Contains-get_or ids j d first) (Contains-get_or ids k e second) holds holds' in
    one_place ids j k (get_or ids k e) rising (first, λ f. at j first f d ∙ same) (second, λ f. at k second f e)
  where
    at : (n : ℕ) → n < length ids → (f g : BlockId) → get_or ids n f ≡ get_or ids n g
    at n below f g = get_or_default ids n f g below
