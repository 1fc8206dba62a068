-- Tilings: the roots tile, and splitting and merging keep a tiling.
use Rattle.std.proofs.Common.{◌≡◌, ◌≢◌, ℕ, zero, suc, ◌<◌, true, false, cond, List, [], ◌∷◌, ◌++◌, map, ◌⊎◌, inl, inr, refl, sym, ap, subst, ◌∙◌, Contains, Decides, flat_map, if◌then◌else◌, arith, zero-add}
use Rattle.std.specs.List.{range_with_len, list_any}
use Rattle.std.proofs.lemmas.Bool.{cases_Bool, cond-true, cond-false, or_left, or_right, both_ways}
use Rattle.std.proofs.lemmas.List.Elements.{Contains-append_left, Contains-append_right, Contains-append_cases}
use Rattle.std.proofs.lemmas.List.FromFn.{length-map-range_with_len, get_or-map-range_with_len}
use Rattle.std.proofs.lemmas.Map.Views.{Contains-from_any}
use Rattle.bf_id.specs.Cube.{Voxel, Holds}
use Rattle.bf_id.specs.Shape.{IsShape, root_count, InDomain}
use Rattle.bf_id.specs.Id.{BlockId, level_of, root_id, child_of, children_of, box_of, id_eq, IsId, Begins, root_ids}
use Rattle.bf_id.specs.Tiling.{Tiles, IsBalanced, split_at, merged_at}
use Rattle.bf_id.specs.declared.shape.Shape.{Shape}
use Rattle.bf_id.proofs.Boxes.{id_eq_is_equal, parent_holds, child_holding, child_is_one, root_holding, root_is_one, begins_within, corner_of, holds_corner}
use Rattle.bf_id.proofs.Cubes.{Holds-within}

-- ---- lists

-- a list of one contains that one
pub Contains-one : {X : Type 0} (x : X) → Contains (x ∷ []) x
Contains-one x = (0, omega arith, refl)

-- what a list of one contains
pub Contains-one_cases : {X : Type 0} (x y : X) → Contains (x ∷ []) y → y ≡ x
Contains-one_cases x y (zero, below, is) = sym is
Contains-one_cases x y (suc k, below, is) = absurd (omega arith)

-- a list contains its first
pub Contains-head : {X : Type 0} (x : X) (xs : List X) → Contains (x ∷ xs) x
Contains-head x xs = (0, omega arith, refl)

-- a list contains what the rest of it contains
pub Contains-tail : {X : Type 0} (x : X) (xs : List X) (y : X) → Contains xs y → Contains (x ∷ xs) y
Contains-tail x xs y (k, below, is) = (suc k, omega arith, is)

-- what a list contains is its first, or in the rest
pub Contains-cons_cases : {X : Type 0} (x : X) (xs : List X) (y : X) → Contains (x ∷ xs) y → (y ≡ x) ⊎ Contains xs y
Contains-cons_cases x xs y (zero, below, is) = inl (sym is)
Contains-cons_cases x xs y (suc k, below, is) = inr (k, omega arith, is)

-- an empty list contains nothing
pub Contains-none : {X : Type 0} (y : X) → Contains [] y → ⊥
Contains-none y (k, below, is) = omega arith

-- a joined list contains what the list of one of its elements contains
pub Contains-flat_map : {X Y : Type 0} (f : X → List Y) (xs : List X) (x : X) (y : Y) → Contains xs x → Contains (f x) y → Contains (flat_map f xs) y
Contains-flat_map f [] x y has in' = absurd (Contains-none x has)
Contains-flat_map f (a ∷ xs) x y has in' = by (Contains-cons_cases a xs x has) (λ rest. Contains-flat_map f xs x y rest in')
  where
    by : (x ≡ a) ⊎ Contains xs x → (Contains xs x → Contains (flat_map f xs) y) → Contains (f a ++ flat_map f xs) y
    by (inl same) later = Contains-append_left (f a) (flat_map f xs) y (rw same at in')
    by (inr rest) later = Contains-append_right (f a) (flat_map f xs) y (later rest)

-- what a joined list contains is in the list of one of its elements
pub Contains-flat_map_cases : {X Y : Type 0} (f : X → List Y) (xs : List X) (y : Y) → Contains (flat_map f xs) y → (x : X) × Contains xs x × Contains (f x) y
Contains-flat_map_cases f [] y has = absurd (Contains-none y has)
Contains-flat_map_cases f (a ∷ xs) y has = by (Contains-append_cases (f a) (flat_map f xs) y has) (Contains-flat_map_cases f xs y)
  where
    by : Contains (f a) y ⊎ Contains (flat_map f xs) y → (Contains (flat_map f xs) y → (x : _) × Contains xs x × Contains (f x) y) → (x : _) × Contains (a ∷ xs) x × Contains (f x) y
    by (inl first) later = (a, Contains-head a xs, first)
    by (inr rest) later = let found = later rest in (found.0, Contains-tail a xs found.0 found.1, found.2)

-- a list made from a function of the index contains its values
pub Contains-from_fn : {X : Type 0} (f : ℕ → X) (n k : ℕ) → k < n → Contains (map f (range_with_len 0 n)) (f k)
Contains-from_fn f n k h = (k, rw (length-map-range_with_len f 0 n) h, get_or-map-range_with_len f 0 n k k (f k) h (zero-add k))

-- and nothing else
pub Contains-from_fn_cases : {X : Type 0} (f : ℕ → X) (n : ℕ) (x : X) → Contains (map f (range_with_len 0 n)) x → (k : ℕ) × (k < n) × (x ≡ f k)
Contains-from_fn_cases f n x (k, below, is) =
    let h : k < n = rw (length-map-range_with_len f 0 n) at below in
    (k, h, sym is ∙ get_or-map-range_with_len f 0 n k k x h (zero-add k))

-- an id that a list contains passes the test for it
pub any_id-from_Contains : (ids : List BlockId) (j : BlockId) → Contains ids j → list_any (id_eq j) ids ≡ true
any_id-from_Contains [] j has = absurd (Contains-none j has)
any_id-from_Contains (i ∷ ids) j has = by (Contains-cons_cases i ids j has) (any_id-from_Contains ids j)
  where
    by : (j ≡ i) ⊎ Contains ids j → (Contains ids j → list_any (id_eq j) ids ≡ true) → list_any (id_eq j) (i ∷ ids) ≡ true
    by (inl same) later = or_left (id_eq j i) (list_any (id_eq j) ids) ((id_eq_is_equal j i).1 same)
    by (inr rest) later = or_right (id_eq j i) (list_any (id_eq j) ids) (later rest)

-- that test is right
pub any_id_decides : (ids : List BlockId) (j : BlockId) → Decides (list_any (id_eq j) ids) (Contains ids j)
any_id_decides ids j = (λ is. Contains-from_any {eq = id_eq} (λ a b. (id_eq_is_equal a b).0) j ids is, any_id-from_Contains ids j)

-- ---- children

-- a child is one of the children
pub Contains-child : (i : BlockId) (o : ℕ) → o < 8 → Contains (children_of i) (child_of i o)
Contains-child i o h = Contains-from_fn (child_of i) 8 o h

-- and nothing else is
pub Contains-child_cases : (i j : BlockId) → Contains (children_of i) j → (o : ℕ) × (o < 8) × (j ≡ child_of i o)
Contains-child_cases i j has = Contains-from_fn_cases (child_of i) 8 j has

-- ---- splitting

-- what stands in the place of a leaf where the leaf i is split
abbrev split_one : BlockId → BlockId → List BlockId
split_one i j = if id_eq j i then children_of i else j ∷ []

-- how a leaf comes of a split: it was another leaf, or it is a child of the split leaf
abbrev pub ComesOfSplit : BlockId → List BlockId → BlockId → Type 0
ComesOfSplit i ids j = (Contains ids j × (j ≢ i)) ⊎ ((o : ℕ) × (o < 8) × (j ≡ child_of i o) × Contains ids i)

-- after a split the other leaves are there
pub split_kept : (i : BlockId) (ids : List BlockId) (j : BlockId) → Contains ids j → j ≢ i → Contains (split_at i ids) j
split_kept i ids j has other = Contains-flat_map (split_one i) ids j j has (by (cases_Bool (id_eq j i)))
  where
    by : (id_eq j i ≡ true) ⊎ (id_eq j i ≡ false) → Contains (split_one i j) j
    by (inl is) = absurd (other ((id_eq_is_equal j i).0 is))
    by (inr is) = rw is (Contains-one j)

-- and the leaf's children
pub split_new : (i : BlockId) (ids : List BlockId) (o : ℕ) → Contains ids i → o < 8 → Contains (split_at i ids) (child_of i o)
split_new i ids o has h =
    let is : id_eq i i ≡ true = (id_eq_is_equal i i).1 refl in
    Contains-flat_map (split_one i) ids i (child_of i o) has (rw is (Contains-child i o h))

-- and nothing else
pub split_cases : (i : BlockId) (ids : List BlockId) (j : BlockId) → Contains (split_at i ids) j → ComesOfSplit i ids j
split_cases i ids j has = of (Contains-flat_map_cases (split_one i) ids j has)
  where
    by : (x : BlockId) → Contains ids x → Contains (split_one i x) j → (id_eq x i ≡ true) ⊎ (id_eq x i ≡ false) → ComesOfSplit i ids j
    by x in' at (inl is) = inr
        (let child = Contains-child_cases i j (rw is at at) in
        (child.0, child.1, child.2, rw ((id_eq_is_equal x i).0 is) at in'))
    by x in' at (inr is) = inl
        (let same : j ≡ x = Contains-one_cases x j (rw is at at) in
        (rw same in', λ e. both_ways (id_eq x i) is ((id_eq_is_equal x i).1 (sym same ∙ e))))

    of : (x : BlockId) × Contains ids x × Contains (split_one i x) j → ComesOfSplit i ids j
    of (x, in', at) = by x in' at (cases_Bool (id_eq x i))

-- ---- merging

-- what stands in the place of a leaf where the children of p merge
abbrev merged_one : BlockId → BlockId → List BlockId
merged_one p j = if id_eq j (child_of p 0) then p ∷ [] else if list_any (id_eq j) (children_of p) then [] else j ∷ []

-- which is nothing for the later children, and the leaf for a leaf that is none of the children
merged_one-later : (p j : BlockId) → id_eq j (child_of p 0) ≡ false → list_any (id_eq j) (children_of p) ≡ true → merged_one p j ≡ []
merged_one-later p j not_first some =
    cond-false (id_eq j (child_of p 0)) (p ∷ []) (cond (list_any (id_eq j) (children_of p)) [] (j ∷ [])) not_first ∙ cond-true (list_any (id_eq j) (children_of p)) [] (j ∷ []) some

merged_one-other : (p j : BlockId) → id_eq j (child_of p 0) ≡ false → list_any (id_eq j) (children_of p) ≡ false → merged_one p j ≡ j ∷ []
merged_one-other p j not_first none =
    cond-false (id_eq j (child_of p 0)) (p ∷ []) (cond (list_any (id_eq j) (children_of p)) [] (j ∷ [])) not_first ∙ cond-false (list_any (id_eq j) (children_of p)) [] (j ∷ []) none

-- how a leaf comes of a merge: it was another leaf than the children, or it is the parent
abbrev pub ComesOfMerge : BlockId → List BlockId → BlockId → Type 0
ComesOfMerge p ids j = (Contains ids j × ((o : ℕ) → o < 8 → j ≢ child_of p o)) ⊎ ((j ≡ p) × Contains ids (child_of p 0))

-- after a merge the leaves that are none of the children are there
pub merged_kept : (p : BlockId) (ids : List BlockId) (j : BlockId) → Contains ids j → ((o : ℕ) → o < 8 → j ≢ child_of p o) → Contains (merged_at p ids) j
merged_kept p ids j has other =
    Contains-flat_map (merged_one p) ids j j has (by (cases_Bool (id_eq j (child_of p 0))) (cases_Bool (list_any (id_eq j) (children_of p))))
  where
    by : (id_eq j (child_of p 0) ≡ true) ⊎ (id_eq j (child_of p 0) ≡ false) → (list_any (id_eq j) (children_of p) ≡ true) ⊎ (list_any (id_eq j) (children_of p) ≡ false) → Contains (merged_one p j) j
    by (inl first) any = absurd (other 0 (omega arith) ((id_eq_is_equal j (child_of p 0)).0 first))
    by (inr not_first) (inl some) = absurd
        (let child = Contains-child_cases p j ((any_id_decides (children_of p) j).0 some) in other child.0 child.1 child.2)
    by (inr not_first) (inr none) = subst (λ (xs : List BlockId). Contains xs j) (sym (merged_one-other p j not_first none)) (Contains-one j)

-- and the parent
pub merged_new : (p : BlockId) (ids : List BlockId) → Contains ids (child_of p 0) → Contains (merged_at p ids) p
merged_new p ids has =
    let is : id_eq (child_of p 0) (child_of p 0) ≡ true = (id_eq_is_equal (child_of p 0) (child_of p 0)).1 refl in
    Contains-flat_map (merged_one p) ids (child_of p 0) p has (rw is (Contains-one p))

-- and nothing else
pub merged_cases : (p : BlockId) (ids : List BlockId) (j : BlockId) → Contains (merged_at p ids) j → ComesOfMerge p ids j
merged_cases p ids j has = of (Contains-flat_map_cases (merged_one p) ids j has)
  where
    by : (x : BlockId) → Contains ids x → Contains (merged_one p x) j → (id_eq x (child_of p 0) ≡ true) ⊎ (id_eq x (child_of p 0) ≡ false) → (list_any (id_eq x) (children_of p) ≡ true) ⊎ (list_any (id_eq x) (children_of p) ≡ false) → ComesOfMerge p ids j
    by x in' at (inl first) any = inr
        (Contains-one_cases p j (rw first at at), rw ((id_eq_is_equal x (child_of p 0)).0 first) at in')
    by x in' at (inr not_first) (inl some) = absurd (Contains-none j (subst (λ (xs : List BlockId). Contains xs j) (merged_one-later p x not_first some) at))
    by x in' at (inr not_first) (inr none) = inl
        (let same : j ≡ x = Contains-one_cases x j (subst (λ (xs : List BlockId). Contains xs j) (merged_one-other p x not_first none) at) in (
          rw same in',
          λ o h e. both_ways (list_any (id_eq x) (children_of p)) none
              (any_id-from_Contains (children_of p) x (rw (sym same ∙ e) (Contains-child p o h))),
        ))

    of : (x : BlockId) × Contains ids x × Contains (merged_one p x) j → ComesOfMerge p ids j
    of (x, in', at) = by x in' at (cases_Bool (id_eq x (child_of p 0))) (cases_Bool (list_any (id_eq x) (children_of p)))

-- ---- tilings

-- the roots tile the domain
pub roots_Tiles : (shape : Shape) → IsShape shape → Tiles shape (root_ids shape)
roots_Tiles shape is = record { covered = covered; apart = apart }
  where
    covered : (v : Voxel) → InDomain shape v → (i : BlockId) × Contains (root_ids shape) i × Holds (box_of shape i) v
    covered v in' =
        let root = root_holding shape v in' in
        (root_id root.0, Contains-from_fn root_id (root_count shape) root.0 root.2, root.3)

    apart : (v : Voxel) (i j : BlockId) → Contains (root_ids shape) i → Contains (root_ids shape) j → Holds (box_of shape i) v → Holds (box_of shape j) v → i ≡ j
    apart v i j p q h k =
        let a = Contains-from_fn_cases root_id (root_count shape) i p in
        let b = Contains-from_fn_cases root_id (root_count shape) j q in
        let same : a.0 ≡ b.0 = root_is_one shape a.0 b.0 v (rw a.2 at h) (rw b.2 at k) in
        a.2 ∙ ap root_id same ∙ sym b.2

-- and are balanced
pub roots_IsBalanced : (shape : Shape) → IsBalanced shape (root_ids shape)
roots_IsBalanced shape i j p q touch =
    let a = Contains-from_fn_cases root_id (root_count shape) i p in
    let level : level_of i ≡ 0 = ap level_of a.2 in
    omega arith

-- a split keeps a tiling
pub split_Tiles : (shape : Shape) (ids : List BlockId) (i : BlockId) → Tiles shape ids → Contains ids i → level_of i < 4 → Tiles shape (split_at i ids)
split_Tiles shape ids i tiles has high = record { covered = covered; apart = apart }
  where
    place : (v : Voxel) (j : BlockId) → Contains ids j → Holds (box_of shape j) v → (id_eq j i ≡ true) ⊎ (id_eq j i ≡ false) → (k : BlockId) × Contains (split_at i ids) k × Holds (box_of shape k) v
    place v j in' holds (inl is) =
        let child = child_holding shape i v high (rw ((id_eq_is_equal j i).0 is) at holds) in
        (child_of i child.0, split_new i ids child.0 has child.1, child.2)
    place v j in' holds (inr is) = (j, split_kept i ids j in' (λ e. both_ways (id_eq j i) is ((id_eq_is_equal j i).1 e)), holds)

    covered : (v : Voxel) → InDomain shape v → (k : BlockId) × Contains (split_at i ids) k × Holds (box_of shape k) v
    covered v in' = let old = tiles.covered v in' in place v old.0 old.1 old.2 (cases_Bool (id_eq old.0 i))

    by : (v : Voxel) (j k : BlockId) → ComesOfSplit i ids j → ComesOfSplit i ids k → Holds (box_of shape j) v → Holds (box_of shape k) v → j ≡ k
    by v j k (inl (p, other)) (inl (q, other')) h h' = tiles.apart v j k p q h h'
    by v j k (inl (p, other)) (inr (o, below, is, in')) h h' =
        absurd (other (tiles.apart v j i p has h (parent_holds shape i o v below (rw is at h'))))
    by v j k (inr (o, below, is, in')) (inl (q, other)) h h' =
        absurd (other (tiles.apart v k i q has h' (parent_holds shape i o v below (rw is at h))))
    by v j k (inr (o, below, is, in')) (inr (o', below', is', in'')) h h' =
        is ∙ ap (child_of i) (child_is_one shape i v o o' below below' (rw is at h) (rw is' at h')) ∙ sym is'

    apart : (v : Voxel) (j k : BlockId) → Contains (split_at i ids) j → Contains (split_at i ids) k → Holds (box_of shape j) v → Holds (box_of shape k) v → j ≡ k
    apart v j k p q h h' = by v j k (split_cases i ids j p) (split_cases i ids k q) h h'

-- a merge keeps a tiling
pub merged_Tiles : (shape : Shape) (ids : List BlockId) (p : BlockId) → Tiles shape ids → ((o : ℕ) → o < 8 → Contains ids (child_of p o)) → level_of p < 4 → Tiles shape (merged_at p ids)
merged_Tiles shape ids p tiles eight high = record { covered = covered; apart = apart }
  where
    place : (v : Voxel) (j : BlockId) → Contains ids j → Holds (box_of shape j) v → (list_any (id_eq j) (children_of p) ≡ true) ⊎ (list_any (id_eq j) (children_of p) ≡ false) → (k : BlockId) × Contains (merged_at p ids) k × Holds (box_of shape k) v
    place v j in' holds (inl some) =
        let child = Contains-child_cases p j ((any_id_decides (children_of p) j).0 some) in
        (p, merged_new p ids (eight 0 (omega arith)), parent_holds shape p child.0 v child.1 (rw child.2 at holds))
    place v j in' holds (inr none) = (
      j,
      merged_kept p ids j in' (λ o h e. both_ways (list_any (id_eq j) (children_of p)) none
          (any_id-from_Contains (children_of p) j (rw e (Contains-child p o h)))),
      holds,
    )

    covered : (v : Voxel) → InDomain shape v → (k : BlockId) × Contains (merged_at p ids) k × Holds (box_of shape k) v
    covered v in' = let old = tiles.covered v in' in place v old.0 old.1 old.2 (cases_Bool (list_any (id_eq old.0) (children_of p)))

    lost : (v : Voxel) (j : BlockId) → Contains ids j → ((o : ℕ) → o < 8 → j ≢ child_of p o) → Holds (box_of shape j) v → Holds (box_of shape p) v → ⊥
    lost v j in' other h h' =
        let child = child_holding shape p v high h' in
        other child.0 child.1 (tiles.apart v j (child_of p child.0) in' (eight child.0 child.1) h child.2)

    by : (v : Voxel) (j k : BlockId) → ComesOfMerge p ids j → ComesOfMerge p ids k → Holds (box_of shape j) v → Holds (box_of shape k) v → j ≡ k
    by v j k (inl (a, other)) (inl (b, other')) h h' = tiles.apart v j k a b h h'
    by v j k (inl (a, other)) (inr (is, first)) h h' = absurd (lost v j a other h (rw is at h'))
    by v j k (inr (is, first)) (inl (b, other)) h h' = absurd (lost v k b other h' (rw is at h))
    by v j k (inr (is, first)) (inr (is', first')) h h' = is ∙ sym is'

    apart : (v : Voxel) (j k : BlockId) → Contains (merged_at p ids) j → Contains (merged_at p ids) k → Holds (box_of shape j) v → Holds (box_of shape k) v → j ≡ k
    apart v j k a b h h' = by v j k (merged_cases p ids j a) (merged_cases p ids k b) h h'

-- of two leaves of a tiling neither begins the other
pub leaves_part : (shape : Shape) (ids : List BlockId) (i j : BlockId) → Tiles shape ids → Contains ids i → Contains ids j → IsId j → Begins i j → i ≡ j
leaves_part shape ids i j tiles p q is begins =
    let inside = holds_corner shape j is.shallow in
    tiles.apart (corner_of (box_of shape j)) i j p q (Holds-within (box_of shape j) (box_of shape i) (corner_of (box_of shape j)) (begins_within shape i j is begins) inside) inside
