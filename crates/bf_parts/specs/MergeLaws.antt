-- Parts rise, and parts of two owners merged are the items of both in their order.
use Rattle.std.proofs.Common.{◌≡◌, ◌≢◌, ℕ, Bool, true, false, cond, List, [], ◌∷◌, map, refl, ap, ◌∙◌, arith, suc}
use Rattle.std.specs.Prelude.{◌==◌, ◌||◌, filter, All, AllPairs}
use Rattle.std.proofs.lemmas.Bool.Decides.{nat_tests}
use Rattle.std.proofs.lemmas.List.Kept.{AllPairs-cons, AllPairs-filter}
use Rattle.std.proofs.lemmas.List.Elements.{All-nil, All-cons, All-head, All-tail}
use Rattle.bf_parts.specs.Leaves.{Kind, Leaves, AreLeaves, part_of}
use Rattle.bf_parts.specs.Merges.{placed, merged}

-- what later keys are to a first one
pub first_pairs : {K : Type 0} (R : K → K → Type 0) (k : K) (ks : List K) → AllPairs R (k ∷ ks) → All (R k) ks
first_pairs R k ks pairs = λ j d within. pairs 0 (suc j) d (omega arith) (omega arith)

pub rest_pairs : {K : Type 0} (R : K → K → Type 0) (k : K) (ks : List K) → AllPairs R (k ∷ ks) → AllPairs R ks
rest_pairs R k ks pairs = λ i j d below within. pairs (suc i) (suc j) d (omega arith) (omega arith)

module _ {I : Type 0} (first : I → I → Bool) where
  -- an item that comes before all others
  placed_first : (x : I) (rest : List I → List I) (ys : List I) → All (λ y. first x y ≡ true) ys → placed first x rest ys ≡ x ∷ rest ys
  placed_first x rest [] all = refl
  placed_first x rest (y ∷ ys) all = ap (λ b. cond b (x ∷ rest (y ∷ ys)) (y ∷ placed first x rest ys)) (All-head (λ y. first x y ≡ true) y ys all)

  -- one that comes before all of the first list
  merged_after : (y : I) (xs ys : List I) → All (λ x. first x y ≡ false) xs → merged first xs (y ∷ ys) ≡ y ∷ merged first xs ys
  merged_after y [] ys all = refl
  merged_after y (x ∷ xs) ys all =
      ap (λ b. cond b (x ∷ merged first xs (y ∷ ys)) (y ∷ placed first x (merged first xs) ys)) (All-head (λ x. first x y ≡ false) x xs all)

-- that the first of two items comes first, and the second doesn't
abbrev pub Precedes : {K I : Type 0} → (first : I → I → Bool) → (item : K → I) → K → K → Type 0
Precedes first item i j = (first (item i) (item j) ≡ true) × (first (item j) (item i) ≡ false)

module _ {K I : Type 0} (first : I → I → Bool) (item : K → I) where
  all_after : (k : K) (p : K → Bool) (ks : List K) → All (Precedes first item k) ks → All (λ y. first (item k) y ≡ true) (map item (filter p ks))
  all_after k p [] all = All-nil (λ y. first (item k) y ≡ true)
  all_after k p (j ∷ ks) all = at (p j) (all_after k p ks (All-tail (Precedes first item k) j ks all))
    where
      at : (b : Bool) → All (λ y. first (item k) y ≡ true) (map item (filter p ks)) → All (λ y. first (item k) y ≡ true) (map item (cond b (j ∷ filter p ks) (filter p ks)))
      at true later = All-cons (λ y. first (item k) y ≡ true) (item j) (map item (filter p ks)) (All-head (Precedes first item k) j ks all).0 later
      at false later = later

  all_before : (k : K) (p : K → Bool) (ks : List K) → All (Precedes first item k) ks → All (λ y. first y (item k) ≡ false) (map item (filter p ks))
  all_before k p [] all = All-nil (λ y. first y (item k) ≡ false)
  all_before k p (j ∷ ks) all = at (p j) (all_before k p ks (All-tail (Precedes first item k) j ks all))
    where
      at : (b : Bool) → All (λ y. first y (item k) ≡ false) (map item (filter p ks)) → All (λ y. first y (item k) ≡ false) (map item (cond b (j ∷ filter p ks) (filter p ks)))
      at true later = All-cons (λ y. first y (item k) ≡ false) (item j) (map item (filter p ks)) (All-head (Precedes first item k) j ks all).1 later
      at false later = later

  -- of keys in rising order, those that pass one test or another
  pub merged_is : (p q : K → Bool) → ((k : K) → p k ≡ true → q k ≡ false) → (ks : List K) → AllPairs (Precedes first item) ks
      → merged first (map item (filter p ks)) (map item (filter q ks)) ≡ map item (filter (λ k. p k || q k) ks)
  merged_is p q apart [] rising = refl
  merged_is p q apart (k ∷ ks) rising = at (p k) (q k) (apart k) (merged_is p q apart ks (rest_pairs (Precedes first item) k ks rising))
    where
      after : All (Precedes first item k) ks
      after = first_pairs (Precedes first item) k ks rising

      at : (a b : Bool) → (a ≡ true → b ≡ false) → merged first (map item (filter p ks)) (map item (filter q ks)) ≡ map item (filter (λ k. p k || q k) ks)
          → merged first (map item (cond a (k ∷ filter p ks) (filter p ks))) (map item (cond b (k ∷ filter q ks) (filter q ks)))
          ≡ map item (cond (a || b) (k ∷ filter (λ k. p k || q k) ks) (filter (λ k. p k || q k) ks))
      at true true alone later = absurd (let e : true ≡ false = alone refl in cc)
      at true false alone later = placed_first first (item k) (merged first (map item (filter p ks))) (map item (filter q ks)) (all_after k q ks after)
          ∙ ap (λ rest. item k ∷ rest) later
      at false true alone later = merged_after first (item k) (map item (filter p ks)) (map item (filter q ks)) (all_before k p ks after)
          ∙ ap (λ rest. item k ∷ rest) later
      at false false alone later = later

-- parts rise
pairs_mapped : {K I : Type 0} (R : I → I → Type 0) (f : K → I) (ks : List K) → AllPairs (λ i j. R (f i) (f j)) ks → AllPairs R (map f ks)
pairs_mapped R f [] pairs = λ i j d below within. absurd (omega arith)
pairs_mapped {K = K} R f (k ∷ ks) pairs =
    AllPairs-cons R (f k) (map f ks) (all_mapped ks (first_pairs (λ i j. R (f i) (f j)) k ks pairs)) (pairs_mapped R f ks (rest_pairs (λ i j. R (f i) (f j)) k ks pairs))
  where
    all_mapped : (js : List K) → All (λ j. R (f k) (f j)) js → All (R (f k)) (map f js)
    all_mapped [] all = All-nil (R (f k))
    all_mapped (j ∷ js) all = All-cons (R (f k)) (f j) (map f js) (All-head (λ j. R (f k) (f j)) j js all) (all_mapped js (All-tail (λ j. R (f k) (f j)) j js all))

pub part_rises : {K I : Type 0} (kind : Kind I) (leaves : Leaves K I) (owner : K → ℕ) (rank : ℕ) → AreLeaves kind leaves → AllPairs (Precedes kind.first (λ item. item)) (part_of leaves owner rank)
unfolding part_of
part_rises kind leaves owner rank are =
    pairs_mapped (Precedes kind.first (λ item. item)) (leaves.item owner) (filter (λ key. owner key == rank) leaves.keys)
    (AllPairs-filter (Precedes kind.first (leaves.item owner)) (λ key. owner key == rank) leaves.keys (are.rising owner))

other : (k a b : ℕ) → a ≢ b → (k == a) ≡ true → (k == b) ≡ false
other k a b apart its = grind (arith, nat_tests, apart)

-- two parts, merged, are the items of both in their order
pub parts_merged : {K I : Type 0} (kind : Kind I) (leaves : Leaves K I) (owner : K → ℕ) (a b : ℕ) → AreLeaves kind leaves → a ≢ b
    → merged kind.first (part_of leaves owner a) (part_of leaves owner b) ≡ map (leaves.item owner) (filter (λ key. owner key == a || owner key == b) leaves.keys)
unfolding part_of
parts_merged kind leaves owner a b are apart =
    merged_is kind.first (leaves.item owner) (λ key. owner key == a) (λ key. owner key == b) (λ key its. other (owner key) a b apart its) leaves.keys (are.rising owner)
