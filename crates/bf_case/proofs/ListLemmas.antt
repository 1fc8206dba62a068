-- Lists: what a map and a search give.
use Rattle.std.proofs.Common.{◌≡◌, ℕ, suc, ◌<◌, Bool, true, false, List, [], ◌∷◌, ◌++◌, get_or, map, flat_map, Some, subst, zero-add, ◌⊎◌, inl, inr, Contains, refl, sym, ap, ◌∙◌, arith, All}
use Rattle.std.specs.Prelude.{find, AllPairs}
use Rattle.std.specs.List.{range_with_len}
use Rattle.std.proofs.lemmas.List.FromFn.{length-map-range_with_len, get_or-map-range_with_len}
use Rattle.std.specs.Option.{option_map_or}
use Rattle.std.proofs.lemmas.Bool.{cases_Bool, cond-true, cond-false, both_ways}
use Rattle.std.proofs.lemmas.List.{length-map, get_or-map}
use Rattle.std.proofs.lemmas.List.Elements.{All-nil, All-append, All-head, All-tail, Contains-get_or}
use Rattle.std.proofs.lemmas.List.Kept.{AllPairs-cons}
use Rattle.bf_id.proofs.Rising.{AllPairs-nil}
use Rattle.bf_id.proofs.Tilings.{Contains-head, Contains-tail, Contains-cons_cases, Contains-none, Contains-flat_map_cases}

pub Contains-map : {X Y : Type 0} (f : X → Y) (xs : List X) (x : X) → Contains xs x → Contains (map f xs) (f x)
Contains-map f xs x (k, below, is) = (k, omega (arith, length-map xs f, below), get_or-map f xs k x (f x) below ∙ ap f is)

-- what a map of a list contains is the value of one of its elements
pub Contains-map_cases : {X Y : Type 0} (f : X → Y) (xs : List X) (y : Y) → Contains (map f xs) y → (x : X) × Contains xs x × (y ≡ f x)
Contains-map_cases f [] y has = absurd (Contains-none y has)
Contains-map_cases f (x ∷ xs) y has = by (Contains-cons_cases (f x) (map f xs) y has) (Contains-map_cases f xs y)
  where
    by : (y ≡ f x) ⊎ Contains (map f xs) y → (Contains (map f xs) y → (z : _) × Contains xs z × (y ≡ f z)) → (z : _) × Contains (x ∷ xs) z × (y ≡ f z)
    by (inl same) later = (x, Contains-head x xs, same)
    by (inr rest) later = let found = later rest in (found.0, Contains-tail x xs found.0 found.1, found.2)

-- the only element that passes a test is the one that is found
pub find_only : {X : Type 0} (test : X → Bool) (xs : List X) (x : X) → Contains xs x → test x ≡ true
    → ((y : X) → Contains xs y → test y ≡ true → y ≡ x) → find test xs ≡ Some x
find_only test [] x has is only = absurd (Contains-none x has)
find_only test (y ∷ xs) x has is only =
    by (cases_Bool (test y)) (λ rest. find_only test xs x rest is (λ z in'. only z (Contains-tail y xs z in')))
  where
    by : (test y ≡ true) ⊎ (test y ≡ false) → (Contains xs x → find test xs ≡ Some x) → find test (y ∷ xs) ≡ Some x
    by (inl passed) later =
        cond-true (test y) (Some y) (find test xs) passed ∙ ap (λ z. Some z) (only y (Contains-head y xs) passed)
    by (inr failed) later =
        cond-false (test y) (Some y) (find test xs) failed ∙ later (rest (Contains-cons_cases y xs x has))
      where
        rest : (x ≡ y) ⊎ Contains xs x → Contains xs x
        rest (inl same) = absurd (both_ways (test y) failed (rw same at is))
        rest (inr in') = in'

-- what is true of each element's value and of the default is true of what is found
pub option_map_or-find : {X : Type 0} (P : ℕ → Type 0) (f : X → ℕ) (test : X → Bool) (xs : List X) (d : ℕ)
    → All (λ x. P (f x)) xs → P d → P (option_map_or f (find test xs) d)
option_map_or-find P f test [] d each last = last
option_map_or-find P f test (x ∷ xs) d each last =
    by (cases_Bool (test x)) (option_map_or-find P f test xs d (All-tail (λ x. P (f x)) x xs each) last)
  where
    by : (test x ≡ true) ⊎ (test x ≡ false) → P (option_map_or f (find test xs) d) → P (option_map_or f (find test (x ∷ xs)) d)
    by (inl passed) later = rw passed (All-head (λ x. P (f x)) x xs each)
    by (inr failed) later = rw failed later

-- a flat map that gives each element back
pub flat_map_same : {X : Type 0} (f : X → List X) (xs : List X) → All (λ x. f x ≡ x ∷ []) xs → flat_map f xs ≡ xs
flat_map_same f [] each = refl
flat_map_same f (x ∷ xs) each =
    let first : f x ≡ x ∷ [] = All-head (λ x. f x ≡ x ∷ []) x xs each in
    let rest : flat_map f xs ≡ xs = flat_map_same f xs (All-tail (λ x. f x ≡ x ∷ []) x xs each) in
    ap (λ ys. ys ++ flat_map f xs) first ∙ ap (λ ys. x ∷ ys) rest

-- what is true of a function's value at each number below n
pub All-from_fn : {X : Type 0} (P : X → Type 0) (f : ℕ → X) (n : ℕ) → ((k : ℕ) → k < n → P (f k)) → All P (map f (range_with_len 0 n))
All-from_fn P f n each k d h =
    let below : k < n = omega (arith, length-map-range_with_len f 0 n, h) in
    subst P (sym (get_or-map-range_with_len f 0 n k k d below (zero-add k))) (each k below)

-- what is true of its values at each two
pub AllPairs-from_fn : {X : Type 0} (R : X → X → Type 0) (f : ℕ → X) (n : ℕ) → ((k l : ℕ) → k < l → R (f k) (f l)) → AllPairs R (map f (range_with_len 0 n))
AllPairs-from_fn R f n each k l d less h =
    let below : l < n = omega (arith, length-map-range_with_len f 0 n, h) in
    subst (λ x. R x (get_or (map f (range_with_len 0 n)) l d)) (sym (get_or-map-range_with_len f 0 n k k d (omega arith) (zero-add k)))
    (subst (R (f k)) (sym (get_or-map-range_with_len f 0 n l l d below (zero-add l))) (each k l less))

-- ---- each element and each later one

pub AllPairs-one : {X : Type 0} (R : X → X → Type 0) (x : X) → AllPairs R (x ∷ [])
AllPairs-one R x = AllPairs-cons R x [] (All-nil (R x)) (AllPairs-nil R)

-- each element of the first list with each of the second
abbrev pub AllBefore : {X : Type 0} → (X → X → Type 0) → List X → List X → Type 0
AllBefore {X} R xs ys = (x y : X) → Contains xs x → Contains ys y → R x y

pub AllPairs-append : {X : Type 0} (R : X → X → Type 0) (xs ys : List X) → AllPairs R xs → AllPairs R ys → AllBefore R xs ys → AllPairs R (xs ++ ys)
AllPairs-append R [] ys first second between = second
AllPairs-append R (x ∷ xs) ys first second between =
    let ahead : All (R x) xs = λ k d below. first 0 (suc k) d (omega arith) (omega arith) in
    let across : All (R x) ys = λ k d below. between x (get_or ys k d) (Contains-head x xs) (Contains-get_or ys k d below) in
    AllPairs-cons R x (xs ++ ys) (All-append (R x) xs ys ahead across)
    (AllPairs-append R xs ys (λ k l d less below. first (suc k) (suc l) d (omega arith) (omega arith)) second (λ a b has. between a b (Contains-tail x xs a has)))

-- joined lists, each of which is in order, and which are in order with each other
pub AllPairs-flat_map : {X Y : Type 0} (R : Y → Y → Type 0) (f : X → List Y) (xs : List X) → ((x : X) → AllPairs R (f x))
    → AllPairs (λ x y. AllBefore R (f x) (f y)) xs → AllPairs R (flat_map f xs)
AllPairs-flat_map R f [] each pairs = AllPairs-nil R
AllPairs-flat_map {X} R f (x ∷ xs) each pairs =
    AllPairs-append R (f x) (flat_map f xs) (each x) (AllPairs-flat_map R f xs each (λ k l d less below. pairs (suc k) (suc l) d (omega arith) (omega arith)))
    (λ a b has has'. let from = Contains-flat_map_cases f xs b has' in later a b from.0 from.1 has from.2)
  where
    later : (a b : _) (y : X) → Contains xs y → Contains (f x) a → Contains (f y) b → R a b
    later a b y (k, below, is) has has' =
        pairs 0 (suc k) y (omega arith) (omega arith) a b has (subst (λ z. Contains (f z) b) (sym is) has')
