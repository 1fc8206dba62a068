-- Filters, and lists in which some element passes a test.
use Rattle.std.proofs.Common.{◌≡◌, ℕ, zero, suc, ◌+◌, ◌<◌, ◌≤◌, Bool, true, false, cond, ◌&&◌, ◌||◌, List, [], ◌∷◌, filter, length, arith, refl, ◌∙◌, ap, inl, inr}
use Rattle.std.specs.Prelude.{◌==◌}
use Rattle.std.proofs.lemmas.Bool.{cases_eq, eq-eqb, or_right, and_parts}
use Rattle.bf_buddy.specs.Members.{is_member}
use Rattle.std.specs.List.{range_with_len, list_any, list_all}
use Rattle.std.proofs.Math.ListN.{get_or}

pub filter_same : {X : Type 0} (p q : X → Bool) (xs : List X) → ((x : X) → p x ≡ q x) → filter p xs ≡ filter q xs
filter_same p q [] same = refl
filter_same p q (x ∷ xs) same = rw (same x, filter_same p q xs same) refl

pub filter_range : (p : ℕ → Bool) (k n : ℕ) → ((r : ℕ) → k ≤ r → r < k + n → p r ≡ true) → filter p (range_with_len k n) ≡ range_with_len k n
filter_range p k zero passes = refl
filter_range p k (suc n) passes =
    let here : p k ≡ true = passes k (omega arith) (omega arith) in
    let later : filter p (range_with_len (k + 1) n) ≡ range_with_len (k + 1) n = filter_range p (k + 1) n (λ r from below. passes r (omega arith) (omega arith)) in
    rw (here, later) refl

-- an element that passes a test, where some does
pub found : {X : Type 0} (test : X → Bool) (xs : List X) (d : X) → list_any test xs ≡ true → (i : ℕ) × ((i < length xs) × (test (get_or xs i d) ≡ true))
found test [] d some = absurd (cc)
found {X = X} test (x ∷ xs) d some = at_first (λ later. found test xs d later) (test x) refl some
  where
    at_first : (list_any test xs ≡ true → (i : ℕ) × ((i < length xs) × (test (get_or xs i d) ≡ true))) → (b : Bool) → test x ≡ b → (b || list_any test xs) ≡ true
        → (i : ℕ) × ((i < length (x ∷ xs)) × (test (get_or (x ∷ xs) i d) ≡ true))
    at_first rest true passes _ = (0, (omega arith, passes))
    at_first rest false fails later = let there = rest later in (suc there.0, (omega (arith, there.1.0), there.1.1))

-- where no element passes, none does at any place
pub none_at : {X : Type 0} (test : X → Bool) (xs : List X) (i : ℕ) (d : X) → test d ≡ false → list_any test xs ≡ false → test (get_or xs i d) ≡ false
none_at test [] i d default none = default
none_at test (x ∷ xs) zero d default none = first_fails (test x) (list_any test xs) none
  where
    first_fails : (a b : Bool) → (a || b) ≡ false → a ≡ false
    first_fails true b fails = fails
    first_fails false b fails = refl
none_at test (x ∷ xs) (suc i) d default none = none_at test xs i d default (rest_fails (test x) (list_any test xs) none)
  where
    rest_fails : (a b : Bool) → (a || b) ≡ false → b ≡ false
    rest_fails true b fails = absurd (cc)
    rest_fails false b fails = fails

-- where all elements pass, each does at any place
pub all_at : {X : Type 0} (test : X → Bool) (xs : List X) (i : ℕ) (d : X) → test d ≡ true → list_all test xs ≡ true → test (get_or xs i d) ≡ true
all_at test [] i d default all = default
all_at test (x ∷ xs) zero d default all = (and_parts (test x) (list_all test xs) all).0
all_at test (x ∷ xs) (suc i) d default all = all_at test xs i d default (and_parts (test x) (list_all test xs) all).1

-- who passes a test is among those of a range that do
pub in_filtered : (p : ℕ → Bool) (k n y : ℕ) → k ≤ y → y < k + n → p y ≡ true → is_member (filter p (range_with_len k n)) y ≡ true
in_filtered p k zero y from below passes = absurd (omega arith)
in_filtered p k (suc n) y from below passes = elim (cases_eq k y) [
  | inl e ↦ here (p k) (k == y) (ap p e ∙ passes) (eq-eqb k y e)
  | inr differs ↦ later (p k) (k == y) (in_filtered p (k + 1) n y (omega (arith, differs)) (omega arith) passes)
]
  where
    here : (b c : Bool) → b ≡ true → (k == y) ≡ true → is_member (cond b (k ∷ filter p (range_with_len (k + 1) n)) (filter p (range_with_len (k + 1) n))) y ≡ true
    here true c _ same = rw same refl
    here false c fails same = absurd (cc)

    later : (b c : Bool) → is_member (filter p (range_with_len (k + 1) n)) y ≡ true
        → is_member (cond b (k ∷ filter p (range_with_len (k + 1) n)) (filter p (range_with_len (k + 1) n))) y ≡ true
    later true c rest = or_right (k == y) _ rest
    later false c rest = rest

-- an element that fails a test, where not all pass
pub fails_at : {X : Type 0} (test : X → Bool) (xs : List X) (d : X) → list_all test xs ≡ false → (i : ℕ) × ((i < length xs) × (test (get_or xs i d) ≡ false))
fails_at test [] d fails = absurd (cc)
fails_at {X = X} test (x ∷ xs) d fails = at_first (λ later. fails_at test xs d later) (test x) refl fails
  where
    at_first : (list_all test xs ≡ false → (i : ℕ) × ((i < length xs) × (test (get_or xs i d) ≡ false))) → (b : Bool) → test x ≡ b → (b && list_all test xs) ≡ false
        → (i : ℕ) × ((i < length (x ∷ xs)) × (test (get_or (x ∷ xs) i d) ≡ false))
    at_first rest false failed _ = (0, (omega arith, failed))
    at_first rest true passed later = let there = rest later in (suc there.0, (omega (arith, there.1.0), there.1.1))
