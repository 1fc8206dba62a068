-- Facts about lists of anything.
use Rattle.std.proofs.Common.{◌≡◌, ℕ, ◌+◌, ◌++◌, Bool, true, false, cond, List, [], ◌∷◌, arith, refl, ap, sym, ◌∙◌}
use Rattle.std.specs.Prelude.{All, Contains, filter, map, ◌||◌, ◌&&◌}
use Rattle.std.specs.List.{range_with_len, list_any}
use Rattle.std.proofs.lemmas.Bool.{and_parts, and_from, or_right}
use Rattle.std.proofs.lemmas.List.Elements.{All-weaker, All-contains_itself, All-head, All-tail}
use Rattle.std.proofs.lemmas.List.{map-append, map-id, append-nil}
use Rattle.std.proofs.lemmas.Simd.{map-map}
use Rattle.std.proofs.lemmas.List.FromFn.{filter_of_map_range_with_len_more}

-- what holds of each element holds of all
pub All-from_Contains : {X : Type 0} (P : X → Type 0) (xs : List X) → ((x : X) → Contains xs x → P x) → All P xs
All-from_Contains P xs each = All-weaker (Contains xs) P each xs (All-contains_itself xs)

-- maps by functions that agree, everywhere or at the elements
pub map_alike : {X Y : Type 0} (f g : X → Y) (xs : List X) → ((x : X) → f x ≡ g x) → map f xs ≡ map g xs
map_alike f g xs same = λ i. map (λ x. same x i) xs

pub map_each : {X Y : Type 0} (f g : X → Y) (xs : List X) → All (λ x. f x ≡ g x) xs → map f xs ≡ map g xs
map_each f g [] same = refl
map_each {Y = Y} f g (x ∷ xs) same =
    ap (λ (y : Y). y ∷ map f xs) (All-head (λ x. f x ≡ g x) x xs same) ∙ ap (λ (ys : List Y). g x ∷ ys) (map_each f g xs (All-tail (λ x. f x ≡ g x) x xs same))

-- a map of a map
pub map_twice : {X Y Z : Type 0} (f : Y → Z) (g : X → Y) (h : X → Z) → ((x : X) → f (g x) ≡ h x) → (xs : List X) → map f (map g xs) ≡ map h xs
map_twice f g h same xs = map-map f g xs ∙ map_alike (λ x. f (g x)) h xs same

-- filters by tests that agree at the elements
pub filter_alike : {X : Type 0} (P : X → Type 0) (p q : X → Bool) → ((x : X) → P x → p x ≡ q x) → (xs : List X) → All P xs → filter p xs ≡ filter q xs
filter_alike P p q same [] all = refl
filter_alike P p q same (x ∷ xs) all =
    ap (λ b. cond b (x ∷ filter p xs) (filter p xs)) (same x (All-head P x xs all))
    ∙ ap (λ rest. cond (q x) (x ∷ rest) rest) (filter_alike P p q same xs (All-tail P x xs all))

-- a filter of what the elements are mapped to
pub filter_mapped : {X Y : Type 0} (p : Y → Bool) (f : X → Y) (xs : List X) → filter p (map f xs) ≡ map f (filter (λ x. p (f x)) xs)
filter_mapped p f [] = refl
filter_mapped {X = X} {Y = Y} p f (x ∷ xs) = at (p (f x)) (filter_mapped p f xs)
  where
    at : (b : Bool) → filter p (map f xs) ≡ map f (filter (λ x. p (f x)) xs)
        → cond b (f x ∷ filter p (map f xs)) (filter p (map f xs)) ≡ map f (cond b (x ∷ filter (λ x. p (f x)) xs) (filter (λ x. p (f x)) xs))
    at true later = ap (λ (ys : List Y). f x ∷ ys) later
    at false later = later

-- a filter of a filter
pub filter_twice : {X : Type 0} (p q : X → Bool) (xs : List X) → filter p (filter q xs) ≡ filter (λ x. q x && p x) xs
filter_twice p q [] = refl
filter_twice {X = X} p q (x ∷ xs) = at (q x) (filter_twice p q xs)
  where
    at : (b : Bool) → filter p (filter q xs) ≡ filter (λ x. q x && p x) xs
        → filter p (cond b (x ∷ filter q xs) (filter q xs)) ≡ cond (b && p x) (x ∷ filter (λ x. q x && p x) xs) (filter (λ x. q x && p x) xs)
    at true later = ap (λ (ys : List X). cond (p x) (x ∷ ys) ys) later
    at false later = later

-- pairs that are put together again
pub same_pairs : {X Y : Type 0} (pairs : List (X × Y)) → map (λ p. (p.0, p.1)) pairs ≡ pairs
same_pairs [] = refl
same_pairs (p ∷ pairs) = ap (λ rest. p ∷ rest) (same_pairs pairs)

-- a test of what the elements are mapped to
pub any_mapped : {X Y : Type 0} (test : Y → Bool) (f : X → Y) (xs : List X) → list_any test (map f xs) ≡ list_any (λ x. test (f x)) xs
any_mapped test f [] = refl
any_mapped test f (x ∷ xs) = ap (λ b. test (f x) || b) (any_mapped test f xs)

-- a test of those that pass another
pub any_filtered : {X : Type 0} (test p : X → Bool) (xs : List X) → list_any test (filter p xs) ≡ list_any (λ x. p x && test x) xs
any_filtered test p [] = refl
any_filtered test p (x ∷ xs) = by (p x) (any_filtered test p xs)
  where
    by : (b : Bool) → list_any test (filter p xs) ≡ list_any (λ x. p x && test x) xs
        → list_any test (cond b (x ∷ filter p xs) (filter p xs)) ≡ (b && test x || list_any (λ x. p x && test x) xs)
    by true later = ap (λ c. test x || c) later
    by false later = later

-- one that passes, with which any test that it passes has one
pub any_found : {X : Type 0} (p : X → Bool) (xs : List X) → list_any p xs ≡ true → (x : X) × (((q : X → Bool) → q x ≡ true → list_any q xs ≡ true) × (p x ≡ true))
any_found p [] some = absurd (cc)
any_found {X = X} p (y ∷ ys) some = at (any_found p ys) (p y) refl some
  where
    at : (list_any p ys ≡ true → (x : X) × (((q : X → Bool) → q x ≡ true → list_any q ys ≡ true) × (p x ≡ true))) → (b : Bool) → p y ≡ b → (b || list_any p ys) ≡ true
        → (x : X) × (((q : X → Bool) → q x ≡ true → list_any q (y ∷ ys) ≡ true) × (p x ≡ true))
    at later true is some = (y, (λ q passes. rw passes refl, is))
    at later false other some = let found = later some in (found.0, (λ q passes. or_right (q y) (list_any q ys) (found.1.0 q passes), found.1.1))

-- two elements that stand so to each other, the first of which passes one test and the second another
pub any_pair_swapped : {X : Type 0} (near : X → X → Bool) → ((x y : X) → near x y ≡ near y x) → (p q : X → Bool) (xs : List X)
    → list_any (λ x. p x && list_any (λ y. near x y && q y) xs) xs ≡ true → list_any (λ y. q y && list_any (λ x. near y x && p x) xs) xs ≡ true
any_pair_swapped near swap p q xs some =
    let one = any_found (λ x. p x && list_any (λ y. near x y && q y) xs) xs some in
    let its = and_parts (p one.0) (list_any (λ y. near one.0 y && q y) xs) one.1.1 in
    let two = any_found (λ y. near one.0 y && q y) xs its.1 in
    let there = and_parts (near one.0 two.0) (q two.0) two.1.1 in
    two.1.0 (λ y. q y && list_any (λ x. near y x && p x) xs)
    (and_from (q two.0) (list_any (λ x. near two.0 x && p x) xs) there.1
    (one.1.0 (λ x. near two.0 x && p x) (and_from (near two.0 one.0) (p one.0) (swap two.0 one.0 ∙ there.0) its.0)))

-- the numbers below one more that pass a test
pub numbers_more : (test : ℕ → Bool) (n : ℕ) → filter test (range_with_len 0 (n + 1)) ≡ filter test (range_with_len 0 n) ++ cond (test n) (n ∷ []) []
numbers_more test n =
    ap (filter test) (sym (map-id (range_with_len 0 (n + 1))))
    ∙ filter_of_map_range_with_len_more test (λ k. k) 0 n n (omega arith)
    ∙ ap (λ ks. filter test ks ++ cond (test n) (n ∷ []) []) (map-id (range_with_len 0 n))

-- a list made of the numbers that pass a test, where the next passes, and where it doesn't
pub taken_more : {X : Type 0} (f : ℕ → X) (p : ℕ → Bool) (k : ℕ) (x : X) (xs more : List X) → xs ≡ map f (filter p (range_with_len 0 k)) → p k ≡ true → x ≡ f k → more ≡ xs ++ x ∷ []
    → more ≡ map f (filter p (range_with_len 0 (k + 1)))
taken_more {X = X} f p k x xs more so_far passes is is_more =
    is_more
    ∙ ap (λ (ys : List X). ys ++ x ∷ []) so_far
    ∙ ap (λ (y : X). map f (filter p (range_with_len 0 k)) ++ y ∷ []) is
    ∙ sym (map-append f (filter p (range_with_len 0 k)) (k ∷ []))
    ∙ ap (λ (b : Bool). map f (filter p (range_with_len 0 k) ++ cond b (k ∷ []) [])) (sym passes)
    ∙ ap (map f) (sym (numbers_more p k))

pub passed_more : {X : Type 0} (f : ℕ → X) (p : ℕ → Bool) (k : ℕ) (xs more : List X) → xs ≡ map f (filter p (range_with_len 0 k)) → p k ≡ false → more ≡ xs
    → more ≡ map f (filter p (range_with_len 0 (k + 1)))
passed_more f p k xs more so_far fails is_more =
    is_more
    ∙ so_far
    ∙ ap (map f) (sym (append-nil (filter p (range_with_len 0 k))))
    ∙ ap (λ (b : Bool). map f (filter p (range_with_len 0 k) ++ cond b (k ∷ []) [])) (sym fails)
    ∙ ap (map f) (sym (numbers_more p k))
