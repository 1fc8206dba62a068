-- Sums over ranks, and of sums.
use Rattle.std.proofs.Common.{◌≡◌, ◌≢◌, ℕ, zero, suc, ◌+◌, ◌<◌, ◌≤◌, Bool, true, false, cond, ◌||◌, List, [], ◌∷◌, filter, arith, refl, sym, ◌∙◌, ap}
use Rattle.std.specs.Prelude.{◌==◌, sum_by}
use Rattle.std.specs.List.{flat_map, range_with_len}
use Rattle.std.proofs.lemmas.Bool.{eqb-true, eq-eqb, ne_eqb, or_left, or_right}
use Rattle.std.proofs.lemmas.List.Sums.{sum_by-cons, sum_by-append}
use Rattle.bf_buddy.specs.Members.{is_member}
use Rattle.bf_world.proofs.MemberLemmas.{Apart}

-- sums of terms that agree
pub sum_alike : {X : Type 0} (f g : X → ℕ) (xs : List X) → ((x : X) → f x ≡ g x) → sum_by f xs ≡ sum_by g xs
sum_alike f g xs same = λ i. sum_by (λ x. same x i) xs

-- a sum of nothing
pub sum_none : {X : Type 0} (xs : List X) → sum_by (λ x. zero) xs ≡ 0
sum_none [] = refl
sum_none {X = X} (x ∷ xs) = omega (arith, sum_by-cons {X = X} (λ y. zero) x xs, sum_none xs)

-- a sum of two terms each
pub sum_both : {X : Type 0} (f g : X → ℕ) (xs : List X) → sum_by (λ x. f x + g x) xs ≡ sum_by f xs + sum_by g xs
sum_both f g [] = refl
sum_both f g (x ∷ xs) =
    omega (arith, sum_by-cons (λ y. f y + g y) x xs, sum_by-cons f x xs, sum_by-cons g x xs, sum_both f g xs)

-- a sum of sums, the other way round
pub sum_turned : {X Y : Type 0} (f : X → Y → ℕ) (xs : List X) (ys : List Y)
    → sum_by (λ x. sum_by (λ y. f x y) ys) xs ≡ sum_by (λ y. sum_by (λ x. f x y) xs) ys
sum_turned f [] ys = sym (sum_none ys)
sum_turned f (x ∷ xs) ys =
    sum_by-cons (λ z. sum_by (λ y. f z y) ys) x xs
    ∙ ap (λ n. sum_by (λ y. f x y) ys + n) (sum_turned f xs ys)
    ∙ sym (sum_both (λ y. f x y) (λ y. sum_by (λ z. f z y) xs) ys)
    ∙ sum_alike (λ y. f x y + sum_by (λ z. f z y) xs) (λ y. sum_by (λ z. f z y) (x ∷ xs)) ys (λ y. sym (sum_by-cons (λ z. f z y) x xs))

-- a sum over lists that are joined
pub sum_joined : {X Y : Type 0} (f : Y → ℕ) (g : X → List Y) (xs : List X) → sum_by f (flat_map g xs) ≡ sum_by (λ x. sum_by f (g x)) xs
sum_joined f g [] = refl
sum_joined f g (x ∷ xs) =
    sum_by-append f (g x) (flat_map g xs) ∙ ap (λ n. sum_by f (g x) + n) (sum_joined f g xs)
    ∙ sym (sum_by-cons (λ y. sum_by f (g y)) x xs)

-- sums over a range of terms that agree there, and of terms of which none is more
pub sum_range : (f g : ℕ → ℕ) (k n : ℕ) → ((i : ℕ) → k ≤ i → i < k + n → f i ≡ g i) → sum_by f (range_with_len k n) ≡ sum_by g (range_with_len k n)
sum_range f g k zero same = refl
sum_range f g k (suc n) same =
    omega (
      arith,
      same k (omega arith) (omega arith),
      sum_by-cons f k (range_with_len (k + 1) n),
      sum_by-cons g k (range_with_len (k + 1) n),
      sum_range f g (k + 1) n (λ i from below. same i (omega (arith, from)) (omega (arith, below))),
    )

pub sum_at_most : (f g : ℕ → ℕ) (p : ℕ → Bool) (k n : ℕ) → ((i : ℕ) → k ≤ i → i < k + n → p i ≡ true → f i ≤ g i)
    → sum_by f (filter p (range_with_len k n)) ≤ sum_by g (range_with_len k n)
sum_at_most f g p k zero most = omega arith
sum_at_most f g p k (suc n) most =
    at_first (p k) refl (sum_at_most f g p (k + 1) n (λ i from below. most i (omega (arith, from)) (omega (arith, below))))
  where
    at_first : (b : Bool) → p k ≡ b → sum_by f (filter p (range_with_len (k + 1) n)) ≤ sum_by g (range_with_len (k + 1) n)
        → sum_by f (cond b (k ∷ filter p (range_with_len (k + 1) n)) (filter p (range_with_len (k + 1) n))) ≤ sum_by g (k ∷ range_with_len (k + 1) n)
    at_first true passes rest = omega (
      arith,
      rest,
      most k (omega arith) (omega arith) passes,
      sum_by-cons f k (filter p (range_with_len (k + 1) n)),
      sum_by-cons g k (range_with_len (k + 1) n),
    )
    at_first false fails rest = omega (arith, rest, sum_by-cons g k (range_with_len (k + 1) n))

-- a range's sum of one number's term
pub sum_of_one : (f : ℕ → ℕ) (x k n : ℕ) → k ≤ x → x < k + n → sum_by (λ i. cond (x == i) (f i) 0) (range_with_len k n) ≡ f x
sum_of_one f x k zero from below = absurd (omega arith)
sum_of_one f x k (suc n) from below =
    sum_by-cons (λ i. cond (x == i) (f i) 0) k (range_with_len (k + 1) n)
    ∙ at_first (λ differs. sum_of_one f x (k + 1) n (omega (arith, from, differs)) (omega (arith, below))) (x == k) refl
  where
    past : (i : ℕ) → k + 1 ≤ i → x ≡ k → cond (x == i) (f i) 0 ≡ 0
    past i over same = ap (λ b. cond b (f i) 0) (ne_eqb x i (λ e. omega (arith, e, same, over)))

    at_first : (x ≢ k → sum_by (λ i. cond (x == i) (f i) 0) (range_with_len (k + 1) n) ≡ f x) → (b : Bool) → (x == k) ≡ b
        → cond b (f k) 0 + sum_by (λ i. cond (x == i) (f i) 0) (range_with_len (k + 1) n) ≡ f x
    at_first later true same =
        let is : x ≡ k = eqb-true x k same in
        omega (
          arith,
          sum_range (λ i. cond (x == i) (f i) 0) (λ i. zero) (k + 1) n (λ i over _. past i over is) ∙ sum_none (range_with_len (k + 1) n),
          ap f is,
        )
    at_first later false other =
        let rest : sum_by (λ i. cond (x == i) (f i) 0) (range_with_len (k + 1) n) ≡ f x =
        later (λ e. let b : true ≡ false = sym (eq-eqb x k e) ∙ other in absurd (cc)) in
        omega (arith, rest)

-- what numbers of a range add that stand in a list is the list's sum, where each stands once
pub sum_listed : (f : ℕ → ℕ) (xs : List ℕ) (n : ℕ) → Apart xs → ((x : ℕ) → is_member xs x ≡ true → x < n)
    → sum_by (λ i. cond (is_member xs i) (f i) 0) (range_with_len 0 n) ≡ sum_by f xs
sum_listed f [] n apart below = sum_none (range_with_len 0 n)
sum_listed f (x ∷ xs) n apart below =
    sum_alike _ (λ i. cond (x == i) (f i) 0 + cond (is_member xs i) (f i) 0) (range_with_len 0 n) (λ i. at_each i (x == i) refl)
    ∙ sum_both (λ i. cond (x == i) (f i) 0) (λ i. cond (is_member xs i) (f i) 0) (range_with_len 0 n)
    ∙ ap (λ s. s + sum_by (λ i. cond (is_member xs i) (f i) 0) (range_with_len 0 n))
    (sum_of_one f x 0 n (omega arith) (omega (arith, below x (or_left (x == x) (is_member xs x) (eq-eqb x x refl)))))
    ∙ ap (λ s. f x + s) (sum_listed f xs n apart.1 (λ y later. below y (or_right (x == y) (is_member xs y) later)))
    ∙ sym (sum_by-cons f x xs)
  where
    at_each : (i : ℕ) (b : Bool) → (x == i) ≡ b → cond (b || is_member xs i) (f i) 0 ≡ cond b (f i) 0 + cond (is_member xs i) (f i) 0
    at_each i true same =
        let out : is_member xs i ≡ false = ap (is_member xs) (sym (eqb-true x i same)) ∙ apart.0 in
        rw out (omega arith)
    at_each i false other = omega arith
