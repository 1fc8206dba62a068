-- Sums over the ranks, lists that rise, and filters that drop a rank.
use Rattle.std.proofs.Common.{◌≡◌, ◌≢◌, ℕ, zero, suc, ◌+◌, ◌-◌, ◌*◌, ◌<◌, ◌≤◌, Bool, true, false, cond, ◌||◌, List, [], ◌∷◌, filter, length, get_or, arith, refl, sym, subst, ◌∙◌, ap, inl, inr}
use Rattle.std.specs.Prelude.{◌==◌, sum_by}
use Rattle.std.specs.List.{range_with_len}
use Rattle.std.specs.List.Sorted.{IsStrictlyIncreasing}
use Rattle.std.proofs.lemmas.Bool.{cases_eq, cases_lt, eqb-true, eq-eqb, or_right, or_left}
use Rattle.std.proofs.lemmas.List.Sums.{sum_by-cons, sum_by-le-sum_by}
use Rattle.bf_buddy.specs.Members.{is_member}

-- sums over ranks

pub sums_less : (f g : ℕ → ℕ) (k n r : ℕ) → ((i : ℕ) → g i ≤ f i) → g r < f r → k ≤ r → r < k + n
    → sum_by g (range_with_len k n) < sum_by f (range_with_len k n)
sums_less f g k zero r each less from below = absurd (omega arith)
sums_less f g k (suc n) r each less from below = elim (cases_eq k r) [
  | inl e ↦ let P : ℕ → Type 0 = λ i. g i < f i in
      let here : g k < f k = subst P (sym e) less in
      omega (
        arith,
        here,
        sum_by-cons f k (range_with_len (k + 1) n),
        sum_by-cons g k (range_with_len (k + 1) n),
        sum_by-le-sum_by g f (range_with_len (k + 1) n) each,
      )
  | inr differs ↦ omega (
    arith,
    each k,
    sum_by-cons f k (range_with_len (k + 1) n),
    sum_by-cons g k (range_with_len (k + 1) n),
    sums_less f g (k + 1) n r each less (omega (arith, differs)) (omega arith),
  )
]

pub sums_within : (f : ℕ → ℕ) (k n most : ℕ) → ((i : ℕ) → k ≤ i → i < k + n → f i ≤ most) → sum_by f (range_with_len k n) ≤ n * most
sums_within f k zero most each = omega arith
sums_within f k (suc n) most each =
    omega (
      arith,
      each k (omega arith) (omega arith),
      sum_by-cons f k (range_with_len (k + 1) n),
      sums_within f (k + 1) n most (λ i from below. each i (omega (arith, from)) (omega (arith, below))),
    )

-- a list that rises below a bound and misses a number below it is shorter than the bound

climbs : (xs : List ℕ) → IsStrictlyIncreasing xs → (k : ℕ) → k < length xs → k ≤ get_or xs k 0
climbs xs rising zero within = omega arith
climbs xs rising (suc k) within =
    let next : suc k ≡ k + 1 = omega arith in
    let P : ℕ → Type 0 = λ n. get_or xs k 0 < get_or xs n 0 in
    let more : get_or xs k 0 < get_or xs (suc k) 0 = subst P (sym next) (rising k (omega (arith, within))) in
    omega (arith, more, climbs xs rising k (omega (arith, within)))

in_at : (xs : List ℕ) (i : ℕ) → i < length xs → is_member xs (get_or xs i 0) ≡ true
in_at [] i within = absurd (omega (arith, within))
in_at (x ∷ xs) zero within = or_left (x == x) (is_member xs x) (eq-eqb x x refl)
in_at (x ∷ xs) (suc i) within = or_right (x == get_or xs i 0) (is_member xs (get_or xs i 0)) (in_at xs i (omega (arith, within)))

climbs_over : (xs : List ℕ) (v : ℕ) → IsStrictlyIncreasing xs → ((k : ℕ) → k < length xs → get_or xs k 0 ≢ v)
    → (k : ℕ) → k < length xs → v < get_or xs k 0 → k + 1 ≤ get_or xs k 0
climbs_over xs v rising misses zero within above = omega (arith, above)
climbs_over xs v rising misses (suc k) within above =
    let next : suc k ≡ k + 1 = omega arith in
    let P : ℕ → Type 0 = λ n. get_or xs k 0 < get_or xs n 0 in
    let more : get_or xs k 0 < get_or xs (suc k) 0 = subst P (sym next) (rising k (omega (arith, within))) in
    let here : k < length xs = omega (arith, within) in
    elim (cases_lt v (get_or xs k 0)) [
      | inl over ↦ omega (arith, more, climbs_over xs v rising misses k here over)
      | inr under ↦ omega (arith, above, under, misses k here, climbs xs rising k here)
    ]

pub rising_fewer : (xs : List ℕ) (bound v : ℕ) → IsStrictlyIncreasing xs → ((y : ℕ) → is_member xs y ≡ true → (y < bound) × (y ≢ v)) → v < bound → length xs + 1 ≤ bound
rising_fewer xs bound v rising among below = elim (cases_lt (length xs) bound) [
  | inl shorter ↦ omega (arith, shorter)
  | inr full ↦
      let last : bound - 1 < length xs = omega (arith, full, below) in
      let its : (get_or xs (bound - 1) 0 < bound) × (get_or xs (bound - 1) 0 ≢ v) = among (get_or xs (bound - 1) 0) (in_at xs (bound - 1) last) in
      elim (cases_lt v (get_or xs (bound - 1) 0)) [
        | inl over ↦ absurd (omega (arith, its.0, climbs_over xs v rising (λ k within. (among (get_or xs k 0) (in_at xs k within)).1) (bound - 1) last over))
        | inr under ↦ absurd (omega (arith, its.1, under, below, climbs xs rising (bound - 1) last))
      ]
]

-- a filter that drops a member leaves fewer

filter_few : (p : ℕ → Bool) (xs : List ℕ) → length (filter p xs) ≤ length xs
filter_few p [] = omega arith
filter_few p (x ∷ xs) = by_first (p x) (filter_few p xs)
  where
    by_first : (b : Bool) → length (filter p xs) ≤ length xs → length (cond b (x ∷ filter p xs) (filter p xs)) ≤ length (x ∷ xs)
    by_first true few = omega (arith, few)
    by_first false few = omega (arith, few)

pub filter_fewer : (p : ℕ → Bool) (xs : List ℕ) (y : ℕ) → is_member xs y ≡ true → p y ≡ false → length (filter p xs) < length xs
filter_fewer p [] y member fails = absurd (cc)
filter_fewer p (x ∷ xs) y member fails = by_head (x == y) refl member (λ later. filter_fewer p xs y later fails)
  where
    by_first : (b : Bool) → length (filter p xs) < length xs → length (cond b (x ∷ filter p xs) (filter p xs)) < length (x ∷ xs)
    by_first true few = omega (arith, few)
    by_first false few = omega (arith, few)

    dropped : (b : Bool) → b ≡ false → length (cond b (x ∷ filter p xs) (filter p xs)) < length (x ∷ xs)
    dropped true passes = absurd (cc)
    dropped false _ = omega (arith, filter_few p xs)

    by_head : (b : Bool) → (x == y) ≡ b → (b || is_member xs y) ≡ true → (is_member xs y ≡ true → length (filter p xs) < length xs)
        → length (filter p (x ∷ xs)) < length (x ∷ xs)
    by_head true same _ rest = dropped (p x) (ap p (eqb-true x y same) ∙ fails)
    by_head false other later rest = by_first (p x) (rest later)
