-- Deaths by rising rank, kept by their ranks and listed again.
use Rattle.std.proofs.Common.{◌≡◌, ◌≢◌, ℕ, zero, suc, ◌+◌, ◌<◌, ◌≤◌, ◌^◌, List, [], ◌∷◌, ◌++◌, Option, Some, None, length, map, get_or, set, replicate, refl, sym, ap, subst, ◌∙◌, inl, inr, arith, get_or-set_same, get_or-set_other}
use Rattle.std.specs.List.{All, flat_map, range_with_len}
use Rattle.std.specs.List.Sorted.{IsStrictlyIncreasing}
use Rattle.std.proofs.lemmas.Bool.{cases_eq}
use Rattle.std.proofs.lemmas.List.{length-set}
use Rattle.bf_case.specs.Case.{IsDeath}
use Rattle.bf_text.specs.Entries.{listed}

-- the ranks rise from a number on, and all is in its range
abbrev pub Rising : ℕ → ℕ → List (ℕ × ℕ) → Type 0
Rising ranks a [] = Unit {0}
Rising ranks a (d ∷ ds) = (a ≤ d.0) × ((d.0 < ranks) × ((d.1 < 2 ^ 32) × Rising ranks (d.0 + 1) ds))

pub rising_from : (ranks a : ℕ) (ds : List (ℕ × ℕ)) → All (IsDeath ranks) ds → IsStrictlyIncreasing (map (λ (d : ℕ × ℕ). d.0) ds)
    → (0 < length ds → a ≤ get_or (map (λ (d : ℕ × ℕ). d.0) ds) 0 0) → Rising ranks a ds
rising_from ranks a [] all up first = tt
rising_from ranks a (d ∷ []) all up first =
    let one = all 0 d (omega arith) in (first (omega arith), (one.0, (one.1, tt)))
rising_from ranks a (d ∷ e ∷ ds) all up first =
    let one = all 0 d (omega arith) in
    let next : d.0 < e.0 = up 0 (omega arith) in (
      first (omega arith),
      (
        one.0,
        (
          one.1,
          rising_from ranks (d.0 + 1) (e ∷ ds) (λ k x h. all (suc k) x (omega arith))
              (λ k h. (let e1 : suc k + 1 ≡ suc (k + 1) = omega arith in
              let step = up (suc k) (omega arith) in
              subst (λ n. get_or (map (λ (x : ℕ × ℕ). x.0) (d ∷ e ∷ ds)) (suc k) 0 < get_or (map (λ (x : ℕ × ℕ). x.0) (d ∷ e ∷ ds)) n 0) e1 step))
              (λ h. omega arith),
        ),
      ),
    )

-- the deaths at their ranks
abbrev pub placed : List (Option ℕ) → List (ℕ × ℕ) → List (Option ℕ)
placed deaths [] = deaths
placed deaths (d ∷ ds) = placed (set deaths d.0 (Some d.1)) ds

pub length-placed : (deaths : List (Option ℕ)) (ds : List (ℕ × ℕ)) → length (placed deaths ds) ≡ length deaths
length-placed deaths [] = refl
length-placed deaths (d ∷ ds) = length-placed (set deaths d.0 (Some d.1)) ds ∙ length-set deaths d.0 (Some d.1)

below_placed : (ranks a k : ℕ) (deaths : List (Option ℕ)) (ds : List (ℕ × ℕ)) → Rising ranks a ds → k < a → get_or (placed deaths ds) k None ≡ get_or deaths k None
below_placed ranks a k deaths [] up below = refl
below_placed ranks a k deaths (d ∷ ds) up below =
    let low = up.0 in
    let other : k ≢ d.0 = λ s. omega arith in
    below_placed ranks (d.0 + 1) k (set deaths d.0 (Some d.1)) ds up.1.1.1 (omega arith) ∙ get_or-set_other deaths d.0 k (Some d.1) None other

listing : List (Option ℕ) → ℕ → ℕ → List (ℕ × ℕ)
listing deaths a n = flat_map (λ rank. listed rank (get_or deaths rank None)) (range_with_len a n)

listing_more : (deaths : List (Option ℕ)) (a n : ℕ) (one : Option ℕ) → get_or deaths a None ≡ one → listing deaths a (suc n) ≡ listed a one ++ listing deaths (a + 1) n
unfolding listing
listing_more deaths a n one e = ap (λ o. listed a o ++ flat_map (λ rank. listed rank (get_or deaths rank None)) (range_with_len (a + 1) n)) e

listing_end : (deaths : List (Option ℕ)) (a : ℕ) → listing deaths a 0 ≡ []
unfolding listing
listing_end deaths a = refl

-- what is placed is listed again
list_again : (ranks n a : ℕ) (deaths : List (Option ℕ)) (ds : List (ℕ × ℕ)) → ranks ≤ 16 → a + n ≡ 16 → length deaths ≡ 16
    → ((k : ℕ) → a ≤ k → get_or deaths k None ≡ None) → Rising ranks a ds → listing (placed deaths ds) a n ≡ ds
list_again ranks zero a deaths [] few all sixteen clear up = listing_end deaths a
list_again ranks zero a deaths (d ∷ ds) few all sixteen clear up =
    let low = up.0 in let high = up.1.0 in absurd (omega arith)
list_again ranks (suc n) a deaths [] few all sixteen clear up =
    listing_more deaths a n None (clear a (omega arith)) ∙ list_again ranks n (a + 1) deaths [] few (omega arith) sixteen (λ k h. clear k (omega arith)) tt
list_again ranks (suc n) a deaths (d ∷ ds) few all sixteen clear up =
    let low = up.0 in let high = up.1.0 in
    elim (cases_eq a d.0) [
      | inl same ↦
          let next = set deaths d.0 (Some d.1) in
          let here : get_or (placed next ds) a None ≡ Some d.1 =
          below_placed ranks (d.0 + 1) a next ds up.1.1.1 (omega arith)
          ∙ ap (λ k. get_or next k None) same ∙ get_or-set_same deaths d.0 (Some d.1) None (omega arith) in
          listing_more (placed next ds) a n (Some d.1) here
          ∙ ap (λ k. (k, d.1) ∷ listing (placed next ds) (a + 1) n) same
          ∙ ap (λ ts. d ∷ ts) (list_again ranks n (a + 1) next ds few (omega arith) (length-set deaths d.0 (Some d.1) ∙ sixteen)
          (λ k h. (let other : k ≢ d.0 = λ s. omega arith in get_or-set_other deaths d.0 k (Some d.1) None other ∙ clear k (omega arith)))
          (subst (λ b. Rising ranks (b + 1) ds) (sym same) up.1.1.1))
      | inr other ↦
          let later : a + 1 ≤ d.0 = omega arith in
          let here : get_or (placed deaths (d ∷ ds)) a None ≡ None =
          below_placed ranks (a + 1) a deaths (d ∷ ds) (later, up.1) (omega arith) ∙ clear a (omega arith) in
          listing_more (placed deaths (d ∷ ds)) a n None here
          ∙ list_again ranks n (a + 1) deaths (d ∷ ds) few (omega arith) sixteen (λ k h. clear k (omega arith)) (later, up.1)
    ]

-- before any line no rank dies
pub none_dies : (n k : ℕ) → get_or (replicate n (let none : Option ℕ = None in none)) k None ≡ None
none_dies zero k = refl
none_dies (suc n) zero = refl
none_dies (suc n) (suc k) = none_dies n k

pub deaths_again : (ranks : ℕ) (ds : List (ℕ × ℕ)) → ranks ≤ 16 → Rising ranks 0 ds
    → flat_map (λ rank. listed rank (get_or (placed (replicate 16 None) ds) rank None)) (range_with_len 0 16) ≡ ds
unfolding listing
deaths_again ranks ds few up = list_again ranks 16 0 (replicate 16 None) ds few (omega arith) refl (λ k h. none_dies 16 k) up
