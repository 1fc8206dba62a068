-- Members in rising order, each with its local.
use Rattle.std.proofs.Common.{◌≡◌, ℕ, zero, suc, ◌+◌, ◌≤◌, Bool, true, false, cond, ◌||◌, List, [], ◌∷◌, filter, length, arith, refl, sym, ◌∙◌, ap}
use Rattle.std.specs.Prelude.{◌==◌, Option, Some, None}
use Rattle.std.specs.List.{range_with_len, zip}
use Rattle.std.specs.Map.{keys_of}
use Rattle.std.proofs.lemmas.Bool.{eqb-true, eq-eqb}
use Rattle.bf_buddy.proofs.MemberLemmas.{filter_members}
use Rattle.bf_buddy.specs.Members.{is_member}
use Rattle.bf_program.specs.Lockstep.{local_of}

-- no member stands twice
abbrev pub Apart : List ℕ → Type 0
Apart [] = Unit {0}
Apart (x ∷ xs) = (is_member xs x ≡ false) × Apart xs

or_false : (a b : Bool) → (a || b) ≡ true → a ≡ false → b ≡ true
or_false true b holds fails = absurd (cc)
or_false false b holds fails = holds

-- the members of a filtered range are not below its beginning
pub above : (p : ℕ → Bool) (k n y : ℕ) → is_member (filter p (range_with_len k n)) y ≡ true → k ≤ y
above p k zero y member = absurd (cc)
above p k (suc n) y member = by_first (p k) refl member (λ later. above p (k + 1) n y later)
  where
    by_head : (b : Bool) → (k == y) ≡ b → (b || is_member (filter p (range_with_len (k + 1) n)) y) ≡ true
        → (is_member (filter p (range_with_len (k + 1) n)) y ≡ true → k + 1 ≤ y) → k ≤ y
    by_head true same _ rest = omega (arith, eqb-true k y same)
    by_head false other later rest = omega (arith, rest later)

    by_first : (b : Bool) → p k ≡ b → is_member (cond b (k ∷ filter p (range_with_len (k + 1) n)) (filter p (range_with_len (k + 1) n))) y ≡ true
        → (is_member (filter p (range_with_len (k + 1) n)) y ≡ true → k + 1 ≤ y) → k ≤ y
    by_first true passes is_in rest = by_head (k == y) refl is_in rest
    by_first false fails is_in rest = omega (arith, rest is_in)

not_above : (p : ℕ → Bool) (k n : ℕ) → is_member (filter p (range_with_len (k + 1) n)) k ≡ false
not_above p k n = by_test (is_member (filter p (range_with_len (k + 1) n)) k) refl
  where
    by_test : (b : Bool) → is_member (filter p (range_with_len (k + 1) n)) k ≡ b → b ≡ false
    by_test true member = absurd (omega (arith, above p (k + 1) n k member))
    by_test false _ = refl

-- the members of a filtered range stand once
pub apart_range : (p : ℕ → Bool) (k n : ℕ) → Apart (filter p (range_with_len k n))
apart_range p k zero = tt
apart_range p k (suc n) = by_first (p k) (apart_range p (k + 1) n)
  where
    by_first : (b : Bool) → Apart (filter p (range_with_len (k + 1) n)) → Apart (cond b (k ∷ filter p (range_with_len (k + 1) n)) (filter p (range_with_len (k + 1) n)))
    by_first true rest = (not_above p k n, rest)
    by_first false rest = rest

abbrev pub test_of : {L : Type 0} → (L → Bool) → Option L → Bool
test_of test (Some local) = test local
test_of test None = false

-- the members whose local passes a test, told by looking each up
pub keys_filtered : {L : Type 0} (test : L → Bool) (members : List ℕ) (locals : List L) → Apart members → length locals ≡ length members
    → filter (λ rank. test_of test (local_of members locals rank)) members ≡ keys_of (filter (λ seat. test seat.1) (zip members locals))
keys_filtered test [] locals apart each = refl
keys_filtered test (x ∷ xs) [] apart each = absurd (omega arith)
keys_filtered {L = L} test (x ∷ xs) (l ∷ ls) apart each =
    let rest : filter (λ rank. test_of test (local_of (x ∷ xs) (l ∷ ls) rank)) xs ≡ keys_of (filter (λ seat. test seat.1) (zip xs ls)) =
    filter_members _ (λ rank. test_of test (local_of xs ls rank)) xs (λ y member. ap (test_of test) (looks_on y (x == y) refl member)) ∙ keys_filtered test xs ls apart.1 (omega arith) in
    by_first (test l) refl rest (eq-eqb x x refl)
  where
    looks_on : (y : ℕ) (b : Bool) → (x == y) ≡ b → is_member xs y ≡ true → cond b (Some l) (local_of xs ls y) ≡ local_of xs ls y
    looks_on y true same member = absurd (let e : false ≡ true = sym apart.0 ∙ ap (is_member xs) (eqb-true x y same) ∙ member in cc)
    looks_on y false other member = refl

    by_first : (b : Bool) → test l ≡ b → filter (λ rank. test_of test (local_of (x ∷ xs) (l ∷ ls) rank)) xs ≡ keys_of (filter (λ seat. test seat.1) (zip xs ls))
        → (x == x) ≡ true
        → filter (λ rank. test_of test (local_of (x ∷ xs) (l ∷ ls) rank)) (x ∷ xs) ≡ keys_of (filter (λ seat. test seat.1) (zip (x ∷ xs) (l ∷ ls)))
    by_first true passes rest itself = rw (itself, passes, rest) refl
    by_first false fails rest itself = rw (itself, fails, rest) refl
