-- Ranks as the bits of a number.
use Rattle.std.proofs.Common.{◌≡◌, ◌≢◌, ℕ, suc, zero, ◌+◌, ◌-◌, ◌*◌, ◌/◌, ◌%◌, ◌^◌, ◌<◌, ◌≤◌, Bool, true, false, cond, not, ◌&&◌, ◌||◌, List, [], ◌∷◌, arith, refl, ap, sym, ◌∙◌, inl, inr, lit<}
use Rattle.std.specs.Prelude.{◌==◌, Option, filter, bit_and, bit_or}
use Rattle.std.specs.List.{range_with_len, position_from}
use Rattle.std.specs.Int.{bit_at}
use Rattle.std.proofs.lemmas.Bool.Decides.{nat_tests}
use Rattle.std.proofs.lemmas.Nat.Bits.{shr_and_one, bit_at_ones, bit_at_ones_above}
use Rattle.std.proofs.lemmas.Nat.Bits.{bit_at_clear_same, bit_at_clear_other, bit_at_set_same, bit_at_set_other}
use Rattle.std.proofs.lemmas.Iterator.Adapters.{position_from-zero}
use Rattle.std.proofs.lemmas.Bool.{cases_lt, cases_eq, eqb-true, eq-eqb}
use Rattle.std.proofs.lemmas.Map.Views.{any-filter_same}
use Rattle.std.proofs.lemmas.List.Kept.{IsStrictlyIncreasing-filter}
use Rattle.std.proofs.lemmas.List.Elements.{All-filter}
use Rattle.std.proofs.Math.Nat.{mod-eq_of_lt, pow-le-pow_right}
use Rattle.std.proofs.lemmas.Nat.{pow_pos, or_of_32}
use Rattle.std.proofs.Math.Pow.{pow-lt}
use Rattle.std.specs.Prelude.{All, slice_get, Some, None}
use Rattle.std.specs.List.Sorted.{IsStrictlyIncreasing}
use Rattle.std.specs.Int.{w32}
use Rattle.bf_buddy.specs.Members.{has_bit, ranks_in, is_member, with_member, without, place_in}
use Rattle.bf_buddy.proofs.MemberLemmas.{all_members, filter_members, range_has, range_within, range_rises}
use Rattle.std.proofs.Math.Bool.{and-true, and-false, or-true, or-false}
use Rattle.std.proofs.lemmas.Bool.{false_from_ne_true}

-- the code's test of a bit
pub has_bit_test : (bits rank : ℕ) → has_bit bits rank ≡ (bit_and (bits / 2 ^ rank) 1 == 1)
unfolding has_bit
has_bit_test bits rank = rw shr_and_one refl

-- the ranks from one on whose bits are 1
unfoldable pub ranks_from : ℕ → ℕ → List ℕ
ranks_from bits rank = filter (has_bit bits) (range_with_len rank (32 - rank))

-- the place of a rank among ranks of which the first has some place
unfoldable pub place_from : (rank place : ℕ) → List ℕ → Option ℕ
place_from rank place ranks = position_from (λ member. member == rank) place ranks

pub ranks_from-zero : (bits : ℕ) → ranks_in bits ≡ ranks_from bits 0
unfolding ranks_in ranks_from
ranks_from-zero bits = refl

pub ranks_from-end : (bits r : ℕ) → 32 ≤ r → ranks_from bits r ≡ []
unfolding ranks_from
ranks_from-end bits r end = let none : 32 - r ≡ 0 = omega arith in rw none refl

range-step : (r : ℕ) → r < 32 → range_with_len r (32 - r) ≡ r ∷ range_with_len (r + 1) (32 - (r + 1))
range-step r below = let e : 32 - r ≡ suc (32 - (r + 1)) = omega arith in rw e refl

pub ranks_from-has : (bits r : ℕ) → r < 32 → has_bit bits r ≡ true → ranks_from bits r ≡ r ∷ ranks_from bits (r + 1)
unfolding ranks_from
ranks_from-has bits r below has = rw (range-step r below) (rw has refl)

pub ranks_from-lacks : (bits r : ℕ) → r < 32 → has_bit bits r ≡ false → ranks_from bits r ≡ ranks_from bits (r + 1)
unfolding ranks_from
ranks_from-lacks bits r below lacks = rw (range-step r below) (rw lacks refl)

pub ruleset ranks_steps = (ranks_from-zero, ranks_from-end, ranks_from-has, ranks_from-lacks)

-- the steps of a search for a place
pub place_here : (bits r m place : ℕ) → m < 32 → has_bit bits m ≡ true → m ≡ r → place_from r place (ranks_from bits m) ≡ Some place
unfolding place_from
place_here bits r m place below has same = let test : (m == r) ≡ true = eq-eqb m r same in rw (ranks_from-has bits m below has) (rw test refl)

pub place_next : (bits r m place : ℕ) → m < 32 → has_bit bits m ≡ true → m ≢ r → place_from r place (ranks_from bits m) ≡ place_from r (place + 1) (ranks_from bits (m + 1))
unfolding place_from
place_next bits r m place below has other = let test : (m == r) ≡ false = grind (arith, nat_tests) in rw (ranks_from-has bits m below has) (rw test refl)

pub place_past : (bits r m place : ℕ) → m < 32 → has_bit bits m ≡ false → place_from r place (ranks_from bits m) ≡ place_from r place (ranks_from bits (m + 1))
place_past bits r m place below lacks = rw (ranks_from-lacks bits m below lacks) refl

pub place_end : (bits r m place : ℕ) → 32 ≤ m → place_from r place (ranks_from bits m) ≡ None
unfolding place_from
place_end bits r m place end = rw (ranks_from-end bits m end) refl

pub place_start : (bits r : ℕ) → place_from r 0 (ranks_from bits 0) ≡ place_in (ranks_in bits) r
unfolding place_from place_in
place_start bits r = rw (← ranks_from-zero bits) (sym (position_from-zero (λ member. member == r) (ranks_in bits)))

pub ruleset place_steps = (place_here, place_next, place_past, place_end, place_start)

-- the steps to the rank at a place
pub at_here : (bits r : ℕ) → r < 32 → has_bit bits r ≡ true → slice_get (ranks_from bits r) 0 ≡ Some r
at_here bits r below has = rw (ranks_from-has bits r below has) refl

pub at_next : (bits r left : ℕ) → r < 32 → has_bit bits r ≡ true → left ≢ 0 → slice_get (ranks_from bits r) left ≡ slice_get (ranks_from bits (r + 1)) (left - 1)
at_next bits r left below has some = let more : left ≡ suc (left - 1) = omega arith in
    rw (ranks_from-has bits r below has) (ap (slice_get (r ∷ ranks_from bits (r + 1))) more)

pub at_past : (bits r left : ℕ) → r < 32 → has_bit bits r ≡ false → slice_get (ranks_from bits r) left ≡ slice_get (ranks_from bits (r + 1)) left
at_past bits r left below lacks = rw (ranks_from-lacks bits r below lacks) refl

pub at_end : (bits r left : ℕ) → 32 ≤ r → slice_get (ranks_from bits r) left ≡ None
at_end bits r left end = rw (ranks_from-end bits r end) refl

pub at_start : (bits place : ℕ) → slice_get (ranks_from bits 0) place ≡ slice_get (ranks_in bits) place
at_start bits place = rw (← ranks_from-zero bits) refl

pub ruleset at_steps = (at_here, at_next, at_past, at_end, at_start)

-- the numbers from k on that lie below a bound
filter_below : (p : ℕ → Bool) (a : ℕ) → ((i : ℕ) → i < a → p i ≡ true) → ((i : ℕ) → a ≤ i → p i ≡ false)
    → (n k : ℕ) → a ≤ k + n → filter p (range_with_len k n) ≡ range_with_len k (a - k)
filter_below p a inside outside zero k fits = let none : a - k ≡ 0 = omega arith in rw none refl
filter_below p a inside outside (suc n) k fits =
    let rest : filter p (range_with_len (k + 1) n) ≡ range_with_len (k + 1) (a - (k + 1)) = filter_below p a inside outside n (k + 1) (omega arith) in
    elim (cases_lt k a) [
      | inl below ↦ let more : a - k ≡ suc (a - (k + 1)) = omega arith in rw (more, inside k below, rest) refl
      | inr above ↦ let none : a - k ≡ 0 = omega arith in let after : a - (k + 1) ≡ 0 = omega arith in rw (none, outside k above, rest, after) refl
    ]

has_ones : (n i : ℕ) → i < n → has_bit (2 ^ n - 1) i ≡ true
unfolding has_bit
has_ones n i below = rw (bit_at_ones n i below) refl

lacks_ones : (n i : ℕ) → n ≤ i → has_bit (2 ^ n - 1) i ≡ false
unfolding has_bit
lacks_ones n i above = rw (bit_at_ones_above n i above) refl

-- a shift of 1 loses no bit
shifted : (n : ℕ) → n ≤ 32 → 1 * 2 ^ n % 2 ^ 64 ≡ 2 ^ n
shifted n fits =
    let below : 2 ^ n < 2 ^ 64 = pow-lt {i = n} {j = 64} (omega arith) in
    let plain : 1 * 2 ^ n ≡ 2 ^ n = omega arith in
    rw plain (mod-eq_of_lt below)

-- n low bits are the ranks below n
ranks_of_low : (n : ℕ) → n ≤ 32 → ranks_in (2 ^ n - 1) ≡ range_with_len 0 n
unfolding ranks_in
ranks_of_low n fits =
    filter_below (has_bit (2 ^ n - 1)) n (λ i below. has_ones n i below) (λ i above. lacks_ones n i above) 32 0 (omega arith)
    ∙ ap (range_with_len 0) (omega arith)

pub ranks_of_ones : (n : ℕ) → n ≤ 32 → ranks_in (1 * 2 ^ n % 2 ^ 64 - 1) ≡ range_with_len 0 n
ranks_of_ones n fits = rw (shifted n fits) (ranks_of_low n fits)

-- the low bits fit
pub ones_fit : (n : ℕ) → n ≤ 32 → (1 ≤ 1 * 2 ^ n % 2 ^ 64) × (1 * 2 ^ n % 2 ^ 64 - 1 < 2 ^ 32)
ones_fit n fits =
    let some : 1 ≤ 2 ^ n = pow_pos n in
    let most : 2 ^ n ≤ 2 ^ 32 = pow-le-pow_right {n = 2} (lit< tt) {i = n} {j = 32} fits in
    let plain = shifted n fits in
    (omega arith, omega arith)

-- no number beyond a range is in it
beyond : (n r : ℕ) → n ≤ r → is_member (range_with_len 0 n) r ≡ false
beyond n r above = false_from_ne_true (is_member (range_with_len 0 n) r) (λ is_in. within (range_within 0 n r is_in))
  where
    within : r < 0 + n → ⊥
    within below = omega arith

same_bit : (bits r k : ℕ) → (k == r) ≡ true → has_bit bits k ≡ has_bit bits r
same_bit bits r k same = ap (has_bit bits) (eqb-true k r same)

pub is_member-ranks_in : (bits r : ℕ) → r < 32 → is_member (ranks_in bits) r ≡ has_bit bits r
unfolding ranks_in
is_member-ranks_in bits r below =
    any-filter_same (λ member. member == r) (has_bit bits) (has_bit bits r) (λ k same. same_bit bits r k same) (range_with_len 0 32)
    ∙ ap (λ b. has_bit bits r && b) (range_has 32 r below) ∙ and-true (has_bit bits r)

pub is_member-beyond : (bits r : ℕ) → 32 ≤ r → is_member (ranks_in bits) r ≡ false
unfolding ranks_in
is_member-beyond bits r above =
    any-filter_same (λ member. member == r) (has_bit bits) (has_bit bits r) (λ k same. same_bit bits r k same) (range_with_len 0 32)
    ∙ ap (λ b. has_bit bits r && b) (beyond 32 r above) ∙ and-false (has_bit bits r)

pub ruleset member_steps = (is_member-ranks_in, is_member-beyond)

pub ranks_rise : (bits : ℕ) → IsStrictlyIncreasing (ranks_in bits)
unfolding ranks_in
ranks_rise bits = IsStrictlyIncreasing-filter (has_bit bits) (range_with_len 0 32) (range_rises 32)

pub ranks_below : (bits : ℕ) → All (λ rank. rank < 32) (ranks_in bits)
unfolding ranks_in
ranks_below bits = All-filter (has_bit bits) (λ rank. rank < 32) (range_with_len 0 32) (all_members (λ rank. rank < 32) (range_with_len 0 32) (range_within 0 32))

pub ruleset rank_facts = (ranks_rise, ranks_below)

-- two tests in one step of a filter
both_step : (r : ℕ → Bool) (kept : Bool) (k : ℕ) (rest : List ℕ) → cond (kept && r k) (k ∷ filter r rest) (filter r rest) ≡ filter r (cond kept (k ∷ rest) rest)
both_step r true k rest = refl
both_step r false k rest = refl

-- a filter by two tests is two filters
filter_both : (p q r : ℕ → Bool) (n k : ℕ) → ((i : ℕ) → i < k + n → p i ≡ (q i && r i))
    → filter p (range_with_len k n) ≡ filter r (filter q (range_with_len k n))
filter_both p q r zero k both = refl
filter_both p q r (suc n) k both =
    let rest : filter p (range_with_len (k + 1) n) ≡ filter r (filter q (range_with_len (k + 1) n)) = filter_both p q r n (k + 1) (λ i below. both i (omega arith)) in
    let here : p k ≡ (q k && r k) = both k (omega arith) in
    rw (here, rest) (both_step r (q k) k (filter q (range_with_len (k + 1) n)))

clear_bit : (bits r i : ℕ) → r < 32 → i < 32 → has_bit (bit_and bits (2 ^ 32 - 1 - 1 * 2 ^ r % 2 ^ 32)) i ≡ (has_bit bits i && not (i == r))
unfolding has_bit
clear_bit bits r i below within =
    elim (cases_eq i r) [
      | inl same ↦ let test : (i == r) ≡ true = eq-eqb i r same in
          let none : bit_at (bit_and bits (2 ^ 32 - 1 - 1 * 2 ^ r % 2 ^ 32)) i ≡ 0 = ap (bit_at (bit_and bits (2 ^ 32 - 1 - 1 * 2 ^ r % 2 ^ 32))) same ∙ bit_at_clear_same w32 bits r below in
          rw (none, test) (sym (and-false (bit_at bits i == 1)))
      | inr other ↦ let test : (i == r) ≡ false = grind (arith, nat_tests) in
          rw (bit_at_clear_other w32 bits r below i within other, test) (sym (and-true (bit_at bits i == 1)))
    ]

pub ranks_in-clear : (bits r : ℕ) → r < 32 → ranks_in (bit_and bits (2 ^ 32 - 1 - 1 * 2 ^ r % 2 ^ 32)) ≡ without (ranks_in bits) r
unfolding ranks_in
ranks_in-clear bits r below =
    filter_both (has_bit (bit_and bits (2 ^ 32 - 1 - 1 * 2 ^ r % 2 ^ 32))) (has_bit bits) (λ member. not (member == r)) 32 0 (λ i within. clear_bit bits r i below within)

beyond_bit : (bits r i : ℕ) → 32 ≤ r → i < 32 → has_bit bits i ≡ (has_bit bits i && not (i == r))
beyond_bit bits r i above within =
    let other : (i == r) ≡ false = grind (arith, nat_tests) in
    rw other (sym (and-true (has_bit bits i)))

pub without-beyond : (bits r : ℕ) → 32 ≤ r → ranks_in bits ≡ without (ranks_in bits) r
unfolding ranks_in
without-beyond bits r above = filter_both (has_bit bits) (has_bit bits) (λ member. not (member == r)) 32 0 (λ i within. beyond_bit bits r i above within)

pub ruleset without_steps = (ranks_in-clear, without-beyond)

-- one bit more
set_bit : (bits r i : ℕ) → r < 32 → has_bit (bit_or bits (1 * 2 ^ r % 2 ^ 32)) i ≡ (has_bit bits i || i == r)
unfolding has_bit
set_bit bits r i below =
    elim (cases_eq i r) [
      | inl same ↦ let test : (i == r) ≡ true = eq-eqb i r same in
          let one : bit_at (bit_or bits (1 * 2 ^ r % 2 ^ 32)) i ≡ 1 = ap (bit_at (bit_or bits (1 * 2 ^ r % 2 ^ 32))) same ∙ bit_at_set_same w32 bits r below in
          rw (one, test) (sym (or-true (bit_at bits i == 1)))
      | inr other ↦ let test : (i == r) ≡ false = grind (arith, nat_tests) in
          rw (bit_at_set_other w32 bits r below i other, test) (sym (or-false (bit_at bits i == 1)))
    ]

pub ranks_in-set : (bits r : ℕ) → r < 32 → ranks_in (bit_or bits (1 * 2 ^ r % 2 ^ 32)) ≡ with_member (ranks_in bits) r
unfolding ranks_in with_member
ranks_in-set bits r below =
    filter_members (has_bit (bit_or bits (1 * 2 ^ r % 2 ^ 32))) (λ member. is_member (ranks_in bits) member || member == r) (range_with_len 0 32)
    (λ member is_in. set_bit bits r member below ∙ ap (λ b. b || member == r) (sym (is_member-ranks_in bits member (range_within 0 32 member is_in))))

pub set_fits : (bits r : ℕ) → bits < 2 ^ 32 → r < 32 → bit_or bits (1 * 2 ^ r % 2 ^ 32) < 2 ^ 32
set_fits bits r fits below = or_of_32 bits (1 * 2 ^ r % 2 ^ 32) fits (omega arith)

pub ruleset with_steps = (ranks_in-set, set_fits)
