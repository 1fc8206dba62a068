-- Who is among members, among those that pass a test, and in a range.
use Rattle.std.proofs.Common.{◌≡◌, ℕ, suc, zero, ◌+◌, ◌<◌, ◌≤◌, Bool, true, false, cond, List, [], ◌∷◌, length, arith, refl, ap, sym, ◌∙◌, subst}
use Rattle.std.proofs.Math.Bool.{and-false}
use Rattle.std.specs.Prelude.{◌==◌, ◌||◌, ◌&&◌, filter, All}
use Rattle.std.specs.List.{range_with_len, list_any}
use Rattle.std.specs.List.Sorted.{IsStrictlyIncreasing}
use Rattle.std.proofs.lemmas.Bool.{eqb-true, eq-eqb, and_parts, or_right}
use Rattle.std.proofs.lemmas.Bool.Decides.{nat_tests}
use Rattle.std.proofs.lemmas.List.Elements.{All-nil, All-cons, All-head, All-tail}
use Rattle.std.proofs.lemmas.List.FromFn.{length-range_with_len, get_or-range_with_len}
use Rattle.bf_buddy.specs.Members.{is_member}

pub member_head : (member : ℕ) (members : List ℕ) → is_member (member ∷ members) member ≡ true
member_head member members = rw (eq-eqb member member refl) refl

pub member_tail : (member rank : ℕ) (members : List ℕ) → is_member members rank ≡ true → is_member (member ∷ members) rank ≡ true
member_tail member rank members later = or_right (member == rank) (is_member members rank) later

-- members that pass a test
pub member_filter : (test : ℕ → Bool) (members : List ℕ) (rank : ℕ) → is_member (filter test members) rank ≡ (is_member members rank && test rank)
member_filter test [] rank = refl
member_filter test (member ∷ members) rank = at (test member) (member == rank) refl refl (member_filter test members rank)
  where
    at : (b c : Bool) → test member ≡ b → (member == rank) ≡ c → is_member (filter test members) rank ≡ (is_member members rank && test rank)
        → is_member (cond b (member ∷ filter test members) (filter test members)) rank ≡ ((c || is_member members rank) && test rank)
    at true true passes same later = rw same (sym (ap test (sym (eqb-true member rank same)) ∙ passes))
    at true false passes other later = rw other later
    at false true fails same later =
        let it : test rank ≡ false = ap test (sym (eqb-true member rank same)) ∙ fails in
        later ∙ ap (λ b. is_member members rank && b) it ∙ and-false (is_member members rank) ∙ sym it
    at false false fails other later = later

pub member_filter_from : (test : ℕ → Bool) (members : List ℕ) (rank : ℕ) → is_member members rank ≡ true → test rank ≡ true → is_member (filter test members) rank ≡ true
member_filter_from test members rank is_in passes = member_filter test members rank ∙ rw (is_in, passes) refl

pub member_filter_parts : (test : ℕ → Bool) (members : List ℕ) (rank : ℕ) → is_member (filter test members) rank ≡ true → (is_member members rank ≡ true) × (test rank ≡ true)
member_filter_parts test members rank is_in = and_parts (is_member members rank) (test rank) (sym (member_filter test members rank) ∙ is_in)

-- what holds of all members, and of each
pub all_members : (P : ℕ → Type 0) (members : List ℕ) → ((rank : ℕ) → is_member members rank ≡ true → P rank) → All P members
all_members P [] each = All-nil P
all_members P (member ∷ members) each =
    All-cons P member members (each member (member_head member members)) (all_members P members (λ rank is_in. each rank (member_tail member rank members is_in)))

pub all_member : (P : ℕ → Type 0) (members : List ℕ) (rank : ℕ) → All P members → is_member members rank ≡ true → P rank
all_member P [] rank all is_in = absurd (cc)
all_member P (member ∷ members) rank all is_in = by (all_member P members rank (All-tail P member members all)) (member == rank) refl is_in
  where
    by : (is_member members rank ≡ true → P rank) → (b : Bool) → (member == rank) ≡ b → (b || is_member members rank) ≡ true → P rank
    by later true same here = subst P (eqb-true member rank same) (All-head P member members all)
    by later false other there = later there

-- two tests that agree on all members keep the same
pub filter_members : (p q : ℕ → Bool) (members : List ℕ) → ((rank : ℕ) → is_member members rank ≡ true → p rank ≡ q rank) → filter p members ≡ filter q members
filter_members p q [] same = refl
filter_members p q (member ∷ members) same =
    ap (λ b. cond b (member ∷ filter p members) (filter p members)) (same member (member_head member members))
    ∙ ap (λ rest. cond (q member) (member ∷ rest) rest) (filter_members p q members (λ rank is_in. same rank (member_tail member rank members is_in)))

-- ranges: a test that passes at some number of one
pub range_any : (test : ℕ → Bool) (first count k : ℕ) → first ≤ k → k < first + count → test k ≡ true → list_any test (range_with_len first count) ≡ true
range_any test first zero k low high passes = absurd (omega arith)
range_any test first (suc count) k low high passes =
    at (λ other. range_any test (first + 1) count k (above first k low other) (omega arith) passes) (first == k) refl
  where
    above : (a b : ℕ) → a ≤ b → (a == b) ≡ false → a + 1 ≤ b
    above a b low differ = grind (arith, nat_tests)

    at : ((first == k) ≡ false → list_any test (range_with_len (first + 1) count) ≡ true) → (b : Bool) → (first == k) ≡ b → (test first || list_any test (range_with_len (first + 1) count)) ≡ true
    at later true same = let here : test first ≡ true = ap test (eqb-true first k same) ∙ passes in rw here refl
    at later false other = or_right (test first) (list_any test (range_with_len (first + 1) count)) (later other)

pub any_range : (test : ℕ → Bool) (first count : ℕ) → list_any test (range_with_len first count) ≡ true → (k : ℕ) × ((k < first + count) × (test k ≡ true))
any_range test first zero some = absurd (cc)
any_range test first (suc count) some = at (any_range test (first + 1) count) (test first) refl some
  where
    at : (list_any test (range_with_len (first + 1) count) ≡ true → (k : ℕ) × ((k < first + 1 + count) × (test k ≡ true)))
        → (b : Bool) → test first ≡ b → (b || list_any test (range_with_len (first + 1) count)) ≡ true → (k : ℕ) × ((k < first + suc count) × (test k ≡ true))
    at later true here _ = (first, (omega arith, here))
    at later false other there = let found = later there in
        let below : found.0 < first + 1 + count = found.1.0 in (found.0, (omega arith, found.1.1))

-- and its members
pub member_range : (first count rank : ℕ) → first ≤ rank → rank < first + count → is_member (range_with_len first count) rank ≡ true
member_range first count rank low high = range_any (λ member. member == rank) first count rank low high (eq-eqb rank rank refl)

pub range_within : (first count rank : ℕ) → is_member (range_with_len first count) rank ≡ true → rank < first + count
range_within first count rank is_in =
    let found = any_range (λ member. member == rank) first count is_in in
    let same : found.0 ≡ rank = eqb-true found.0 rank found.1.1 in
    let below : found.0 < first + count = found.1.0 in
    omega arith

pub range_rises : (count : ℕ) → IsStrictlyIncreasing (range_with_len 0 count)
range_rises count = λ k below.
    let long : length (range_with_len 0 count) ≡ count = length-range_with_len 0 count in
    let one = get_or-range_with_len 0 count k 0 (omega arith) in
    let two = get_or-range_with_len 0 count (k + 1) 0 (omega arith) in
    rw (one, two) (omega arith)

pub range_has : (ranks rank : ℕ) → rank < ranks → is_member (range_with_len 0 ranks) rank ≡ true
range_has ranks rank below = member_range 0 ranks rank (omega arith) (omega arith)
