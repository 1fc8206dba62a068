-- Buddies by places among members that rise.
use Rattle.std.proofs.Common.{◌≡◌, ◌≢◌, ℕ, suc, zero, ◌+◌, ◌-◌, ◌%◌, ◌<◌, ◌≤◌, false, cond, List, [], ◌∷◌, length, arith, refl, ap, sym, ◌∙◌, inl, inr}
use Rattle.std.specs.Prelude.{◌==◌, slice_index, slice_get, find, nat_lt, IsTrue, Some, None}
use Rattle.std.specs.List.{position_or_len}
use Rattle.std.specs.List.Sorted.{IsStrictlyIncreasing}
use Rattle.std.proofs.lemmas.Bool.{cases_lt, eqb-true, eq-eqb, ne_eqb}
use Rattle.std.proofs.lemmas.Bool.Decides.{nat_tests}
use Rattle.std.proofs.lemmas.Grind.{common_steps}
use Rattle.std.proofs.lemmas.List.Sums.{position_or_len_is, passes_at_first}
use Rattle.std.proofs.lemmas.List.Folds.{list_any_at, find_at}
use Rattle.std.proofs.lemmas.Option.{slice_get-get_or}
use Rattle.std.proofs.Math.Nat.{mod-eq_of_lt, mod-lt, mod-one, add-mod_left}
use Rattle.bf_buddy.specs.Members.{is_member, place_in}
use Rattle.bf_buddy.specs.Buddy.{place_of, buddy_place, buddy_of, predecessor_place, predecessor_of}

-- the place of a member is below their count
pub place_found : (members : List ℕ) (rank : ℕ) → IsTrue (is_member members rank) → place_of members rank < length members
place_found [] rank member = absurd (cc)
place_found (first ∷ rest) rank member = grind (arith, common_steps, place_found rest rank)

-- a search for a member finds its place
pub place_in_found : (members : List ℕ) (rank : ℕ) → IsTrue (is_member members rank) → place_in members rank ≡ Some (place_of members rank)
unfolding place_in
place_in_found members rank member = found_at (place_of members rank) (length members) (place_found members rank member)
  where
    found_at : (place count : ℕ) → place < count → cond (nat_lt place count) (Some place) None ≡ Some place
    found_at place count within = grind (arith, nat_tests)

pub ruleset place_facts = (place_found, place_in_found)

pub member_found : (members : List ℕ) (place : ℕ) → place < length members → IsTrue (is_member members (slice_index members place))
member_found members place within =
    list_any_at (λ member. member == slice_index members place) members place 0 within (eq-eqb (slice_index members place) (slice_index members place) refl)

pub get_found : (members : List ℕ) (place : ℕ) → place < length members → slice_get members place ≡ Some (slice_index members place)
get_found members place within = slice_get-get_or members place 0 within

pub ruleset at_facts = (member_found, get_found)

-- a member stands at its place
pub at_place : (members : List ℕ) (rank : ℕ) → IsTrue (is_member members rank) → slice_index members (place_of members rank) ≡ rank
at_place members rank member =
    eqb-true (slice_index members (place_of members rank)) rank (passes_at_first (λ member. member == rank) members 0 (place_found members rank member))

rises : (members : List ℕ) → IsStrictlyIncreasing members → (i d j : ℕ) → j ≡ i + suc d → j < length members → slice_index members i < slice_index members j
rises members up i zero j is_next within = let next : j ≡ i + 1 = omega arith in rw next (up i (omega arith))
rises members up i (suc d) j is_next within =
    let last : j ≡ i + suc d + 1 = omega arith in
    let before : slice_index members i < slice_index members (i + suc d) = rises members up i d (i + suc d) refl (omega arith) in
    let step : slice_index members (i + suc d) < slice_index members (i + suc d + 1) = up (i + suc d) (omega arith) in
    rw last (omega arith)

-- no other place has the same member
other_place : (members : List ℕ) → IsStrictlyIncreasing members → (i k : ℕ) → i < length members → k < i → (slice_index members k == slice_index members i) ≡ false
other_place members up i k within below =
    let lower : slice_index members k < slice_index members i = rises members up k (i - k - 1) i (omega arith) within in
    grind (arith, nat_tests, lower)

-- the member at a place has that place
pub place_at : (members : List ℕ) → IsStrictlyIncreasing members → (i : ℕ) → i < length members → place_of members (slice_index members i) ≡ i
place_at members up i within =
    position_or_len_is (λ member. member == slice_index members i) members i 0 (omega arith)
    (λ k below. other_place members up i k within below)
    (λ _. eq-eqb (slice_index members i) (slice_index members i) refl)

-- a number below twice the count comes round at most once
wrap_low : (x m : ℕ) → x < m → x % m ≡ x
wrap_low x m below = mod-eq_of_lt below

wrap_high : (x m : ℕ) → m ≤ x → x < m + m → x % m ≡ x - m
wrap_high x m high low =
    let parts : x ≡ m + (x - m) = omega arith in
    ap (λ n. n % m) parts ∙ add-mod_left m (x - m) ∙ mod-eq_of_lt (omega arith)

pub lone_buddy : (count place shift : ℕ) → count ≡ 1 → (place + 1 + shift % (count - 1)) % count ≡ 0
lone_buddy count place shift lone = rw lone (mod-one (place + 1 + shift % (1 - 1)))

pub lone_predecessor : (count place shift : ℕ) → count ≡ 1 → (place + (count - 1 - shift % (count - 1))) % count ≡ 0
lone_predecessor count place shift lone = rw lone (mod-one (place + (1 - 1 - shift % (1 - 1))))

-- the two ways round lead back
there : (m i t : ℕ) → i < m → t + 1 < m → ((i + 1 + t) % m + (m - 1 - t)) % m ≡ i
there m i t within small =
    elim (cases_lt (i + 1 + t) m) [
      | inl low ↦ rw (wrap_low (i + 1 + t) m low) (wrap_high (i + 1 + t + (m - 1 - t)) m (omega arith) (omega arith) ∙ omega arith)
      | inr high ↦ rw (wrap_high (i + 1 + t) m high (omega arith)) (wrap_low (i + 1 + t - m + (m - 1 - t)) m (omega arith) ∙ omega arith)
    ]

back : (m i t : ℕ) → i < m → t + 1 < m → ((i + (m - 1 - t)) % m + 1 + t) % m ≡ i
back m i t within small =
    elim (cases_lt (i + (m - 1 - t)) m) [
      | inl low ↦ rw (wrap_low (i + (m - 1 - t)) m low) (wrap_high (i + (m - 1 - t) + 1 + t) m (omega arith) (omega arith) ∙ omega arith)
      | inr high ↦ rw (wrap_high (i + (m - 1 - t)) m high (omega arith)) (wrap_low (i + (m - 1 - t) - m + 1 + t) m (omega arith) ∙ omega arith)
    ]

moves : (m i t : ℕ) → i < m → t + 1 < m → (i + 1 + t) % m ≢ i
moves m i t within small =
    elim (cases_lt (i + 1 + t) m) [
      | inl low ↦ rw (wrap_low (i + 1 + t) m low) (λ same. absurd (omega arith))
      | inr high ↦ rw (wrap_high (i + 1 + t) m high (omega arith)) (λ same. absurd (omega arith))
    ]

pub buddy_within : (count place shift : ℕ) → place < count → buddy_place count place shift < count
unfolding buddy_place
buddy_within count place shift within = mod-lt (place + 1 + shift % (count - 1)) (omega arith)

pub predecessor_within : (count place shift : ℕ) → place < count → predecessor_place count place shift < count
unfolding predecessor_place
predecessor_within count place shift within = mod-lt (place + (count - 1 - shift % (count - 1))) (omega arith)

pub predecessor_of_buddy : (count place shift : ℕ) → place < count → predecessor_place count (buddy_place count place shift) shift ≡ place
unfolding buddy_place predecessor_place
predecessor_of_buddy count place shift within =
    elim (cases_lt 1 count) [
      | inl many ↦ let small : shift % (count - 1) < count - 1 = mod-lt shift (omega arith) in there count place (shift % (count - 1)) within (omega arith)
      | inr lone ↦ let one : count ≡ 1 = omega arith in let first : place ≡ 0 = omega arith in
          lone_predecessor count ((place + 1 + shift % (count - 1)) % count) shift one ∙ sym first
    ]

pub buddy_of_predecessor : (count place shift : ℕ) → place < count → buddy_place count (predecessor_place count place shift) shift ≡ place
unfolding buddy_place predecessor_place
buddy_of_predecessor count place shift within =
    elim (cases_lt 1 count) [
      | inl many ↦ let small : shift % (count - 1) < count - 1 = mod-lt shift (omega arith) in back count place (shift % (count - 1)) within (omega arith)
      | inr lone ↦ let one : count ≡ 1 = omega arith in let first : place ≡ 0 = omega arith in
          lone_buddy count ((place + (count - 1 - shift % (count - 1))) % count) shift one ∙ sym first
    ]

pub buddy_moves : (count place shift : ℕ) → place < count → 2 ≤ count → buddy_place count place shift ≢ place
unfolding buddy_place
buddy_moves count place shift within many =
    let small : shift % (count - 1) < count - 1 = mod-lt shift (omega arith) in moves count place (shift % (count - 1)) within (omega arith)

-- a member by its place
pub buddy_at : (members : List ℕ) (rank shift : ℕ) → slice_index members (buddy_place (length members) (place_of members rank) shift) ≡ buddy_of members rank shift
unfolding buddy_of
buddy_at members rank shift = refl

-- the buddy of the member at a place
pub buddy_from : (members : List ℕ) → IsStrictlyIncreasing members → (i shift : ℕ) → i < length members
    → buddy_of members (slice_index members i) shift ≡ slice_index members (buddy_place (length members) i shift)
unfolding buddy_of
buddy_from members up i shift within = rw (place_at members up i within) refl

apart : (a b : ℕ) → b < a → a ≡ b → ⊥
apart a b below same = omega arith

-- of the members only the one at the place before has a given buddy
others_differ : (members : List ℕ) → IsStrictlyIncreasing members → (p k shift : ℕ) → p < length members → k < predecessor_place (length members) p shift
    → (buddy_of members (slice_index members k) shift == slice_index members p) ≡ false
others_differ members up p k shift within below =
    let last : predecessor_place (length members) p shift < length members = predecessor_within (length members) p shift within in
    let k_within : k < length members = omega arith in
    let b_within : buddy_place (length members) k shift < length members = buddy_within (length members) k shift k_within in
    ne_eqb (buddy_of members (slice_index members k) shift) (slice_index members p)
    (λ same. apart (predecessor_place (length members) p shift) k below
    (ap (λ n. predecessor_place (length members) n shift)
    (sym (place_at members up p within) ∙ ap (place_of members) (sym same ∙ buddy_from members up k shift k_within) ∙ place_at members up (buddy_place (length members) k shift) b_within)
    ∙ predecessor_of_buddy (length members) k shift k_within))

pub predecessor_from : (members : List ℕ) → IsStrictlyIncreasing members → (p shift : ℕ) → p < length members
    → predecessor_of members (slice_index members p) shift ≡ slice_index members (predecessor_place (length members) p shift)
unfolding predecessor_of
predecessor_from members up p shift within =
    let q = predecessor_place (length members) p shift in
    let q_within : q < length members = predecessor_within (length members) p shift within in
    let test = λ (member : ℕ). buddy_of members member shift == slice_index members p in
    let first : position_or_len test members ≡ q = position_or_len_is test members q 0 (omega arith)
    (λ k below. others_differ members up p k shift within below)
    (λ _. eq-eqb (buddy_of members (slice_index members q) shift) (slice_index members p) (buddy_from members up q shift q_within ∙ ap (slice_index members) (buddy_of_predecessor (length members) p shift within))) in
    let found : find test members ≡ Some (slice_index members q) = find_at test members ∙ ap (slice_get members) first ∙ get_found members q q_within in
    rw found refl

pub predecessor_at : (members : List ℕ) (rank shift : ℕ) → IsStrictlyIncreasing members → IsTrue (is_member members rank)
    → slice_index members (predecessor_place (length members) (place_of members rank) shift) ≡ predecessor_of members rank shift
predecessor_at members rank shift up member =
    sym (predecessor_from members up (place_of members rank) shift (place_found members rank member)) ∙ ap (λ r. predecessor_of members r shift) (at_place members rank member)
