-- How many of some items pass a test, and sums over members.
use Rattle.std.proofs.Common.{◌≡◌, ℕ, suc, ◌+◌, ◌<◌, Bool, true, false, cond, List, [], ◌∷◌, ◌++◌, arith, refl, ap, sym, ◌∙◌}
use Rattle.std.specs.Prelude.{◌==◌, ◌||◌, if◌then◌else◌, All}
use Rattle.std.specs.List.{AllPairs, count_by, sum_by}
use Rattle.std.specs.List.Sorted.{IsStrictlyIncreasing}
use Rattle.std.proofs.lemmas.Bool.{eqb-true, eq-eqb}
use Rattle.std.proofs.lemmas.Bool.Decides.{nat_tests}
use Rattle.std.proofs.lemmas.List.Elements.{All-head, All-tail}
use Rattle.std.proofs.lemmas.List.Kept.{AllPairs-from_increasing}
use Rattle.std.proofs.lemmas.List.Sums.{sum_by-cons, sum_by-append}
use Rattle.bf_buddy.specs.Members.{is_member}

-- one for what passes a test
abbrev pub once : Bool → ℕ
once b = if b then 1 else 0

pub count_cons : {X : Type 0} (test : X → Bool) (x : X) (xs : List X) → count_by test (x ∷ xs) ≡ once (test x) + count_by test xs
count_cons test x xs = sum_by-cons (λ x. cond (test x) 1 0) x xs

pub count_append : {X : Type 0} (test : X → Bool) (xs ys : List X) → count_by test (xs ++ ys) ≡ count_by test xs + count_by test ys
count_append test xs ys = sum_by-append (λ x. cond (test x) 1 0) xs ys

-- sums over members
pub sum_none : (xs : List ℕ) → sum_by (λ x. 0) xs ≡ 0
sum_none [] = refl
sum_none (x ∷ xs) = sum_by-cons (λ x. 0) x xs ∙ ap (λ n. 0 + n) (sum_none xs)

pub sum_of_both : (f g h : ℕ → ℕ) (xs : List ℕ) → ((x : ℕ) → f x ≡ g x + h x) → sum_by f xs ≡ sum_by g xs + sum_by h xs
sum_of_both f g h [] both = refl
sum_of_both f g h (x ∷ xs) both = sum_by-cons f x xs
    ∙ rejoined (f x) (g x) (h x) (sum_by f xs) (sum_by g xs) (sum_by h xs) (both x) (sum_of_both f g h xs both)
    ∙ ap (λ n. n + (h x + sum_by h xs)) (sym (sum_by-cons g x xs))
    ∙ ap (λ n. sum_by g (x ∷ xs) + n) (sym (sum_by-cons h x xs))
  where
    rejoined : (a b c d e i : ℕ) → a ≡ b + c → d ≡ e + i → a + d ≡ (b + e) + (c + i)
    rejoined a b c d e i first rest = omega arith

-- an amount for a rank, at each place of it among members
abbrev pub amount_at : (rank amount member : ℕ) → ℕ
amount_at rank amount member = cond (rank == member) amount 0

-- no member of those above a rank is it
none_above : (rank amount : ℕ) (members : List ℕ) → All (λ member. rank < member) members → sum_by (amount_at rank amount) members ≡ 0
none_above rank amount [] above = refl
none_above rank amount (member ∷ members) above =
    let higher : rank < member = All-head (λ m. rank < m) member members above in
    let here : (rank == member) ≡ false = grind (arith, nat_tests) in
    let later : sum_by (amount_at rank amount) members ≡ 0 = none_above rank amount members (All-tail (λ m. rank < m) member members above) in
    sum_by-cons (amount_at rank amount) member members ∙ rw (here, later) refl

first_below : (member : ℕ) (members : List ℕ) → AllPairs (λ a b. a < b) (member ∷ members) → All (λ other. member < other) members
first_below member members pairs = λ k d within. pairs 0 (suc k) d (omega arith) (omega arith)

rest_pairs : (member : ℕ) (members : List ℕ) → AllPairs (λ a b. a < b) (member ∷ members) → AllPairs (λ a b. a < b) members
rest_pairs member members pairs = λ i j d below within. pairs (suc i) (suc j) d (omega arith) (omega arith)

-- a member stands once among those that rise
once_each : (rank amount : ℕ) (members : List ℕ) → AllPairs (λ a b. a < b) members → is_member members rank ≡ true → sum_by (amount_at rank amount) members ≡ amount
once_each rank amount [] pairs is_in = absurd (cc)
once_each rank amount (member ∷ members) pairs is_in =
    sum_by-cons (amount_at rank amount) member members ∙ at (once_each rank amount members (rest_pairs member members pairs)) (member == rank) refl is_in
  where
    at : (is_member members rank ≡ true → sum_by (amount_at rank amount) members ≡ amount) → (b : Bool) → (member == rank) ≡ b → (b || is_member members rank) ≡ true
        → cond (rank == member) amount 0 + sum_by (amount_at rank amount) members ≡ amount
    at later true same found = let e : member ≡ rank = eqb-true member rank same in
        let here : (rank == member) ≡ true = eq-eqb rank member (sym e) in
        let none : sum_by (amount_at rank amount) members ≡ 0 =
        ap (λ r. sum_by (amount_at r amount) members) (sym e) ∙ none_above member amount members (first_below member members pairs) in
        rw (here, none) (omega arith)
    at later false other found =
        let none : (rank == member) ≡ false = grind (arith, nat_tests) in
        let one : sum_by (amount_at rank amount) members ≡ amount = later found in
        rw (none, one) (omega arith)

-- so the amounts for it are one
pub member_once : (rank amount : ℕ) (members : List ℕ) → IsStrictlyIncreasing members → is_member members rank ≡ true → sum_by (amount_at rank amount) members ≡ amount
member_once rank amount members up is_in = once_each rank amount members (AllPairs-from_increasing members up) is_in
