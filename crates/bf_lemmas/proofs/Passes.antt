-- A loop through numbers that takes those out of a list that fail a test.
use Rattle.std.proofs.Common.{◌≡◌, ℕ, ◌+◌, ◌<◌, ◌≤◌, Bool, true, false, cond, List, [], ◌∷◌, arith, refl, ap, sym, ◌∙◌}
use Rattle.std.proofs.Math.Bool.{or-true, and-true, and-false}
use Rattle.std.specs.Prelude.{◌==◌, ◌||◌, ◌&&◌, not, filter, nat_le, All}
use Rattle.std.proofs.lemmas.Bool.{eqb-true}
use Rattle.std.proofs.lemmas.Bool.Decides.{nat_tests}
use Rattle.std.proofs.lemmas.List.Elements.{All-head, All-tail, filter_agree}
use Rattle.bf_lemmas.proofs.Lists.{filter_twice}

-- those of some numbers that pass a test or aren't below one: only those below it have been looked at
unfoldable pub passed_below : (test : ℕ → Bool) → List ℕ → (rank : ℕ) → List ℕ
passed_below test members rank = filter (λ member. nat_le rank member || test member) members

filter_all : (p : ℕ → Bool) (xs : List ℕ) → ((x : ℕ) → p x ≡ true) → filter p xs ≡ xs
filter_all p [] passes = refl
filter_all p (x ∷ xs) passes = rw (passes x) (ap (λ rest. x ∷ rest) (filter_all p xs passes))

next_le : (rank member : ℕ) → (rank == member) ≡ false → nat_le rank member ≡ nat_le (rank + 1) member
next_le rank member other = grind (arith, nat_tests)

step_here : (test : ℕ → Bool) (rank member : ℕ) → test rank ≡ true → (nat_le rank member || test member) ≡ (nat_le (rank + 1) member || test member)
step_here test rank member passes = by_same (rank == member) refl
  where
    by_same : (b : Bool) → (rank == member) ≡ b → (nat_le rank member || test member) ≡ (nat_le (rank + 1) member || test member)
    by_same true same =
        let it : test member ≡ true = ap test (sym (eqb-true rank member same)) ∙ passes in
        rw it (or-true (nat_le rank member) ∙ sym (or-true (nat_le (rank + 1) member)))
    by_same false other = ap (λ b. b || test member) (next_le rank member other)

step_past : (test : ℕ → Bool) (rank member : ℕ) → test rank ≡ false → ((nat_le rank member || test member) && not (member == rank)) ≡ (nat_le (rank + 1) member || test member)
step_past test rank member fails = by_same (member == rank) refl
  where
    by_same : (b : Bool) → (member == rank) ≡ b → ((nat_le rank member || test member) && not b) ≡ (nat_le (rank + 1) member || test member)
    by_same true same =
        let it : test member ≡ false = ap test (eqb-true member rank same) ∙ fails in
        let past : nat_le (rank + 1) member ≡ false = grind (arith, nat_tests, eqb-true member rank same) in
        and-false (nat_le rank member || test member) ∙ sym (ap (λ b. b || test member) past ∙ it)
    by_same false other = and-true (nat_le rank member || test member) ∙ ap (λ b. b || test member) (grind (arith, nat_tests))

pub passed_start : (test : ℕ → Bool) (members : List ℕ) → members ≡ passed_below test members 0
unfolding passed_below
passed_start test members = sym (filter_all (λ member. nat_le 0 member || test member) members (λ member. grind (arith, nat_tests)))

pub passed_stays : (test : ℕ → Bool) (members : List ℕ) (rank : ℕ) → test rank ≡ true → passed_below test members rank ≡ passed_below test members (rank + 1)
unfolding passed_below
passed_stays test members rank passes =
    filter_agree (λ member. nat_le rank member || test member) (λ member. nat_le (rank + 1) member || test member) (λ member. step_here test rank member passes) members

pub passed_goes : (test : ℕ → Bool) (members : List ℕ) (rank : ℕ) → test rank ≡ false
    → filter (λ member. not (member == rank)) (passed_below test members rank) ≡ passed_below test members (rank + 1)
unfolding passed_below
passed_goes test members rank fails =
    filter_twice (λ member. not (member == rank)) (λ member. nat_le rank member || test member) members
    ∙ filter_agree (λ member. (nat_le rank member || test member) && not (member == rank)) (λ member. nat_le (rank + 1) member || test member)
    (λ member. step_past test rank member fails) members

pub passed_end : (test : ℕ → Bool) (count upto : ℕ) (members : List ℕ) → All (λ r. r < count) members → count ≤ upto → passed_below test members upto ≡ filter test members
unfolding passed_below
passed_end test count upto [] below past = refl
passed_end test count upto (first ∷ rest) below past =
    let low : first < count = All-head (λ r. r < count) first rest below in
    let here : nat_le upto first ≡ false = grind (arith, nat_tests) in
    let later = passed_end test count upto rest (All-tail (λ r. r < count) first rest below) past in
    rw here (ap (λ others. cond (test first) (first ∷ others) others) later)
