-- Counts of items by any test: two parts merged, the parts of all members, a home's part at its holders, and what a restore gives.
use Rattle.std.proofs.Common.{◌≡◌, ℕ, ◌+◌, Bool, true, false, cond, List, [], ◌∷◌, map, arith, refl, ap, sym, ◌∙◌}
use Rattle.std.proofs.Math.Bool.{or-false, and-true, and-false}
use Rattle.std.specs.Prelude.{◌==◌, ◌||◌, ◌&&◌, not, filter, All}
use Rattle.std.specs.List.{flat_map, count_by, sum_by}
use Rattle.std.specs.List.Sorted.{IsStrictlyIncreasing}
use Rattle.std.proofs.lemmas.Bool.{eqb-true, eqb-false, eq-eqb}
use Rattle.std.proofs.lemmas.List.Elements.{All-head, All-tail}
use Rattle.std.proofs.lemmas.List.Sums.{sum_by-cons}
use Rattle.std.proofs.lemmas.List.{map-id}
use Rattle.bf_buddy.proofs.MemberLemmas.{member_head, member_tail}
use Rattle.bf_buddy.specs.Buddy.{predecessor_of}
use Rattle.bf_buddy.specs.Members.{is_member}
use Rattle.bf_program.specs.Laws.{is_holder}
use Rattle.bf_parts.specs.declared.side.Side.{Side}
use Rattle.bf_lemmas.proofs.Tests.{not_zero}
use Rattle.bf_parts.specs.Counts.{once, count_cons, count_append, amount_at, member_once, sum_of_both, sum_none}
use Rattle.bf_parts.specs.Leaves.{Kind, Leaves, AreAmong, part_of, side_at}
use Rattle.bf_parts.specs.Merges.{placed, merged, regained, heir_by}
use Rattle.bf_parts.specs.SideLaws.{predecessor_member, holder_before}
use Rattle.bf_parts.specs.Sides.{has_items, saved_of, is_given}

-- a home's part, as each of its holders has it, is the same
pub saved_is : {K I : Type 0} (time : ℕ) (homes : List ℕ) (shift : ℕ) (leaves : Leaves K I) (home_of : K → ℕ) (rank home : ℕ) → IsStrictlyIncreasing homes
    → is_member homes home ≡ true → is_holder homes shift home rank ≡ true → saved_of (side_at time homes shift leaves home_of rank) rank home ≡ part_of leaves home_of home
saved_is {I = I} time homes shift leaves home_of rank home up is_home holds = at (rank == home) refl
  where
    at : (b : Bool) → (rank == home) ≡ b
        → cond {A = List I} b (part_of leaves home_of rank)
        (cond (predecessor_of homes rank shift == home) (cond (predecessor_of homes rank shift == rank) [] (part_of leaves home_of (predecessor_of homes rank shift))) [])
        ≡ part_of leaves home_of home
    at true same = ap (part_of leaves home_of) (eqb-true rank home same)
    at false other =
        let its : predecessor_of homes rank shift ≡ home = holder_before shift homes rank home up is_home other holds in
        let here : (predecessor_of homes rank shift == home) ≡ true = eq-eqb (predecessor_of homes rank shift) home its in
        let apart : (predecessor_of homes rank shift == rank) ≡ false = differs (predecessor_of homes rank shift) rank (λ again. eqb-false rank home other (sym again ∙ its)) in
        rw (here, apart) (ap (part_of leaves home_of) its)
      where
        differs : (a b : ℕ) → (a ≡ b → ⊥) → (a == b) ≡ false
        differs a b apart = by (a == b) refl
          where
            by : (c : Bool) → (a == b) ≡ c → c ≡ false
            by true same = absurd (apart (eqb-true a b same))
            by false _ = refl

-- items counted by a test
module _ {I : Type 0} (first : I → I → Bool) (test : I → Bool) where
  count_placed : (x : I) (rest : List I → List I) (n : ℕ) → ((ys : List I) → count_by test (rest ys) ≡ n + count_by test ys)
      → (ys : List I) → count_by test (placed first x rest ys) ≡ once (test x) + n + count_by test ys
  count_placed x rest n counts [] = count_cons test x (rest []) ∙ ap (λ k. once (test x) + k) (counts []) ∙ omega arith
  count_placed x rest n counts (y ∷ ys) = at (first x y) (count_placed x rest n counts ys)
    where
      at : (b : Bool) → count_by test (placed first x rest ys) ≡ once (test x) + n + count_by test ys
          → count_by test (cond b (x ∷ rest (y ∷ ys)) (y ∷ placed first x rest ys)) ≡ once (test x) + n + count_by test (y ∷ ys)
      at true later = count_cons test x (rest (y ∷ ys)) ∙ ap (λ k. once (test x) + k) (counts (y ∷ ys)) ∙ sum_left (once (test x)) n (count_by test (y ∷ ys))
        where
          sum_left : (a b c : ℕ) → a + (b + c) ≡ a + b + c
          sum_left a b c = omega arith
      at false later = count_cons test y (placed first x rest ys) ∙ ap (λ k. once (test y) + k) later
          ∙ swapped (once (test y)) (once (test x) + n) (count_by test ys) ∙ ap (λ k. once (test x) + n + k) (sym (count_cons test y ys))
        where
          swapped : (a b c : ℕ) → a + (b + c) ≡ b + (a + c)
          swapped a b c = omega arith

  pub count_merged : (xs ys : List I) → count_by test (merged first xs ys) ≡ count_by test xs + count_by test ys
  count_merged [] ys = omega arith
  count_merged (x ∷ xs) ys = count_placed x (merged first xs) (count_by test xs) (count_merged xs) ys ∙ ap (λ n. n + count_by test ys) (sym (count_cons test x xs))

pub count_mapped : {A B : Type 0} (f : A → B) (test : B → Bool) (before : A → Bool) → ((x : A) → test (f x) ≡ before x) → (xs : List A) → count_by test (map f xs) ≡ count_by before xs
count_mapped f test before same [] = refl
count_mapped f test before same (x ∷ xs) = count_cons test (f x) (map f xs) ∙ ap (λ b. once b + count_by test (map f xs)) (same x)
    ∙ ap (λ n. once (before x) + n) (count_mapped f test before same xs) ∙ sym (count_cons before x xs)

-- the sum over the members that pass a test, of a sum of two
pub split_sum : (test : ℕ → Bool) (f g h : ℕ → ℕ) (members : List ℕ) → ((member : ℕ) → cond (test member) (f member) 0 ≡ g member + h member)
    → sum_by f (filter test members) ≡ sum_by g members + sum_by h members
split_sum test f g h [] split = refl
split_sum test f g h (member ∷ members) split =
    at (test member) (split member) (split_sum test f g h members split)
    ∙ ap (λ n. n + (h member + sum_by h members)) (sym (sum_by-cons g member members))
    ∙ ap (λ n. sum_by g (member ∷ members) + n) (sym (sum_by-cons h member members))
  where
    at : (b : Bool) → cond b (f member) 0 ≡ g member + h member → sum_by f (filter test members) ≡ sum_by g members + sum_by h members
        → sum_by f (cond b (member ∷ filter test members) (filter test members)) ≡ (g member + sum_by g members) + (h member + sum_by h members)
    at true here later = sum_by-cons f member (filter test members) ∙ omega arith
    at false here later = omega arith

-- a part without an item counts nothing
empty_or_some : {I : Type 0} (test : I → Bool) (items : List I) → cond (has_items items) (count_by test items) 0 ≡ count_by test items
empty_or_some test [] = refl
empty_or_some test (item ∷ items) =
    let some : has_items (item ∷ items) ≡ true = not_zero _ in
    rw some refl

-- by whether a home is the rank, is its source, and whether the source lives
pub given_by : {I : Type 0} (test : I → Bool) (own other : List I) (a c l : Bool) → (a ≡ true → c ≡ true → l ≡ true)
    → cond ((a && has_items own) || (c && (has_items other && not l))) (count_by test (cond a own (cond c other []))) 0
    ≡ cond a (count_by test own) 0 + cond c (cond l 0 (count_by test other)) 0
given_by test own other true true true lives = ap (λ b. cond (has_items own || b) (count_by test own) 0) (and-false (has_items other))
    ∙ ap (λ b. cond b (count_by test own) 0) (or-false (has_items own)) ∙ empty_or_some test own ∙ omega arith
given_by test own other true true false lives = absurd (let e : false ≡ true = lives refl refl in cc)
given_by test own other true false l lives = ap (λ b. cond b (count_by test own) 0) (or-false (has_items own)) ∙ empty_or_some test own ∙ omega arith
given_by test own other false true true lives = ap (λ b. cond b (count_by test other) 0) (and-false (has_items other)) ∙ omega arith
given_by test own other false true false lives = ap (λ b. cond b (count_by test other) 0) (and-true (has_items other)) ∙ empty_or_some test other ∙ omega arith
given_by test own other false false l lives = omega arith

-- a restore gives a rank the items of the parts that it is given, counted by any test that doesn't look at owners
pub given_back : {K I : Type 0} (kind : Kind I) (test : I → Bool) → ((f : ℕ → ℕ) (item : I) → test (kind.remap f item) ≡ test item)
    → (time : ℕ) (homes live : List ℕ) (shift : ℕ) (leaves : Leaves K I) (home_of : K → ℕ) (rank : ℕ) → IsStrictlyIncreasing homes → is_member homes rank ≡ true → is_member live rank ≡ true
    → count_by test (regained kind (side_at time homes shift leaves home_of rank) shift live)
    ≡ sum_by (λ home. count_by test (saved_of (side_at time homes shift leaves home_of rank) rank home)) (filter (is_given (side_at time homes shift leaves home_of rank) rank live) homes)
unfolding regained
given_back {I = I} kind test blind time homes live shift leaves home_of rank up is_in lives =
    let side : Side I = side_at time homes shift leaves home_of rank in
    let kept : ℕ = count_by test side.own in
    let gained : ℕ = cond (is_member live side.source) 0 (count_by test side.other) in
    count_mapped (kind.remap (heir_by side shift live)) test test (blind (heir_by side shift live)) (cond (is_member live side.source) side.own (merged kind.first side.own side.other))
    ∙ by (is_member live side.source) side.own side.other
    ∙ sym (split_sum (is_given side rank live) (λ home. count_by test (saved_of side rank home)) (amount_at rank kept) (amount_at side.source gained) homes
    (λ home. given_by test side.own side.other (rank == home) (side.source == home) (is_member live side.source)
    (λ same its. ap (is_member live) (eqb-true side.source home its ∙ sym (eqb-true rank home same)) ∙ lives))
    ∙ ap (λ n. n + sum_by (amount_at side.source gained) homes) (member_once rank kept homes up is_in)
    ∙ ap (λ n. kept + n) (member_once side.source gained homes up (predecessor_member homes rank shift up is_in)))
  where
    by : (b : Bool) (own other : List I) → count_by test (cond b own (merged kind.first own other)) ≡ count_by test own + cond b 0 (count_by test other)
    by true own other = omega arith
    by false own other = count_merged kind.first test own other

-- the parts of all members together, counted by a test
abbrev amount_of : {K I : Type 0} → (item : K → I) → (owner : K → ℕ) → (test : I → Bool) → List K → (member : ℕ) → ℕ
amount_of item owner test keys member = count_by test (map item (filter (λ key. owner key == member) keys))

module _ {K I : Type 0} (item : K → I) (owner : K → ℕ) (test : I → Bool) (members : List ℕ) (up : IsStrictlyIncreasing members) where
  amount_more : (key : K) (keys : List K) (member : ℕ) → amount_of item owner test (key ∷ keys) member ≡ amount_at (owner key) (once (test (item key))) member + amount_of item owner test keys member
  amount_more key keys member = at (owner key == member)
    where
      at : (b : Bool) → count_by test (map item (cond b (key ∷ filter (λ k. owner k == member) keys) (filter (λ k. owner k == member) keys)))
          ≡ cond b (once (test (item key))) 0 + amount_of item owner test keys member
      at true = count_cons test (item key) (map item (filter (λ k. owner k == member) keys))
      at false = omega arith

  amounts_counted : (keys : List K) → All (λ key. is_member members (owner key) ≡ true) keys → sum_by (amount_of item owner test keys) members ≡ count_by (λ key. test (item key)) keys
  amounts_counted [] owned = sum_none members
  amounts_counted (key ∷ keys) owned =
      sum_of_both (amount_of item owner test (key ∷ keys)) (amount_at (owner key) (once (test (item key)))) (amount_of item owner test keys) members (amount_more key keys)
      ∙ ap (λ n. n + sum_by (amount_of item owner test keys) members)
      (member_once (owner key) (once (test (item key))) members up (All-head (λ key. is_member members (owner key) ≡ true) key keys owned))
      ∙ ap (λ n. once (test (item key)) + n) (amounts_counted keys (All-tail (λ key. is_member members (owner key) ≡ true) key keys owned))
      ∙ sym (count_cons (λ key. test (item key)) key keys)

-- each leaf is in one part, by whichever test leaves are counted
pub parts_counted : {K I : Type 0} (leaves : Leaves K I) (owner : K → ℕ) (test : I → Bool) (members : List ℕ) → IsStrictlyIncreasing members → AreAmong members leaves owner
    → sum_by (λ rank. count_by test (part_of leaves owner rank)) members ≡ count_by (λ key. test (leaves.item owner key)) leaves.keys
unfolding part_of
parts_counted leaves owner test members up owned = amounts_counted (leaves.item owner) owner test members up leaves.keys owned

-- what all members have together, where what each has is told by its rank
pub count_told : {L I : Type 0} (test : I → Bool) (items : L → List I) (at : ℕ → L) (amount : ℕ → ℕ) (members : List ℕ)
    → ((rank : ℕ) → is_member members rank ≡ true → count_by test (items (at rank)) ≡ amount rank) → count_by test (flat_map items (map at members)) ≡ sum_by amount members
count_told test items at amount [] each = refl
count_told test items at amount (member ∷ members) each =
    count_append test (items (at member)) (flat_map items (map at members))
    ∙ ap (λ n. n + count_by test (flat_map items (map at members))) (each member (member_head member members))
    ∙ ap (λ n. amount member + n) (count_told test items at amount members (λ rank is_in. each rank (member_tail member rank members is_in)))
    ∙ sym (sum_by-cons amount member members)

-- the parts of all members together have each leaf once
pub parts_together : {K I : Type 0} (leaves : Leaves K I) (owner : K → ℕ) (test : I → Bool) (members : List ℕ) → IsStrictlyIncreasing members → AreAmong members leaves owner
    → count_by test (flat_map (part_of leaves owner) members) ≡ count_by (λ key. test (leaves.item owner key)) leaves.keys
parts_together leaves owner test members up owned =
    ap (λ ranks. count_by test (flat_map (part_of leaves owner) ranks)) (sym (map-id members))
    ∙ count_told test (part_of leaves owner) (λ rank. rank) (λ rank. count_by test (part_of leaves owner rank)) members (λ rank is_in. refl)
    ∙ parts_counted leaves owner test members up owned
