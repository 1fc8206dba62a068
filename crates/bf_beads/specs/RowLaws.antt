-- A row of beads at each time.
use Rattle.std.proofs.Common.{◌≡◌, ℕ, zero, suc, ◌+◌, ◌%◌, ◌^◌, ◌<◌, ◌≤◌, Bool, true, false, cond, List, [], ◌∷◌, map, filter, arith, refl, ap, ◌∙◌, All}
use Rattle.std.specs.Prelude.{◌==◌, nat_lt, IsTrue, slice_index_or}
use Rattle.std.specs.List.{range_with_len, count_by, sum_by}
use Rattle.std.proofs.lemmas.Bool.Decides.{nat_tests}
use Rattle.std.proofs.lemmas.List.Elements.{All-map, All-filter}
use Rattle.std.proofs.lemmas.List.Kept.{AllPairs-from_increasing}
use Rattle.bf_buddy.specs.Members.{is_member}
use Rattle.bf_lemmas.proofs.Tests.{eqb_swap}
use Rattle.bf_parts.specs.Counts.{count_append, member_once}
use Rattle.bf_parts.specs.CoverLaws.{count_mapped}
use Rattle.bf_parts.specs.Leaves.{AreLeaves, AreAmong, part_of}
use Rattle.bf_lemmas.proofs.Lists.{map_twice}
use Rattle.bf_buddy.proofs.MemberLemmas.{range_rises, range_has}
use Rattle.bf_beads.specs.declared.bead.Bead.{Bead}
use Rattle.bf_beads.specs.declared.bead.Link.{Link}
use Rattle.bf_beads.specs.Row.{row, is_beside, link_to, with_owner, links_of, grown, value_at, bead_at, beads_at, bead_kind, IsOwnedAmong, numbers_of}

-- links with replaced owners are those to the other owners
pub links_changed : (f : Link → Link) (count : ℕ) (owner other : ℕ → ℕ) (number : ℕ) → ((j : ℕ) → f (link_to owner j) ≡ link_to other j)
    → map f (links_of count owner number) ≡ links_of count other number
unfolding links_of
links_changed f count owner other number same = map_twice f (link_to owner) (link_to other) same (filter (is_beside number) (row count))

pub are_beads : (count time : ℕ) → AreLeaves bead_kind (beads_at count time)
unfolding row
are_beads count time = record {
  remapped = λ f owner number. ap (λ links. record { number = number; value = value_at time number; links = links })
      (links_changed (with_owner f) count owner (λ j. f (owner j)) number (λ j. refl));
  rising = λ owner i j d below within. ordered _ _ (AllPairs-from_increasing (row count) (range_rises count) i j d below within);
}
  where
    ordered : (a b : ℕ) → a < b → (nat_lt a b ≡ true) × (nat_lt b a ≡ false)
    ordered a b below = (grind (arith, nat_tests), grind (arith, nat_tests))

-- a part one step later
value_next : (time number : ℕ) → (value_at time number + number + time) % 2 ^ 32 ≡ value_at (time + 1) number
unfolding value_at
value_next time number = let more : suc time ≡ time + 1 = omega arith in ap (λ t. value_at t number) more

pub grown_part : (count time : ℕ) (owner : ℕ → ℕ) (rank : ℕ) → map (grown time) (part_of (beads_at count time) owner rank) ≡ part_of (beads_at count (time + 1)) owner rank
unfolding part_of
grown_part count time owner rank =
    map_twice (grown time) (bead_at count time owner) (bead_at count (time + 1) owner)
    (λ number. ap (λ value. record { number = number; value = value; links = links_of count owner number }) (value_next time number)) (filter (λ number. owner number == rank) (row count))

-- the owners in the links of a part are among the beads' owners
pub part_among : (count time : ℕ) (homes : List ℕ) (owner : ℕ → ℕ) (rank : ℕ) → AreAmong homes (beads_at count time) owner
    → All (IsOwnedAmong homes) (part_of (beads_at count time) owner rank)
unfolding part_of links_of
part_among count time homes owner rank among =
    All-map (IsOwnedAmong homes) (bead_at count time owner) (filter (λ number. owner number == rank) (row count))
    (λ k d within. All-map (λ (l : Link). IsTrue (is_member homes l.owner)) (link_to owner)
    (filter (is_beside (slice_index_or (filter (λ number. owner number == rank) (row count)) k d)) (row count))
    (All-filter (is_beside (slice_index_or (filter (λ number. owner number == rank) (row count)) k d)) (λ number. is_member homes (owner number) ≡ true) (row count) among))

-- each number of the row is there once
pub count_numbers : (unit : ℕ) (beads : List Bead) → count_by (λ number. number == unit) (numbers_of beads) ≡ count_by (λ (bead : Bead). bead.number == unit) beads
count_numbers unit beads = count_mapped (λ (bead : Bead). bead.number) (λ number. number == unit) (λ (bead : Bead). bead.number == unit) (λ bead. refl) beads

pub one_number : (count unit : ℕ) → nat_lt unit count ≡ true → count_by (λ number. number == unit) (row count) ≡ 1
unfolding row
one_number count unit below =
    ap (λ (f : ℕ → ℕ). sum_by f (range_with_len 0 count)) (λ i number. cond (eqb_swap number unit i) 1 0)
    ∙ member_once unit 1 (range_with_len 0 count) (range_rises count) (range_has count unit (let e : unit < count = grind (arith, nat_tests) in e))

pub no_number : (count unit : ℕ) → nat_lt unit count ≡ false → count_by (λ number. number == unit) (row count) ≡ 0
unfolding row
no_number count unit above = none 0 count (let past : count ≤ unit = grind (arith, nat_tests, above) in omega (arith, past))
  where
    both : (a b : ℕ) → a ≡ 0 → b ≡ 0 → a + b ≡ 0
    both a b one other = omega (arith, one, other)

    none : (first count : ℕ) → first + count ≤ unit → count_by (λ number. number == unit) (range_with_len first count) ≡ 0
    none first zero past = refl
    none first (suc count) past =
        let apart : (first == unit) ≡ false = grind (arith, nat_tests, past) in
        let later = none (first + 1) count (omega (arith, past)) in
        count_append (λ number. number == unit) (first ∷ []) (range_with_len (first + 1) count) ∙ both _ _ (ap (λ (b : Bool). 0 + cond b 1 0) apart) later
