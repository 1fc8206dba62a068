-- Which homes have an item, who holds it, and to whom a restore gives it: of sides that are stocked by a test on homes.
use Rattle.std.proofs.Common.{◌≡◌, ℕ, ◌<◌, Bool, true, false, cond, List, [], ◌∷◌, length, map, refl, ap, sym, ◌∙◌}
use Rattle.std.proofs.Math.Bool.{or-true, or-false, and-true, and-false}
use Rattle.std.specs.Prelude.{◌==◌, ◌||◌, ◌&&◌, not, filter, slice_index_or}
use Rattle.std.specs.List.{list_any}
use Rattle.std.specs.List.Sorted.{IsStrictlyIncreasing}
use Rattle.std.proofs.lemmas.Bool.{eqb-true, eqb-false, eq-eqb, and_parts, or_right}
use Rattle.std.proofs.lemmas.List.Folds.{list_any_at}
use Rattle.bf_buddy.proofs.LawLemmas.{predecessor_undoes}
use Rattle.bf_buddy.proofs.MemberLemmas.{member_head, member_tail, member_filter, filter_members}
use Rattle.bf_buddy.specs.Buddy.{buddy_of, predecessor_of}
use Rattle.bf_buddy.specs.Members.{is_member}
use Rattle.bf_program.specs.Restores.{heir_of}
use Rattle.bf_parts.specs.declared.side.Side.{Side}
use Rattle.bf_lemmas.proofs.Tests.{same_tests, eqb_swap, not_zero}
use Rattle.bf_parts.specs.Leaves.{Leaves, part_of, is_filled, side_at}
use Rattle.bf_parts.specs.RestoreLaws.{heir_is}
use Rattle.bf_parts.specs.Sides.{has_items, is_given}
use Rattle.bf_parts.specs.Views.{View, holds_part, homes_of, stored_of, IsStocked, IsHeld}

-- a part has items where its rank is filled
items_by : {K I : Type 0} (f : K → I) (test : K → Bool) (keys : List K) → has_items (map f (filter test keys)) ≡ list_any test keys
items_by f test [] = refl
items_by f test (key ∷ keys) = at (test key) (items_by f test keys)
  where
    at : (b : Bool) → has_items (map f (filter test keys)) ≡ list_any test keys → has_items (map f (cond b (key ∷ filter test keys) (filter test keys))) ≡ (b || list_any test keys)
    at true later = not_zero (length (map f (filter test keys)))
    at false later = later

pub part_filled : {K I : Type 0} (leaves : Leaves K I) (owner : K → ℕ) (rank : ℕ) → has_items (part_of leaves owner rank) ≡ is_filled leaves owner rank
unfolding part_of is_filled
part_filled leaves owner rank = items_by (leaves.item owner) (λ key. owner key == rank) leaves.keys

-- an owner of a leaf is filled
pub owner_filled : {K I : Type 0} (leaves : Leaves K I) (owner : K → ℕ) (k : ℕ) (d : K) → k < length leaves.keys → is_filled leaves owner (owner (slice_index_or leaves.keys k d)) ≡ true
unfolding is_filled
owner_filled leaves owner k d within =
    list_any_at (λ key. owner key == owner (slice_index_or leaves.keys k d)) leaves.keys k d within (eq-eqb (owner (slice_index_or leaves.keys k d)) (owner (slice_index_or leaves.keys k d)) refl)

-- a rank's side of a snapshot is stocked where leaves have homes
pub side_stocked : {K I : Type 0} (time : ℕ) (homes : List ℕ) (shift : ℕ) (leaves : Leaves K I) (home_of : K → ℕ) (rank : ℕ)
    → IsStocked (is_filled leaves home_of) homes shift rank (side_at time homes shift leaves home_of rank)
side_stocked {I = I} time homes shift leaves home_of rank = record {
  same = refl;
  source = refl;
  own = part_filled leaves home_of rank;
  other = at (predecessor_of homes rank shift == rank);
}
  where
    at : (b : Bool) → has_items (cond {A = List I} b [] (part_of leaves home_of (predecessor_of homes rank shift))) ≡ (not b && is_filled leaves home_of (predecessor_of homes rank shift))
    at true = refl
    at false = part_filled leaves home_of (predecessor_of homes rank shift)

-- by whether a home is the rank, its predecessor is the home, its predecessor is the rank, the home is filled, and own and copied items are there
part_by : (a c r f own other : Bool) → (a ≡ true → own ≡ f) → (c ≡ true → other ≡ (not r && f)) → (a ≡ true → c ≡ true → r ≡ true) → (a ≡ false → c ≡ true → r ≡ false)
    → ((a && own) || (c && other)) ≡ ((a || c) && f)
part_by false false r f own other is_own is_other alone apart = refl
part_by false true r f own other is_own is_other alone apart = let e : r ≡ false = apart refl refl in is_other refl ∙ ap (λ b. not b && f) e
part_by true false r f own other is_own is_other alone apart = or-false own ∙ is_own refl
part_by true true r f own other is_own is_other alone apart =
    let e : r ≡ true = alone refl refl in
    let none : other ≡ false = is_other refl ∙ ap (λ b. not b && f) e in
    rw none (or-false own ∙ is_own refl)

given_by : (a c r f p own other : Bool) → (a ≡ true → own ≡ f) → (c ≡ true → other ≡ (not r && f)) → (a ≡ true → c ≡ true → p ≡ true) → (a ≡ false → c ≡ true → r ≡ false)
    → ((a && own) || (c && (other && not p))) ≡ (f && (a || (not p && c)))
given_by false false r f p own other is_own is_other lives apart = sym (ap (λ b. f && b) (and-false (not p)) ∙ and-false f)
given_by false true r f p own other is_own is_other lives apart =
    let e : r ≡ false = apart refl refl in
    let some : other ≡ f = is_other refl ∙ ap (λ b. not b && f) e in
    rw some (ap (λ b. f && b) (sym (and-true (not p))))
given_by true false r f p own other is_own is_other lives apart = or-false own ∙ is_own refl ∙ sym (and-true f)
given_by true true r f p own other is_own is_other lives apart =
    let e : p ≡ true = lives refl refl in
    rw e (ap (λ b. own || b) (and-false other) ∙ or-false own ∙ is_own refl ∙ sym (and-true f))

both_same : (rank predecessor home : ℕ) → (rank == home) ≡ true → (predecessor == home) ≡ true → (predecessor == rank) ≡ true
both_same rank predecessor home one two = eq-eqb predecessor rank (eqb-true predecessor home two ∙ sym (eqb-true rank home one))

not_both : (rank predecessor home : ℕ) → (rank == home) ≡ false → (predecessor == home) ≡ true → (predecessor == rank) ≡ false
not_both rank predecessor home other same = at (predecessor == rank) refl
  where
    at : (b : Bool) → (predecessor == rank) ≡ b → b ≡ false
    at true again = absurd (eqb-false rank home other (sym (eqb-true predecessor rank again) ∙ eqb-true predecessor home same))
    at false _ = refl

module _ {I : Type 0} (filled : ℕ → Bool) (homes : List ℕ) (shift rank : ℕ) (side : Side I) (is : IsStocked filled homes shift rank side) where
  is_own : (home : ℕ) → (rank == home) ≡ true → has_items side.own ≡ filled home
  is_own home same = is.own ∙ ap filled (eqb-true rank home same)

  is_other : (home : ℕ) → (predecessor_of homes rank shift == home) ≡ true → has_items side.other ≡ (not (predecessor_of homes rank shift == rank) && filled home)
  is_other home same = is.other ∙ ap (λ h. not (predecessor_of homes rank shift == rank) && filled h) (eqb-true (predecessor_of homes rank shift) home same)

  -- a side holds a home's part, with an item, where the home is filled and is the rank or its predecessor
  pub holds_is : (home : ℕ) → ((rank == home && has_items side.own) || (side.source == home && has_items side.other))
      ≡ ((rank == home || predecessor_of homes rank shift == home) && filled home)
  holds_is home = ap (λ s. (rank == home && has_items side.own) || (s == home && has_items side.other)) is.source
      ∙ part_by (rank == home) (predecessor_of homes rank shift == home) (predecessor_of homes rank shift == rank) (filled home) (has_items side.own) (has_items side.other)
      (is_own home) (is_other home) (both_same rank (predecessor_of homes rank shift) home) (not_both rank (predecessor_of homes rank shift) home)

  -- a restore gives a home's part, with an item, to a live rank where the home is filled and the rank is its heir
  pub given_is : (live : List ℕ) (home : ℕ) → IsStrictlyIncreasing homes → is_member homes rank ≡ true → is_member live rank ≡ true → is_member homes home ≡ true
      → is_given side rank live home ≡ (filled home && (heir_of homes live shift home == rank))
  given_is live home up is_home lives home_in =
      ap (λ s. (rank == home && has_items side.own) || (s == home && (has_items side.other && not (is_member live s)))) is.source
      ∙ given_by (rank == home) (predecessor_of homes rank shift == home) (predecessor_of homes rank shift == rank) (filled home) (is_member live (predecessor_of homes rank shift))
      (has_items side.own) (has_items side.other) (is_own home) (is_other home)
      (λ one two. ap (is_member live) (eqb-true (predecessor_of homes rank shift) rank (both_same rank (predecessor_of homes rank shift) home one two)) ∙ lives)
      (not_both rank (predecessor_of homes rank shift) home)
      ∙ ap (λ b. filled home && (b || (not (is_member live (predecessor_of homes rank shift)) && predecessor_of homes rank shift == home))) (eqb_swap rank home)
      ∙ ap (λ b. filled home && (home == rank || (not (is_member live (predecessor_of homes rank shift)) && b))) (eqb_swap (predecessor_of homes rank shift) home)
      ∙ ap (λ b. filled home && b) (sym (heir_is homes live shift rank home up is_home lives home_in))

  pub given_among : (live : List ℕ) (home : ℕ) → IsStrictlyIncreasing homes → is_member homes rank ≡ true → is_member live rank ≡ true
      → is_member (filter (is_given side rank live) side.homes) home ≡ (is_member (filter filled homes) home && (heir_of homes live shift home == rank))
  given_among live home up is_home lives =
      member_filter (is_given side rank live) side.homes home
      ∙ ap (λ hs. is_member hs home && is_given side rank live home) is.same
      ∙ at (is_member homes home) refl
      ∙ ap (λ b. b && (heir_of homes live shift home == rank)) (sym (member_filter filled homes home))
    where
      at : (b : Bool) → is_member homes home ≡ b → (b && is_given side rank live home) ≡ ((b && filled home) && (heir_of homes live shift home == rank))
      at true home_in = given_is live home up is_home lives home_in
      at false outside = refl

-- a test that a member passes, of what is told of members
any_from : {L : Type 0} (test : L → Bool) (at : ℕ → L) (members : List ℕ) (rank : ℕ) → is_member members rank ≡ true → test (at rank) ≡ true → list_any test (map at members) ≡ true
any_from test at [] rank is_in passes = absurd (cc)
any_from test at (member ∷ members) rank is_in passes = by (λ later. any_from test at members rank later passes) (member == rank) refl is_in
  where
    by : (is_member members rank ≡ true → list_any test (map at members) ≡ true) → (b : Bool) → (member == rank) ≡ b → (b || is_member members rank) ≡ true
        → (test (at member) || list_any test (map at members)) ≡ true
    by later true same here = ap (λ r. test (at r) || list_any test (map at members)) (eqb-true member rank same) ∙ ap (λ b. b || list_any test (map at members)) passes
    by later false other there = or_right (test (at member)) (list_any test (map at members)) (later there)

any_told : {L : Type 0} (test : L → Bool) (at : ℕ → L) (members : List ℕ) → list_any test (map at members) ≡ true → (rank : ℕ) × ((is_member members rank ≡ true) × (test (at rank) ≡ true))
any_told test at [] some = absurd (cc)
any_told test at (member ∷ members) some = by (any_told test at members) (test (at member)) refl some
  where
    by : (list_any test (map at members) ≡ true → (rank : ℕ) × ((is_member members rank ≡ true) × (test (at rank) ≡ true))) → (b : Bool) → test (at member) ≡ b
        → (b || list_any test (map at members)) ≡ true → (rank : ℕ) × ((is_member (member ∷ members) rank ≡ true) × (test (at rank) ≡ true))
    by later true passes here = (member, (member_head member members, passes))
    by later false fails there = let found = later there in (found.0, (member_tail member found.0 members found.1.0, found.1.1))

-- members whose ranks and sides of the agreed snapshot are told
module _ {L I : Type 0} (look : L → View I) (filled : ℕ → Bool) (shift : ℕ) (homes members : List ℕ) (held : IsHeld filled shift homes members) (at : ℕ → L)
    (its : (rank : ℕ) → is_member members rank ≡ true → (look (at rank)).rank ≡ rank) (stocked : (rank : ℕ) → is_member members rank ≡ true → IsStocked filled homes shift rank (look (at rank)).active) where
  abbrev holds : (home : ℕ) → L → Bool
  holds home local = holds_part home (look local)

  holds_at : (rank home : ℕ) → is_member members rank ≡ true → holds home (at rank) ≡ ((rank == home || predecessor_of homes rank shift == home) && filled home)
  holds_at rank home is_in =
      ap (λ r. (r == home && has_items (look (at rank)).active.own) || ((look (at rank)).active.source == home && has_items (look (at rank)).active.other)) (its rank is_in)
      ∙ holds_is filled homes shift rank (look (at rank)).active (stocked rank is_in) home

  found_at : (rank home : ℕ) → is_member members rank ≡ true → (rank == home || predecessor_of homes rank shift == home) ≡ true → filled home ≡ true
      → list_any (holds home) (map at members) ≡ true
  found_at rank home is_in one full = any_from (holds home) at members rank is_in (holds_at rank home is_in ∙ rw (one, full) refl)

  -- a home's part is at a member where the home is filled
  part_found : (home : ℕ) → is_member homes home ≡ true → list_any (holds home) (map at members) ≡ filled home
  part_found home is_home = same_tests (list_any (holds home) (map at members)) (filled home)
      (λ some.
      let one = any_told (holds home) at members some in
      (and_parts (one.0 == home || predecessor_of homes one.0 shift == home) (filled home) (sym (holds_at one.0 home one.1.0) ∙ one.1.1)).1)
      (λ full. by full (is_member members home) refl (held.safe home is_home full))
    where
      by : filled home ≡ true → (b : Bool) → is_member members home ≡ b → (b || is_member members (buddy_of homes home shift)) ≡ true → list_any (holds home) (map at members) ≡ true
      by full true lives safe = found_at home home lives (let same : (home == home) ≡ true = eq-eqb home home refl in rw same refl) full
      by full false dead buddy = found_at (buddy_of homes home shift) home buddy
          (let back : (predecessor_of homes (buddy_of homes home shift) shift == home) ≡ true =
          eq-eqb (predecessor_of homes (buddy_of homes home shift) shift) home (predecessor_undoes homes home shift held.homes_rise is_home) in
          rw back (or-true (buddy_of homes home shift == home))) full

  -- the stored homes are those that are filled
  pub stored_is : stored_of look (map at members) ≡ filter filled homes
  unfolding stored_of
  stored_is = by members refl
    where
      nobody : (home : ℕ) → is_member homes home ≡ true → [] ≡ members → (b : Bool) → filled home ≡ b → b ≡ false
      nobody home is_home none true full =
          absurd (let e : (is_member [] home || is_member [] (buddy_of homes home shift)) ≡ true = ap (λ ms. is_member ms home || is_member ms (buddy_of homes home shift)) none ∙ held.safe home is_home full in cc)
      nobody home is_home none false empty = refl

      no_homes : (hs : List ℕ) → [] ≡ filter (λ home. false) hs
      no_homes [] = refl
      no_homes (h ∷ hs) = no_homes hs

      by : (ms : List ℕ) → ms ≡ members → filter (λ home. list_any (holds home) (map at ms)) (homes_of look (map at ms)) ≡ filter filled homes
      by [] none = no_homes homes ∙ sym (filter_members filled (λ home. false) homes (λ home is_home. nobody home is_home none (filled home) refl))
      by (m ∷ ms) e =
          ap (filter (λ home. list_any (holds home) (map at (m ∷ ms)))) (stocked m (ap (λ xs. is_member xs m) (sym e) ∙ member_head m ms)).same
          ∙ filter_members (λ home. list_any (holds home) (map at (m ∷ ms))) filled homes
          (λ home is_home. ap (λ xs. list_any (holds home) (map at xs)) e ∙ part_found home is_home)
