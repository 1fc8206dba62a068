-- Whose copies a rank has, and who goes on for whom.
use Rattle.std.proofs.Common.{◌≡◌, ℕ, ◌<◌, Bool, true, false, cond, List, length, refl, ap, sym, ◌∙◌}
use Rattle.std.specs.Prelude.{◌==◌, ◌&&◌, ◌||◌}
use Rattle.std.specs.List.Sorted.{IsStrictlyIncreasing}
use Rattle.std.proofs.lemmas.Bool.{eqb-true, eq-eqb, and_parts}
use Rattle.bf_buddy.proofs.BuddyLemmas.{place_found, member_found, predecessor_within, predecessor_at}
use Rattle.bf_buddy.proofs.LawLemmas.{predecessor_undoes, buddy_undoes}
use Rattle.bf_buddy.specs.Buddy.{place_of, buddy_of, predecessor_place, predecessor_of}
use Rattle.bf_buddy.specs.Members.{is_member}
use Rattle.bf_program.specs.Laws.{is_holder}
use Rattle.bf_program.specs.Restores.{heir_of}
use Rattle.bf_lemmas.proofs.Tests.{eqb_swap}
use Rattle.bf_parts.specs.Sides.{gives, source_of}

pub predecessor_member : (members : List ℕ) (rank shift : ℕ) → IsStrictlyIncreasing members → is_member members rank ≡ true
    → is_member members (predecessor_of members rank shift) ≡ true
predecessor_member members rank shift up is_in =
    let within : predecessor_place (length members) (place_of members rank) shift < length members =
    predecessor_within (length members) (place_of members rank) shift (place_found members rank is_in) in
    ap (is_member members) (sym (predecessor_at members rank shift up is_in)) ∙ member_found members (predecessor_place (length members) (place_of members rank) shift) within

-- the member whose buddy a rank is, is its predecessor
pub gives_is : (members : List ℕ) (shift from rank : ℕ) → IsStrictlyIncreasing members → is_member members rank ≡ true
    → gives members shift from rank ≡ (from == predecessor_of members rank shift)
unfolding gives
gives_is members shift from rank up is_in =
    at (from == predecessor_of members rank shift) refl (is_member members from && (buddy_of members from shift == rank)) refl
  where
    at : (b : Bool) → (from == predecessor_of members rank shift) ≡ b → (c : Bool) → (is_member members from && (buddy_of members from shift == rank)) ≡ c → c ≡ b
    at true same true is_giver = refl
    at false other false is_no_giver = refl
    at true same false is_no_giver =
        let e : from ≡ predecessor_of members rank shift = eqb-true from (predecessor_of members rank shift) same in
        let member : is_member members from ≡ true = ap (is_member members) e ∙ predecessor_member members rank shift up is_in in
        let buddy : (buddy_of members from shift == rank) ≡ true =
        eq-eqb (buddy_of members from shift) rank (ap (λ r. buddy_of members r shift) e ∙ buddy_undoes members rank shift up is_in) in
        sym is_no_giver ∙ rw (member, buddy) refl
    at false other true is_giver =
        let parts = and_parts (is_member members from) (buddy_of members from shift == rank) is_giver in
        let buddy : buddy_of members from shift ≡ rank = eqb-true (buddy_of members from shift) rank parts.1 in
        let e : from ≡ predecessor_of members rank shift =
        sym (predecessor_undoes members from shift up parts.0) ∙ ap (λ r. predecessor_of members r shift) buddy in
        sym (eq-eqb from (predecessor_of members rank shift) e) ∙ other

-- a member's source is its predecessor
pub source_is : (members : List ℕ) (shift rank : ℕ) → is_member members rank ≡ true → source_of members shift rank ≡ predecessor_of members rank shift
unfolding source_of
source_is members shift rank is_in = rw is_in refl

-- who is to hold another's part is its buddy, and that is its predecessor
pub holder_before : (shift : ℕ) (homes : List ℕ) (rank home : ℕ) → IsStrictlyIncreasing homes → is_member homes home ≡ true → (rank == home) ≡ false
    → is_holder homes shift home rank ≡ true → predecessor_of homes rank shift ≡ home
holder_before shift homes rank home up is_home other holds = at (home == rank) (eqb_swap home rank ∙ other) holds
  where
    at : (b : Bool) → b ≡ false → (b || (buddy_of homes home shift == rank)) ≡ true → predecessor_of homes rank shift ≡ home
    at true same found = absurd (cc)
    at false _ buddy = ap (λ r. predecessor_of homes r shift) (sym (eqb-true (buddy_of homes home shift) rank buddy)) ∙ predecessor_undoes homes home shift up is_home

-- who the heir of a home is
pub heir_test : (homes live : List ℕ) (shift home rank : ℕ) → (heir_of homes live shift home == rank) ≡ cond (is_member live home) (home == rank) (buddy_of homes home shift == rank)
heir_test homes live shift home rank = at (is_member live home)
  where
    at : (b : Bool) → (cond b home (buddy_of homes home shift) == rank) ≡ cond b (home == rank) (buddy_of homes home shift == rank)
    at true = refl
    at false = refl
