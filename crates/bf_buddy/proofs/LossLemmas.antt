-- The search for the first lost home.
use Rattle.std.proofs.Common.{◌≡◌, ℕ, ◌+◌, ◌<◌, ◌≤◌, Bool, true, false, cond, not, ◌&&◌, ◌||◌, List, [], ◌∷◌, refl, ap, sym, ◌∙◌}
use Rattle.std.specs.Prelude.{◌==◌, ◌↔◌, find, Option, Some, None}
use Rattle.std.specs.Option.{option_map}
use Rattle.std.proofs.lemmas.Bool.{eqb-true}
use Rattle.bf_buddy.specs.Members.{is_member, ranks_in, has_bit}
use Rattle.bf_buddy.specs.Buddy.{buddy_of}
use Rattle.bf_buddy.specs.Losses.{is_lost, first_lost_home, first_lost_of, LosesNothing}
use Rattle.bf_buddy.proofs.MemberLemmas.{member_head, member_tail}
use Rattle.bf_buddy.proofs.BitLemmas.{ranks_from, ranks_from-zero, ranks_from-end, ranks_from-has, ranks_from-lacks, is_member-ranks_in}

-- the first lost home from a rank on, of homes that are bits
unfoldable pub lost_from : (homes filled live : List ℕ) (shift bits rank : ℕ) → Option ℕ
lost_from homes filled live shift bits rank = find (is_lost homes filled live shift) (ranks_from bits rank)

-- the bit of a home
home_bit : (homes : List ℕ) (bits home : ℕ) (b : Bool) → homes ≡ ranks_in bits → home < 32 → is_member homes home ≡ b → has_bit bits home ≡ b
home_bit homes bits home b stored below test = sym (is_member-ranks_in bits home below) ∙ ap (λ ranks. is_member ranks home) (sym stored) ∙ test

pub lost_here : (homes filled live : List ℕ) (shift bits home : ℕ) → homes ≡ ranks_in bits → home < 32 → is_member homes home ≡ true
    → is_lost homes filled live shift home ≡ true → lost_from homes filled live shift bits home ≡ Some home
unfolding lost_from
lost_here homes filled live shift bits home stored below member lost =
    rw (ranks_from-has bits home below (home_bit homes bits home true stored below member)) (rw lost refl)

pub lost_next : (homes filled live : List ℕ) (shift bits home : ℕ) → homes ≡ ranks_in bits → home < 32 → is_member homes home ≡ true
    → is_lost homes filled live shift home ≡ false → lost_from homes filled live shift bits home ≡ lost_from homes filled live shift bits (home + 1)
unfolding lost_from
lost_next homes filled live shift bits home stored below member kept =
    rw (ranks_from-has bits home below (home_bit homes bits home true stored below member)) (rw kept refl)

pub lost_past : (homes filled live : List ℕ) (shift bits home : ℕ) → homes ≡ ranks_in bits → home < 32 → is_member homes home ≡ false
    → lost_from homes filled live shift bits home ≡ lost_from homes filled live shift bits (home + 1)
unfolding lost_from
lost_past homes filled live shift bits home stored below stranger =
    rw (ranks_from-lacks bits home below (home_bit homes bits home false stored below stranger)) refl

pub lost_end : (homes filled live : List ℕ) (shift bits home : ℕ) → 32 ≤ home → lost_from homes filled live shift bits home ≡ None
unfolding lost_from
lost_end homes filled live shift bits home end = rw (ranks_from-end bits home end) refl

pub lost_start : (homes filled live : List ℕ) (shift bits : ℕ) → homes ≡ ranks_in bits → lost_from homes filled live shift bits 0 ≡ first_lost_home homes filled live shift
unfolding lost_from first_lost_home
lost_start homes filled live shift bits stored = ap (find (is_lost homes filled live shift)) (sym (ranks_from-zero bits) ∙ sym stored)

pub pair_found : (homes filled live : List ℕ) (shift home : ℕ) → first_lost_home homes filled live shift ≡ Some home
    → first_lost_of homes filled live shift ≡ Some (home, buddy_of homes home shift)
unfolding first_lost_of
pair_found homes filled live shift home found = rw found refl

pub pair_none : (homes filled live : List ℕ) (shift : ℕ) → first_lost_home homes filled live shift ≡ None → first_lost_of homes filled live shift ≡ None
unfolding first_lost_of
pair_none homes filled live shift none = rw none refl

-- where a search finds nothing, each member fails its test
none_passes : (test : ℕ → Bool) (xs : List ℕ) → find test xs ≡ None → (r : ℕ) → is_member xs r ≡ true → test r ≡ false
none_passes test [] none r member = absurd (cc)
none_passes test (x ∷ rest) none r member = first_fails (λ later. none_passes test rest later r) (test x) refl none member
  where
    at_first : (find test rest ≡ None → is_member rest r ≡ true → test r ≡ false) → (b : Bool) → (x == r) ≡ b → test x ≡ false → find test rest ≡ None → (b || is_member rest r) ≡ true → test r ≡ false
    at_first in_rest true same fails later _ = ap test (sym (eqb-true x r same)) ∙ fails
    at_first in_rest false other fails later is_later = in_rest later is_later

    first_fails : (find test rest ≡ None → is_member rest r ≡ true → test r ≡ false) → (b : Bool) → test x ≡ b → cond b (Some x) (find test rest) ≡ None → is_member (x ∷ rest) r ≡ true → test r ≡ false
    first_fails in_rest true passes found _ = absurd (cc)
    first_fails in_rest false fails later is_in = at_first in_rest (x == r) refl fails later is_in

-- where each member fails its test, a search finds nothing
finds_none : (test : ℕ → Bool) (xs : List ℕ) → ((r : ℕ) → is_member xs r ≡ true → test r ≡ false) → find test xs ≡ None
finds_none test [] fails = refl
finds_none test (x ∷ rest) fails =
    let here : test x ≡ false = fails x (member_head x rest) in
    let later : find test rest ≡ None = finds_none test rest (λ r member. fails r (member_tail x r rest member)) in
    rw (here, later) refl

kept_by : (filled home buddy : Bool) → (filled && not home && not buddy) ≡ false → filled ≡ true → (home || buddy) ≡ true
kept_by filled true buddy kept is_filled = refl
kept_by filled false true kept is_filled = refl
kept_by true false false kept is_filled = sym kept
kept_by false false false kept is_filled = is_filled

not_lost : (filled home buddy : Bool) → (filled ≡ true → (home || buddy) ≡ true) → (filled && not home && not buddy) ≡ false
not_lost false home buddy keeps = refl
not_lost true true buddy keeps = refl
not_lost true false true keeps = refl
not_lost true false false keeps = sym (keeps refl)

none_home : (homes : List ℕ) (shift : ℕ) (found : Option ℕ) → option_map {U = ℕ × ℕ} (λ home. (home, buddy_of homes home shift)) found ≡ None → found ≡ None
none_home homes shift None none = refl
none_home homes shift (Some home) none = absurd (cc)

pub none_lost : (homes filled live : List ℕ) (shift : ℕ) → (first_lost_of homes filled live shift ≡ None) ↔ LosesNothing homes filled live shift
unfolding first_lost_of first_lost_home is_lost
none_lost homes filled live shift = (
  (λ none. λ home. λ member. λ is_filled. kept_by (is_member filled home) (is_member live home) (is_member live (buddy_of homes home shift))
      (none_passes (is_lost homes filled live shift) homes (none_home homes shift (find (is_lost homes filled live shift) homes) none) home member) is_filled),
  (λ keeps. ap (option_map {U = ℕ × ℕ} (λ home. (home, buddy_of homes home shift)))
      (finds_none (is_lost homes filled live shift) homes (λ home member. not_lost (is_member filled home) (is_member live home) (is_member live (buddy_of homes home shift)) (keeps home member)))),
)

pub ruleset loss_steps = (lost_here, lost_next, lost_past, lost_end, lost_start, pair_found, pair_none, none_lost)
