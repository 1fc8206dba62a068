-- Who is whose partner in the snapshot round.
use Rattle.std.proofs.Common.{◌≡◌, ◌≢◌, ℕ, Bool, true, false, List, refl, ap, sym, ◌∙◌}
use Rattle.std.specs.Prelude.{◌==◌, ◌||◌, ◌&&◌, not}
use Rattle.std.proofs.Math.Bool.{or-true, or_comm}
use Rattle.std.proofs.lemmas.Bool.{eqb-true, eq-eqb, and_parts}
use Rattle.bf_buddy.specs.Buddy.{buddy_of}
use Rattle.bf_buddy.specs.Members.{is_member}
use Rattle.bf_lemmas.proofs.Tests.{eqb_swap}
use Rattle.bf_parts.specs.Sides.{gives}
use Rattle.bf_parts.specs.SnapshotRounds.{are_paired}

-- no rank is its own partner, partners are mutual, and to whom another gives its part is its partner
pub paired_apart : (members : List ℕ) (shift rank : ℕ) → are_paired members shift rank rank ≡ false
unfolding are_paired
paired_apart members shift rank = let same : (rank == rank) ≡ true = eq-eqb rank rank refl in rw same refl

pub paired_both : (members : List ℕ) (shift a b : ℕ) → are_paired members shift a b ≡ are_paired members shift b a
unfolding are_paired
paired_both members shift a b = ap (λ t. not t && (buddy_of members a shift == b || buddy_of members b shift == a)) (eqb_swap a b)
    ∙ ap (λ t. not (b == a) && t) (or_comm (buddy_of members a shift == b) (buddy_of members b shift == a))

pub paired_holders : (members : List ℕ) (shift from to : ℕ) → gives members shift from to ≡ true → from ≢ to → are_paired members shift to from ≡ true
unfolding are_paired gives
paired_holders members shift from to giver apart =
    let buddy : (buddy_of members from shift == to) ≡ true = (and_parts (is_member members from) (buddy_of members from shift == to) giver).1 in
    at (to == from) refl ∙ ap (λ b. buddy_of members to shift == from || b) buddy ∙ or-true (buddy_of members to shift == from)
  where
    at : (b : Bool) → (to == from) ≡ b → (not b && (buddy_of members to shift == from || buddy_of members from shift == to)) ≡ (buddy_of members to shift == from || buddy_of members from shift == to)
    at true same = absurd (apart (sym (eqb-true to from same)))
    at false _ = refl
