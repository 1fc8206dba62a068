-- Which parts of the agreed snapshot are lost, by who has died in the journal.
use Rattle.std.proofs.Common.{◌≡◌, ℕ, zero, suc, ◌+◌, ◌<◌, ◌≤◌, Bool, true, false, cond, ◌&&◌, ◌||◌, not, List, ◌∷◌, filter, length, arith, refl, sym, subst, ◌∙◌, ap, inl, inr}
use Rattle.std.specs.Prelude.{◌⊎◌, ◌==◌, find, Option, Some, None}
use Rattle.std.specs.List.{range_with_len}
use Rattle.std.specs.Option.{option_map}
use Rattle.std.proofs.lemmas.Bool.{eqb-true, and_parts, and_from}
use Rattle.std.proofs.lemmas.Option.{same_Some, some_pair_parts}
use Rattle.bf_buddy.specs.Members.{is_member}
use Rattle.bf_buddy.specs.Buddy.{place_of, buddy_place, buddy_of}
use Rattle.bf_buddy.specs.Losses.{is_lost, first_lost_home, first_lost_of}
use Rattle.bf_buddy.proofs.BuddyLemmas.{place_found, member_found, buddy_within, buddy_at}
use Rattle.bf_buddy.proofs.MemberLemmas.{member_head, member_tail}
use Rattle.bf_core.specs.declared.event.Event.{Event}
use Rattle.bf_core.specs.States.{State}
use Rattle.bf_core.proofs.LawLemmas.{Losses}
use Rattle.bf_world.specs.Losses.{has_died, survivors, BothHoldersDied, IsFirstLost}
use Rattle.bf_world.proofs.DeathLemmas.{member_survivors}
use Rattle.bf_world.proofs.MemberLemmas.{above}
use Rattle.bf_world.proofs.WaitingLemmas.{below_end}

-- what a search finds among the ranks that pass a test: the first that it looks for
record IsFirst (test : ℕ → Bool) (xs : List ℕ) (x : ℕ) : Type 0 where
  pub listed : is_member xs x ≡ true
  pub passes : test x ≡ true
  pub first : (other : ℕ) → is_member xs other ≡ true → test other ≡ true → x ≤ other

-- a search among the ranks that pass a test finds the first
found_first : (test p : ℕ → Bool) (k n x : ℕ) → find test (filter p (range_with_len k n)) ≡ Some x → IsFirst test (filter p (range_with_len k n)) x
found_first test p k zero x found = absurd (cc)
found_first test p k (suc n) x found = by_first (p k) (test k) refl (found_first test p (k + 1) n x) found
  where
    by_head : (other : ℕ) (b : Bool) → (k == other) ≡ b → (b || is_member (filter p (range_with_len (k + 1) n)) other) ≡ true
        → (k ≡ other) ⊎ (is_member (filter p (range_with_len (k + 1) n)) other ≡ true)
    by_head other true same _ = inl (eqb-true k other same)
    by_head other false differs later = inr later

    by_first : (b c : Bool) → test k ≡ c → (find test (filter p (range_with_len (k + 1) n)) ≡ Some x → IsFirst test (filter p (range_with_len (k + 1) n)) x)
        → find test (cond b (k ∷ filter p (range_with_len (k + 1) n)) (filter p (range_with_len (k + 1) n))) ≡ Some x
        → IsFirst test (cond b (k ∷ filter p (range_with_len (k + 1) n)) (filter p (range_with_len (k + 1) n))) x
    by_first false c is rest is_found = rest is_found
    by_first true true passes rest is_found =
        let same : k ≡ x = same_Some k x (rw passes at is_found) in
        record {
          listed = subst (λ y. is_member (k ∷ filter p (range_with_len (k + 1) n)) y ≡ true) same (member_head k (filter p (range_with_len (k + 1) n)));
          passes = ap test (sym same) ∙ passes;
          first = λ other member _. elim (by_head other (k == other) refl member) [
            | inl e ↦ omega (arith, e, same)
            | inr later ↦ omega (arith, same, above p (k + 1) n other later)
          ];
        }
    by_first true false fails rest is_found =
        let later : IsFirst test (filter p (range_with_len (k + 1) n)) x = rest (rw fails at is_found) in
        record {
          listed = member_tail k x (filter p (range_with_len (k + 1) n)) later.listed;
          passes = later.passes;
          first = λ other member passes. elim (by_head other (k == other) refl member) [
            | inl e ↦ absurd (let both : true ≡ false = sym passes ∙ ap test (sym e) ∙ fails in cc)
            | inr there ↦ later.first other there passes
          ];
        }

-- the buddy of a home is a home
buddy_member : (homes : List ℕ) (home shift : ℕ) → is_member homes home ≡ true → is_member homes (buddy_of homes home shift) ≡ true
buddy_member homes home shift member =
    let within : place_of homes home < length homes = place_found homes home member in
    let next : buddy_place (length homes) (place_of homes home) shift < length homes = buddy_within (length homes) (place_of homes home) shift within in
    ap (is_member homes) (sym (buddy_at homes home shift)) ∙ member_found homes (buddy_place (length homes) (place_of homes home) shift) next

-- the homes of a state are some of its ranks, in rising order
abbrev pub AreRanks : (homes : List ℕ) (ranks : ℕ) → Type 0
AreRanks homes ranks = (p : ℕ → Bool) × (homes ≡ filter p (range_with_len 0 ranks))

-- a home is a rank
home_below : (homes : List ℕ) (ranks home : ℕ) → AreRanks homes ranks → is_member homes home ≡ true → home < ranks
home_below homes ranks home among member =
    let below : home < 0 + ranks = below_end among.0 0 ranks home (ap (λ hs. is_member hs home) (sym among.1) ∙ member) in
    omega (arith, below)

-- the parts of an agreed snapshot, seen from a journal
module _ (agreed : State) (told : List Event) (ranks : ℕ) (among : AreRanks agreed.epoch.homes ranks)
    (listed : (home : ℕ) → is_member agreed.stored home ≡ true → is_member agreed.epoch.homes home ≡ true) where
  -- a home's part is lost where it has a block and both holders have died
  lost_here : (home : ℕ) → is_member agreed.epoch.homes home ≡ true
      → is_lost agreed.epoch.homes agreed.stored (survivors ranks told) agreed.shift home
      ≡ (is_member agreed.stored home && has_died told home && has_died told (buddy_of agreed.epoch.homes home agreed.shift))
  unfolding is_lost
  lost_here home is_home =
      let buddy : ℕ = buddy_of agreed.epoch.homes home agreed.shift in
      ap (λ b. is_member agreed.stored home && not b && not (is_member (survivors ranks told) buddy))
      (member_survivors ranks told home (home_below agreed.epoch.homes ranks home among is_home))
      ∙ ap (λ b. is_member agreed.stored home && not (not (has_died told home)) && not b)
      (member_survivors ranks told buddy (home_below agreed.epoch.homes ranks buddy among (buddy_member agreed.epoch.homes home agreed.shift is_home)))
      ∙ twice (is_member agreed.stored home) (has_died told home) (has_died told buddy)
    where
      twice : (a b c : Bool) → (a && not (not b) && not (not c)) ≡ (a && b && c)
      twice a true true = refl
      twice a true false = refl
      twice a false true = refl
      twice a false false = refl

  both_died : (home : ℕ) → is_member agreed.epoch.homes home ≡ true
      → is_lost agreed.epoch.homes agreed.stored (survivors ranks told) agreed.shift home ≡ true → BothHoldersDied agreed told home
  both_died home is_home lost =
      let all = and_parts (is_member agreed.stored home && has_died told home) _ (sym (lost_here home is_home) ∙ lost) in
      let two = and_parts (is_member agreed.stored home) (has_died told home) all.0 in
      record { has_block = two.0; home_died = two.1; buddy_died = all.1 }

  died_both : (home : ℕ) → BothHoldersDied agreed told home
      → is_lost agreed.epoch.homes agreed.stored (survivors ranks told) agreed.shift home ≡ true
  died_both home died =
      lost_here home (listed home died.has_block)
      ∙ and_from (is_member agreed.stored home && has_died told home) _ (and_from (is_member agreed.stored home) (has_died told home) died.has_block died.home_died) died.buddy_died

  -- the part found lost is the first whose holders have both died
  pub lost_first : (home buddy : ℕ) → first_lost_of agreed.epoch.homes agreed.stored (survivors ranks told) agreed.shift ≡ Some (home, buddy)
      → IsFirstLost agreed told agreed.epoch.time home buddy
  unfolding first_lost_of first_lost_home
  lost_first home buddy found =
      by_home (find (is_lost agreed.epoch.homes agreed.stored (survivors ranks told) agreed.shift) agreed.epoch.homes) refl found
    where
      by_home : (o : Option ℕ) → find (is_lost agreed.epoch.homes agreed.stored (survivors ranks told) agreed.shift) agreed.epoch.homes ≡ o
          → option_map {U = ℕ × ℕ} (λ h. (h, buddy_of agreed.epoch.homes h agreed.shift)) o ≡ Some (home, buddy) → IsFirstLost agreed told agreed.epoch.time home buddy
      by_home None none same = absurd (cc)
      by_home (Some h) is same =
          let pair = some_pair_parts {A = ℕ} {B = ℕ} h home (buddy_of agreed.epoch.homes h agreed.shift) buddy same in
          let its : find (is_lost agreed.epoch.homes agreed.stored (survivors ranks told) agreed.shift) agreed.epoch.homes ≡ Some home = is ∙ ap Some pair.0 in
          let at : IsFirst (is_lost agreed.epoch.homes agreed.stored (survivors ranks told) agreed.shift) agreed.epoch.homes home =
          subst (λ homes. find (is_lost agreed.epoch.homes agreed.stored (survivors ranks told) agreed.shift) homes ≡ Some home
          → IsFirst (is_lost agreed.epoch.homes agreed.stored (survivors ranks told) agreed.shift) homes home) (sym among.1)
          (found_first (is_lost agreed.epoch.homes agreed.stored (survivors ranks told) agreed.shift) among.0 0 ranks home) its in
          record {
            its_time = refl;
            its_buddy = sym pair.1 ∙ ap (λ r. buddy_of agreed.epoch.homes r agreed.shift) pair.0;
            lost = both_died home at.listed at.passes;
            first = λ other died. at.first other (listed other died.has_block) (died_both other died);
          }

  -- where both holders of a part have died, some part is found lost
  pub some_lost : Losses → (home : ℕ) → BothHoldersDied agreed told home
      → (pair : ℕ × ℕ) × (first_lost_of agreed.epoch.homes agreed.stored (survivors ranks told) agreed.shift ≡ Some pair)
  some_lost losses home died = by_loss (first_lost_of agreed.epoch.homes agreed.stored (survivors ranks told) agreed.shift) refl
    where
      is_home : is_member agreed.epoch.homes home ≡ true
      is_home = listed home died.has_block

      buddy : ℕ
      buddy = buddy_of agreed.epoch.homes home agreed.shift

      gone : (rank : ℕ) → rank < ranks → has_died told rank ≡ true → is_member (survivors ranks told) rank ≡ false
      gone rank below dead = member_survivors ranks told rank below ∙ ap not dead

      neither : (a b : Bool) → a ≡ false → b ≡ false → (a || b) ≡ true → ⊥
      neither true b fails _ _ = absurd (cc)
      neither false true _ fails _ = absurd (cc)
      neither false false _ _ some = absurd (cc)

      by_loss : (o : Option (ℕ × ℕ)) → first_lost_of agreed.epoch.homes agreed.stored (survivors ranks told) agreed.shift ≡ o
          → (pair : ℕ × ℕ) × (first_lost_of agreed.epoch.homes agreed.stored (survivors ranks told) agreed.shift ≡ Some pair)
      by_loss (Some pair) is = (pair, is)
      by_loss None none = absurd (neither (is_member (survivors ranks told) home) (is_member (survivors ranks told) (buddy_of agreed.epoch.homes home agreed.shift))
          (gone home (home_below agreed.epoch.homes ranks home among is_home) died.home_died)
          (gone (buddy_of agreed.epoch.homes home agreed.shift)
          (home_below agreed.epoch.homes ranks (buddy_of agreed.epoch.homes home agreed.shift) among (buddy_member agreed.epoch.homes home agreed.shift is_home)) died.buddy_died)
          ((losses agreed.epoch.homes agreed.stored (survivors ranks told) agreed.shift).0 none home is_home died.has_block))
