-- What a live rank goes on with is its part of the same leaves, whose owners are the heirs.
use Rattle.std.proofs.Common.{◌≡◌, ◌≢◌, ℕ, Bool, true, false, cond, List, [], map, refl, ap, sym, ◌∙◌, arith}
use Rattle.std.proofs.Math.Bool.{or-false, and-false}
use Rattle.std.specs.Prelude.{◌==◌, ◌||◌, ◌&&◌, not, filter}
use Rattle.std.specs.List.Sorted.{IsStrictlyIncreasing}
use Rattle.std.proofs.lemmas.Bool.{eqb-true}
use Rattle.std.proofs.lemmas.Bool.Decides.{nat_tests}
use Rattle.bf_buddy.specs.Members.{is_member}
use Rattle.bf_buddy.specs.Buddy.{buddy_of, predecessor_of}
use Rattle.bf_program.specs.Restores.{heir_of}
use Rattle.bf_parts.specs.SideLaws.{gives_is, heir_test}
use Rattle.bf_parts.specs.Sides.{gives}
use Rattle.bf_parts.specs.Leaves.{Kind, Leaves, AreLeaves, AreAmong, part_of, side_at}
use Rattle.bf_parts.specs.Merges.{merged, regained}
use Rattle.bf_lemmas.proofs.Lists.{map_twice, filter_alike}
use Rattle.bf_parts.specs.MergeLaws.{merged_is}

-- by whether a home is the rank, it lives, the rank is its buddy, and the rank's predecessor lives
heir_by_tests : (a l g p : Bool) → (a ≡ true → l ≡ true) → (g ≡ true → p ≡ l) → cond l a g ≡ (a || (not p && g))
heir_by_tests true false g p own same = absurd (let e : false ≡ true = own refl in cc)
heir_by_tests true true g p own same = refl
heir_by_tests false true true p own same = let e : p ≡ true = same refl in rw e refl
heir_by_tests false true false p own same = sym (and-false (not p))
heir_by_tests false false true p own same = let e : p ≡ false = same refl in rw e refl
heir_by_tests false false false p own same = sym (and-false (not p))

pub heir_is : (homes live : List ℕ) (shift rank home : ℕ) → IsStrictlyIncreasing homes → is_member homes rank ≡ true → is_member live rank ≡ true → is_member homes home ≡ true
    → (heir_of homes live shift home == rank) ≡ (home == rank || (not (is_member live (predecessor_of homes rank shift)) && home == predecessor_of homes rank shift))
unfolding gives
heir_is homes live shift rank home up is_home lives home_in =
    heir_test homes live shift home rank
    ∙ ap (λ b. cond (is_member live home) (home == rank) b) (ap (λ b. b && (buddy_of homes home shift == rank)) (sym home_in) ∙ gives_is homes shift home rank up is_home)
    ∙ heir_by_tests (home == rank) (is_member live home) (home == predecessor_of homes rank shift) (is_member live (predecessor_of homes rank shift))
    (λ same. ap (is_member live) (eqb-true home rank same) ∙ lives)
    (λ same. ap (is_member live) (sym (eqb-true home (predecessor_of homes rank shift) same)))

apart_tests : (a r p : ℕ) → p ≢ r → (a == r) ≡ true → (a == p) ≡ false
apart_tests a r p apart same = grind (arith, nat_tests, apart)

module _ {K I : Type 0} (kind : Kind I) (leaves : Leaves K I) (are : AreLeaves kind leaves) (homes live : List ℕ) (shift : ℕ) (home_of : K → ℕ) (rank : ℕ)
    (up : IsStrictlyIncreasing homes) (is_home : is_member homes rank ≡ true) (lives : is_member live rank ≡ true) (housed : AreAmong homes leaves home_of) where
  -- who goes on with each leaf
  heirs : K → ℕ
  unfolding part_of
  heirs key = heir_of homes live shift (home_of key)

  remapped_part : (test : K → Bool) → map (kind.remap (λ r. heir_of homes live shift r)) (map (leaves.item home_of) (filter test leaves.keys))
      ≡ map (leaves.item (λ key. heir_of homes live shift (home_of key))) (filter test leaves.keys)
  remapped_part test = map_twice (kind.remap (λ r. heir_of homes live shift r)) (leaves.item home_of) (leaves.item (λ key. heir_of homes live shift (home_of key)))
      (λ key. are.remapped (λ r. heir_of homes live shift r) home_of key) (filter test leaves.keys)

  same_test : (p : Bool) → is_member live (predecessor_of homes rank shift) ≡ p
      → filter (λ key. home_of key == rank || (not p && home_of key == predecessor_of homes rank shift)) leaves.keys
      ≡ filter (λ key. heir_of homes live shift (home_of key) == rank) leaves.keys
  same_test p is = filter_alike (λ key. is_member homes (home_of key) ≡ true) (λ key. home_of key == rank || (not p && home_of key == predecessor_of homes rank shift))
      (λ key. heir_of homes live shift (home_of key) == rank)
      (λ key home_in. ap (λ b. home_of key == rank || (not b && home_of key == predecessor_of homes rank shift)) (sym is)
      ∙ sym (heir_is homes live shift rank (home_of key) up is_home lives home_in))
      leaves.keys housed

  apart : is_member live (predecessor_of homes rank shift) ≡ false → predecessor_of homes rank shift ≢ rank
  apart dead same = let e : true ≡ false = sym lives ∙ ap (is_member live) (sym same) ∙ dead in cc

  copy_is : predecessor_of homes rank shift ≢ rank → cond (predecessor_of homes rank shift == rank) [] (part_of leaves home_of (predecessor_of homes rank shift))
      ≡ part_of leaves home_of (predecessor_of homes rank shift)
  copy_is other = at (predecessor_of homes rank shift == rank) refl
    where
      at : (b : Bool) → (predecessor_of homes rank shift == rank) ≡ b → cond b [] (part_of leaves home_of (predecessor_of homes rank shift)) ≡ part_of leaves home_of (predecessor_of homes rank shift)
      at true same = absurd (other (eqb-true (predecessor_of homes rank shift) rank same))
      at false _ = refl

  pub regained_is : (time : ℕ) → regained kind (side_at time homes shift leaves home_of rank) shift live ≡ part_of leaves (λ key. heir_of homes live shift (home_of key)) rank
  unfolding regained part_of
  regained_is time = at (is_member live (predecessor_of homes rank shift)) refl
    where
      own : List I
      own = map (leaves.item home_of) (filter (λ key. home_of key == rank) leaves.keys)

      at : (p : Bool) → is_member live (predecessor_of homes rank shift) ≡ p
          → map (kind.remap (λ r. heir_of homes live shift r)) (cond p (map (leaves.item home_of) (filter (λ key. home_of key == rank) leaves.keys))
          (merged kind.first (map (leaves.item home_of) (filter (λ key. home_of key == rank) leaves.keys))
          (cond (predecessor_of homes rank shift == rank) [] (map (leaves.item home_of) (filter (λ key. home_of key == predecessor_of homes rank shift) leaves.keys)))))
          ≡ map (leaves.item (λ key. heir_of homes live shift (home_of key))) (filter (λ key. heir_of homes live shift (home_of key) == rank) leaves.keys)
      at true alive = remapped_part (λ key. home_of key == rank)
          ∙ ap (map (leaves.item (λ key. heir_of homes live shift (home_of key))))
          (filter_alike (λ key. is_member homes (home_of key) ≡ true) (λ key. home_of key == rank) (λ key. home_of key == rank || (not true && home_of key == predecessor_of homes rank shift))
          (λ key home_in. sym (or-false (home_of key == rank))) leaves.keys housed ∙ same_test true alive)
      at false dead =
          ap (λ (others : List I). map (kind.remap (λ r. heir_of homes live shift r)) (merged kind.first (map (leaves.item home_of) (filter (λ key. home_of key == rank) leaves.keys)) others))
          (copy_is (apart dead))
          ∙ ap (map (kind.remap (λ r. heir_of homes live shift r)))
          (merged_is kind.first (leaves.item home_of) (λ key. home_of key == rank) (λ key. home_of key == predecessor_of homes rank shift)
          (λ key same. apart_tests (home_of key) rank (predecessor_of homes rank shift) (apart dead) same) leaves.keys (are.rising home_of))
          ∙ remapped_part (λ key. home_of key == rank || home_of key == predecessor_of homes rank shift)
          ∙ ap (map (leaves.item (λ key. heir_of homes live shift (home_of key)))) (same_test false dead)
