-- Items that come from several ranks, merged: the leaves of their new owner.
use Rattle.std.proofs.Common.{◌≡◌, ℕ, Bool, true, false, List, [], ◌∷◌, map, refl, ap, sym, ◌∙◌}
use Rattle.std.proofs.Math.Bool.{or-false, and-true, and-false}
use Rattle.std.specs.Prelude.{◌==◌, ◌||◌, ◌&&◌, filter, AllPairs}
use Rattle.std.specs.List.{fold}
use Rattle.std.proofs.lemmas.Bool.{eqb-true, and_parts}
use Rattle.std.proofs.lemmas.List.Elements.{filter_agree}
use Rattle.bf_buddy.specs.Members.{is_member}
use Rattle.bf_lemmas.proofs.Tests.{eqb_swap}
use Rattle.bf_parts.specs.Leaves.{Kind, Leaves, AreLeaves, AreAmong, part_of}
use Rattle.bf_parts.specs.Merges.{merged}
use Rattle.bf_lemmas.proofs.Lists.{filter_alike}
use Rattle.bf_parts.specs.MergeLaws.{Precedes, merged_is}

-- no rank twice
abbrev pub AreApart : List ℕ → Type 0
AreApart [] = Unit {0}
AreApart (rank ∷ ranks) = (is_member ranks rank ≡ false) × AreApart ranks

module _ {K I : Type 0} (first : I → I → Bool) (item : K → I) (keys : List K) (rising : AllPairs (Precedes first item) keys) (class : K → ℕ) (base : K → Bool) where
  -- those of a class that pass a test
  of_class : ℕ → List I
  of_class c = map item (filter (λ k. base k && class k == c) keys)

  -- those that were there, with those of further classes
  pub gathered_is : (classes : List ℕ) (there : K → Bool) → AreApart classes → ((k : K) → there k ≡ true → is_member classes (class k) ≡ false)
      → fold (λ items c. merged first items (map item (filter (λ k. base k && class k == c) keys))) (map item (filter (λ k. base k && there k) keys)) classes
      ≡ map item (filter (λ k. base k && (there k || is_member classes (class k))) keys)
  gathered_is [] there apart fresh = ap (map item) (filter_agree _ _ (λ k. ap (λ b. base k && b) (sym (or-false (there k)))) keys)
  gathered_is (c ∷ classes) there apart fresh =
      ap (λ items. fold (λ items c. merged first items (map item (filter (λ k. base k && class k == c) keys))) items classes)
      (merged_is first item (λ k. base k && there k) (λ k. base k && class k == c)
      (λ k was. ap (λ b. base k && b) (not_first k (fresh k (and_parts (base k) (there k) was).1)) ∙ and-false (base k)) keys rising
      ∙ ap (map item) (filter_agree (λ k. (base k && there k) || (base k && class k == c)) (λ k. base k && (there k || class k == c)) (λ k. both (base k) (there k) (class k == c)) keys))
      ∙ gathered_is classes (λ k. there k || class k == c) apart.1 (λ k now. later k (there k) (class k == c) refl refl now)
      ∙ ap (map item) (filter_agree (λ k. base k && ((there k || class k == c) || is_member classes (class k))) (λ k. base k && (there k || is_member (c ∷ classes) (class k)))
      (λ k. ap (λ b. base k && b) (joined (there k) (class k == c) (is_member classes (class k)) ∙ ap (λ b. there k || (b || is_member classes (class k))) (eqb_swap (class k) c))) keys)
    where
      both : (a b c : Bool) → ((a && b) || (a && c)) ≡ (a && (b || c))
      both true b c = refl
      both false b c = refl

      joined : (a b c : Bool) → ((a || b) || c) ≡ (a || (b || c))
      joined true b c = refl
      joined false b c = refl

      not_first : (k : K) → is_member (c ∷ classes) (class k) ≡ false → (class k == c) ≡ false
      not_first k none = eqb_swap (class k) c ∙ by (c == class k) none
        where
          by : (b : Bool) → (b || is_member classes (class k)) ≡ false → b ≡ false
          by true some = absurd (cc)
          by false some = refl

      later : (k : K) (a b : Bool) → there k ≡ a → (class k == c) ≡ b → (a || b) ≡ true → is_member classes (class k) ≡ false
      later k true b was is now = by (c == class k) (fresh k was)
        where
          by : (t : Bool) → (t || is_member classes (class k)) ≡ false → is_member classes (class k) ≡ false
          by true some = absurd (cc)
          by false some = some
      later k false true was is now = ap (is_member classes) (eqb-true (class k) c is) ∙ apart.0
      later k false false was is now = absurd (cc)

-- the leaves that stay at a rank, with those that come to it of the others, are its part by the new owners
pub moved_is : {K I : Type 0} (kind : Kind I) (leaves : Leaves K I) → AreLeaves kind leaves → (owner later : K → ℕ) (rank : ℕ) (peers : List ℕ) → AreApart (rank ∷ peers) → AreAmong (rank ∷ peers) leaves owner
    → fold (λ items peer. merged kind.first items (map (leaves.item later) (filter (λ k. later k == rank && owner k == peer) leaves.keys)))
    (map (leaves.item later) (filter (λ k. later k == rank && owner k == rank) leaves.keys)) peers
    ≡ part_of leaves later rank
unfolding part_of
moved_is kind leaves are owner later rank peers apart among =
    gathered_is kind.first (leaves.item later) leaves.keys (are.rising later) owner (λ k. later k == rank) peers (λ k. owner k == rank) apart.1
    (λ k its. ap (is_member peers) (eqb-true (owner k) rank its) ∙ apart.0)
    ∙ ap (map (leaves.item later))
    (filter_alike (λ k. is_member (rank ∷ peers) (owner k) ≡ true) (λ k. later k == rank && (owner k == rank || is_member peers (owner k))) (λ k. later k == rank)
    (λ k someone. ap (λ b. later k == rank && b) (ap (λ b. b || is_member peers (owner k)) (eqb_swap (owner k) rank) ∙ someone) ∙ and-true (later k == rank)) leaves.keys among)
