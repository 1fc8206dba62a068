-- What becomes of the leaves at a regrid fits together.
use Rattle.std.proofs.Common.{◌≡◌, ℕ, zero, suc, ◌+◌, ◌<◌, ◌≤◌, Bool, true, false, cond, not, ◌&&◌, List, Contains, refl, sym, subst, ◌∙◌, arith, All, IsTrue, ◌==◌, filter}
use Rattle.std.specs.Prelude.{nat_lt}
use Rattle.std.specs.List.{list_all}
use Rattle.std.proofs.lemmas.Bool.{and_parts, and_from, both_ways, cond-true, cond-false, ltb-true, lt-ltb, eq-eqb, not-true, false≢true}
use Rattle.std.proofs.lemmas.List.Elements.{All-contains, All-weaker}
use Rattle.std.proofs.lemmas.List.Sums.{AllPass-from_list_all, list_all-from_AllPass}
use Rattle.bf_id.specs.declared.shape.Shape.{Shape}
use Rattle.bf_id.specs.Id.{BlockId, IsId, level_of, child_of, children_of, parent_of, octant_of, Touch, touches}
use Rattle.bf_id.proofs.Boxes.{level-child, Touch_sym}
use Rattle.bf_id.proofs.Tilings.{Contains-child, any_id_decides}
use Rattle.bf_case.specs.declared.target.Target.TheVariants.{Keep, Refine, Merge}
use Rattle.bf_case.specs.Balanced.{AreBalancedLeaves}
use Rattle.bf_case.specs.Wishes.{Wishes}
use Rattle.bf_case.specs.Refinement.{Chain, IsRefined, is_among, refined_ids}
use Rattle.bf_case.specs.Merging.{touched_by, merges_within, merges}
use Rattle.bf_case.specs.Regrid.{target_of, regridded_ids}
use Rattle.bf_case.proofs.TestLemmas.{touches_decides, any_from_passes, Contains-filter}
use Rattle.bf_case.proofs.ChainLemmas.{refined_ids_are}
use Rattle.bf_case.proofs.OctetLemmas.{parent_of-child, child_of_parent, octant_small, level-parent}
use Rattle.bf_case.proofs.HeirLemmas.{IsSound, heirs_are_balanced}

-- ---- tests

chosen_Refine : (a b : Bool) → cond a Refine (cond b Merge Keep) ≡ Refine → a ≡ true
chosen_Refine true b e = refl
chosen_Refine false true e = absurd cc
chosen_Refine false false e = absurd cc

chosen_Merge : (a b : Bool) → cond a Refine (cond b Merge Keep) ≡ Merge → (a ≡ false) × (b ≡ true)
chosen_Merge true b e = absurd cc
chosen_Merge false true e = (refl, refl)
chosen_Merge false false e = absurd cc

pub each_from_all : {X : Type 0} (test : X → Bool) (xs : List X) (x : X) → list_all test xs ≡ true → Contains xs x → test x ≡ true
each_from_all test xs x all has = All-contains (λ y. test y ≡ true) xs x (AllPass-from_list_all test xs all) has

all_weaker : {X : Type 0} (test other : X → Bool) (xs : List X) → ((x : X) → test x ≡ true → other x ≡ true) → list_all test xs ≡ true → list_all other xs ≡ true
all_weaker test other xs weaker all =
    list_all-from_AllPass other xs (All-weaker (λ x. test x ≡ true) (λ x. other x ≡ true) weaker xs (AllPass-from_list_all test xs all))

-- ---- refined leaves

-- where a chain leads there is a leaf
chain_ends_in_leaf : (shape : Shape) (ids : List BlockId) (w : Wishes) (steps : ℕ) (i : BlockId) → Chain shape ids w steps i → Contains ids i
unfolding Chain
chain_ends_in_leaf shape ids w zero i chain = chain.0
chain_ends_in_leaf shape ids w (suc steps) i chain = chain.0

-- a refined leaf lies above the finest level
pub refined_has_room : (shape : Shape) (levels : ℕ) (ids : List BlockId) (w : Wishes) (i : BlockId) → All (λ j. level_of j ≤ levels) ids
    → ((j : BlockId) → Contains ids j → IsTrue (w.finer j) → level_of j < levels) → IsRefined shape ids w i → level_of i < levels
unfolding Chain
refined_has_room shape levels ids w i shallow room (zero, chain) = room i chain.0 chain.1
refined_has_room shape levels ids w i shallow room (suc steps, chain) =
    let j : BlockId = chain.1.0 in
    let low : level_of j ≤ levels = All-contains (λ j. level_of j ≤ levels) ids j shallow (chain_ends_in_leaf shape ids w steps j chain.1.1.0) in
    omega (arith, low, chain.1.1.2)

-- a leaf one level above a refined leaf that touches it is refined
forced_is_refined : (shape : Shape) (ids : List BlockId) (w : Wishes) (i j : BlockId) → Contains ids i → Touch shape j i → level_of j ≡ level_of i + 1
    → IsRefined shape ids w j → IsRefined shape ids w i
unfolding Chain
forced_is_refined shape ids w i j has touch level (steps, chain) = (suc steps, (has, (j, (chain, touch, level))))

pub refined_from_target : (shape : Shape) (ids : List BlockId) (w : Wishes) (i : BlockId) → All (λ j. level_of j ≤ 4) ids → target_of shape ids w i ≡ Refine → IsRefined shape ids w i
refined_from_target shape ids w i low e =
    let refined = refined_ids shape ids w in
    (refined_ids_are shape ids w i low).0 (chosen_Refine (is_among refined i) (nat_lt 0 (level_of i) && merges shape ids w refined (parent_of i)) e)

pub target_from_refined : (shape : Shape) (ids : List BlockId) (w : Wishes) (i : BlockId) → All (λ j. level_of j ≤ 4) ids → IsRefined shape ids w i → target_of shape ids w i ≡ Refine
target_from_refined shape ids w i low is =
    let refined = refined_ids shape ids w in
    cond-true (is_among refined i) Refine (cond (nat_lt 0 (level_of i) && merges shape ids w refined (parent_of i)) Merge Keep) ((refined_ids_are shape ids w i low).1 is)

-- ---- merging octets

-- what is asked of an octet that merges, where at most so many levels lie below it
pub record IsMergingOctet (shape : Shape) (ids : List BlockId) (w : Wishes) (refined : List BlockId) (levels : ℕ) (parent : BlockId) : Type 0 where
  pub leaves : (octant : ℕ) → octant < 8 → Contains ids (child_of parent octant)
  pub wishes : (octant : ℕ) → octant < 8 → w.coarser (child_of parent octant) ≡ true
  pub unrefined : (octant : ℕ) → octant < 8 → is_among refined (child_of parent octant) ≡ false
  pub stays : (octant : ℕ) (j : BlockId) → octant < 8 → Contains refined j → level_of j ≡ level_of parent + 1 → Touch shape j (child_of parent octant) → ⊥
  pub finer : (octant : ℕ) (j : BlockId) → octant < 8 → Contains ids j → level_of j ≡ level_of parent + 2 → Touch shape j (child_of parent octant)
      → merges_within shape ids w refined levels (parent_of j) ≡ true

-- what touches a child touches the octet
touches_octet : (shape : Shape) (parent j : BlockId) (octant : ℕ) → octant < 8 → Touch shape j (child_of parent octant) → touched_by shape (children_of parent) j ≡ true
touches_octet shape parent j octant small touch =
    any_from_passes (λ k. touches shape k j) (children_of parent) (child_of parent octant) (Contains-child parent octant small)
    ((touches_decides shape (child_of parent octant) j).1 (Touch_sym shape j (child_of parent octant) touch))

pub merging_octet : (shape : Shape) (ids : List BlockId) (w : Wishes) (refined : List BlockId) (levels : ℕ) (parent : BlockId)
    → merges_within shape ids w refined (suc levels) parent ≡ true → IsMergingOctet shape ids w refined levels parent
unfolding merges_within
merging_octet shape ids w refined levels parent e =
    let octet = children_of parent in
    let joins : BlockId → Bool = λ i. is_among ids i && w.coarser i && not (is_among refined i) in
    let calm : BlockId → Bool = λ i. not (level_of i == level_of parent + 1 && touched_by shape octet i) in
    let near : BlockId → Bool = λ i. level_of i == level_of parent + 2 && touched_by shape octet i in
    let follows : BlockId → Bool = λ i. merges_within shape ids w refined levels (parent_of i) in
    let parts = and_parts (list_all joins octet && list_all calm refined) (list_all follows (filter near ids)) e in
    let front = and_parts (list_all joins octet) (list_all calm refined) parts.0 in
    let join : (octant : ℕ) → octant < 8 → joins (child_of parent octant) ≡ true =
    λ octant small. each_from_all joins octet (child_of parent octant) front.0 (Contains-child parent octant small) in
    record {
      leaves = λ octant small.
          let i = child_of parent octant in
          let outer = and_parts (is_among ids i && w.coarser i) (not (is_among refined i)) (join octant small) in
          (any_id_decides ids i).0 (and_parts (is_among ids i) (w.coarser i) outer.0).0;
      wishes = λ octant small.
          let i = child_of parent octant in
          let outer = and_parts (is_among ids i && w.coarser i) (not (is_among refined i)) (join octant small) in
          (and_parts (is_among ids i) (w.coarser i) outer.0).1;
      unrefined = λ octant small.
          let i = child_of parent octant in
          not-true (is_among refined i) (and_parts (is_among ids i && w.coarser i) (not (is_among refined i)) (join octant small)).1;
      stays = λ octant j small has level touch.
          both_ways (level_of j == level_of parent + 1 && touched_by shape octet j)
          (not-true (level_of j == level_of parent + 1 && touched_by shape octet j) (each_from_all calm refined j front.1 has))
          (and_from (level_of j == level_of parent + 1) (touched_by shape octet j) (eq-eqb (level_of j) (level_of parent + 1) level) (touches_octet shape parent j octant small touch));
      finer = λ octant j small has level touch.
          each_from_all follows (filter near ids) j parts.1
          (Contains-filter near ids j has
          (and_from (level_of j == level_of parent + 2) (touched_by shape octet j) (eq-eqb (level_of j) (level_of parent + 2) level) (touches_octet shape parent j octant small touch)));
    }

-- an octet that merges with so many levels below it merges with one more
more_levels : (shape : Shape) (ids : List BlockId) (w : Wishes) (refined : List BlockId) (levels : ℕ) (parent : BlockId)
    → merges_within shape ids w refined levels parent ≡ true → merges_within shape ids w refined (suc levels) parent ≡ true
unfolding merges_within
more_levels shape ids w refined zero parent e = absurd (false≢true e)
more_levels shape ids w refined (suc levels) parent e =
    let octet = children_of parent in
    let joins : BlockId → Bool = λ i. is_among ids i && w.coarser i && not (is_among refined i) in
    let calm : BlockId → Bool = λ i. not (level_of i == level_of parent + 1 && touched_by shape octet i) in
    let near : BlockId → Bool = λ i. level_of i == level_of parent + 2 && touched_by shape octet i in
    let follows : BlockId → Bool = λ i. merges_within shape ids w refined levels (parent_of i) in
    let more : BlockId → Bool = λ i. merges_within shape ids w refined (suc levels) (parent_of i) in
    let parts = and_parts (list_all joins octet && list_all calm refined) (list_all follows (filter near ids)) e in
    and_from (list_all joins octet && list_all calm refined) (list_all more (filter near ids)) parts.0
    (all_weaker follows more (filter near ids) (λ i is. more_levels shape ids w refined levels (parent_of i) is) parts.1)

-- ---- what becomes of a leaf of a merging octet

-- a leaf whose octet merges
pub record IsMerging (shape : Shape) (ids : List BlockId) (w : Wishes) (i : BlockId) : Type 0 where
  pub unrefined : is_among (refined_ids shape ids w) i ≡ false
  pub deep : 0 < level_of i
  pub octet : merges shape ids w (refined_ids shape ids w) (parent_of i) ≡ true

pub merging_from_target : (shape : Shape) (ids : List BlockId) (w : Wishes) (i : BlockId) → target_of shape ids w i ≡ Merge → IsMerging shape ids w i
merging_from_target shape ids w i e =
    let refined = refined_ids shape ids w in
    let chosen = chosen_Merge (is_among refined i) (nat_lt 0 (level_of i) && merges shape ids w refined (parent_of i)) e in
    let both = and_parts (nat_lt 0 (level_of i)) (merges shape ids w refined (parent_of i)) chosen.1 in
    record { unrefined = chosen.0; deep = ltb-true 0 (level_of i) both.0; octet = both.1 }

pub target_from_merging : (shape : Shape) (ids : List BlockId) (w : Wishes) (i : BlockId) → IsMerging shape ids w i → target_of shape ids w i ≡ Merge
target_from_merging shape ids w i is =
    let merging = nat_lt 0 (level_of i) && merges shape ids w (refined_ids shape ids w) (parent_of i) in
    let both : merging ≡ true =
    and_from (nat_lt 0 (level_of i)) (merges shape ids w (refined_ids shape ids w) (parent_of i)) (lt-ltb 0 (level_of i) is.deep) is.octet in
    cond-false (is_among (refined_ids shape ids w) i) Refine (cond merging Merge Keep) is.unrefined ∙ cond-true merging Merge Keep both

-- the octet of such a leaf
octet_of : (shape : Shape) (ids : List BlockId) (w : Wishes) (i : BlockId) → IsMerging shape ids w i → IsMergingOctet shape ids w (refined_ids shape ids w) 3 (parent_of i)
octet_of shape ids w i is = merging_octet shape ids w (refined_ids shape ids w) 3 (parent_of i) is.octet

-- its siblings merge with it
siblings_merge : (shape : Shape) (ids : List BlockId) (w : Wishes) (i : BlockId) (octant : ℕ) → IsMerging shape ids w i → octant < 8
    → target_of shape ids w (child_of (parent_of i) octant) ≡ Merge
siblings_merge shape ids w i octant is small =
    let p : BlockId = parent_of i in
    let refined = refined_ids shape ids w in
    target_from_merging shape ids w (child_of p octant) (record {
      unrefined = (octet_of shape ids w i is).unrefined octant small;
      deep = omega (arith, level-child p octant);
      octet = subst (λ k. merges shape ids w refined k ≡ true) (sym (parent_of-child p octant)) is.octet;
    })

-- and so does each leaf one level finer that touches it
finer_merges : (shape : Shape) (ids : List BlockId) (w : Wishes) (i j : BlockId) → IsId i → IsId j → IsMerging shape ids w i → Contains ids j
    → Touch shape j i → level_of j ≡ level_of i + 1 → target_of shape ids w j ≡ Merge
finer_merges shape ids w i j named named' is has touch level =
    let refined = refined_ids shape ids w in
    let deep : 0 < level_of j = omega arith in
    let own = child_of_parent j deep in
    let two : level_of j ≡ level_of (parent_of i) + 2 = omega (arith, level-parent i (child_of_parent i is.deep)) in
    let within : merges_within shape ids w refined 3 (parent_of j) ≡ true =
    (octet_of shape ids w i is).finer (octant_of i) j (octant_small i named is.deep) has two (subst (Touch shape j) (child_of_parent i is.deep) touch) in
    let octet = merging_octet shape ids w refined 2 (parent_of j) within in
    target_from_merging shape ids w j (record {
      unrefined = subst (λ k. is_among refined k ≡ false) (sym own) (octet.unrefined (octant_of j) (octant_small j named' deep));
      deep = deep;
      octet = more_levels shape ids w refined 3 (parent_of j) within;
    })

-- ---- all together

pub target_of_is_sound : (shape : Shape) (levels : ℕ) (ids : List BlockId) (w : Wishes) → levels ≤ 4
    → ((i : BlockId) → Contains ids i → IsTrue (w.finer i) → level_of i < levels)
    → AreBalancedLeaves shape levels ids → IsSound shape levels ids (target_of shape ids w)
target_of_is_sound shape levels ids w few room before = record {
  room = λ i has e. refined_has_room shape levels ids w i before.shallow room (refined i e);
  forced = λ i j has has' e touch level. target_from_refined shape ids w i low (forced_is_refined shape ids w i j has touch level (refined j e));
  octets = λ i has e.
      let is = merging_from_target shape ids w i e in
      record {
        octal = octant_small i (named i has) is.deep;
        child = child_of_parent i is.deep;
        leaves = (octet_of shape ids w i is).leaves;
        merge = λ octant small. siblings_merge shape ids w i octant is small;
      };
  stays = λ i j has has' e e' touch level.
      let is = merging_from_target shape ids w i e in
      let one : level_of j ≡ level_of (parent_of i) + 1 = omega (arith, level-parent i (child_of_parent i is.deep)) in
      (octet_of shape ids w i is).stays (octant_of i) j (octant_small i (named i has) is.deep)
      ((any_id_decides (refined_ids shape ids w) j).0 ((refined_ids_are shape ids w j low).1 (refined j e'))) one (subst (Touch shape j) (child_of_parent i is.deep) touch);
  finer = λ i j has has' e touch level. finer_merges shape ids w i j (named i has) (named j has') (merging_from_target shape ids w i e) has' touch level;
}
  where
    named : (i : BlockId) → Contains ids i → IsId i
    named i has = All-contains IsId ids i before.named has

    low : All (λ j. level_of j ≤ 4) ids
    low = All-weaker IsId (λ j. level_of j ≤ 4) (λ j is. is.shallow) ids before.named

    refined : (i : BlockId) → target_of shape ids w i ≡ Refine → IsRefined shape ids w i
    refined i e = refined_from_target shape ids w i low e

-- a regrid makes balanced leaves of balanced leaves
pub regridded_are_balanced : (shape : Shape) (levels : ℕ) (ids : List BlockId) (w : Wishes) → levels ≤ 4
    → ((i : BlockId) → Contains ids i → IsTrue (w.finer i) → level_of i < levels)
    → AreBalancedLeaves shape levels ids → AreBalancedLeaves shape levels (regridded_ids shape ids w)
unfolding regridded_ids
regridded_are_balanced shape levels ids w few room before =
    heirs_are_balanced shape levels ids (target_of shape ids w) (record { few = few; before = before; sound = target_of_is_sound shape levels ids w few room before })
