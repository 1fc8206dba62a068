-- The octets that merge, counted down through four levels, are those of the rule.
use Rattle.std.proofs.Common.{◌≡◌, ℕ, zero, suc, ◌+◌, ◌<◌, ◌≤◌, Bool, true, false, not, ◌&&◌, ◌==◌, List, IsTrue, ◌↔◌, Contains, filter, get_or, ◌⊎◌, inl, inr, sym, ap, subst, ◌∙◌, arith, All}
use Rattle.std.specs.List.{list_all}
use Rattle.std.specs.Cmp.{both_ways as same_truth}
use Rattle.std.proofs.lemmas.Bool.{and_parts, and_from, both_ways, cases_Bool, eqb-true, not_from_false, false_from_ne_true}
use Rattle.std.proofs.lemmas.List.Elements.{All-contains, Contains-get_or}
use Rattle.std.proofs.lemmas.List.Sums.{list_all-from_AllPass}
use Rattle.bf_id.specs.declared.shape.Shape.{Shape}
use Rattle.bf_id.specs.Id.{BlockId, level_of, parent_of, child_of, children_of, Touch, touches}
use Rattle.bf_id.proofs.Boxes.{level-child, Touch_sym}
use Rattle.bf_id.proofs.Tilings.{Contains-child_cases, any_id_decides}
use Rattle.bf_case.specs.Wishes.{Wishes}
use Rattle.bf_case.specs.Refinement.{is_among}
use Rattle.bf_case.specs.Merging.{touched_by, merges_within, merges, Merges}
use Rattle.bf_case.proofs.TestLemmas.{touches_decides, passes_from_any, Contains-filter_cases}
use Rattle.bf_case.proofs.ChoiceLemmas.{each_from_all, merging_octet}
use Rattle.bf_case.proofs.OctetLemmas.{child_of_parent, level-parent}

-- ---- lists

pub all_from_each : {X : Type 0} (test : X → Bool) (xs : List X) → ((x : X) → Contains xs x → test x ≡ true) → list_all test xs ≡ true
all_from_each test xs each = list_all-from_AllPass test xs (λ k d below. each (get_or xs k d) (Contains-get_or xs k d below))

pub all_alike : {X : Type 0} (test other : X → Bool) (xs : List X) → ((x : X) → Contains xs x → test x ≡ other x) → list_all test xs ≡ list_all other xs
all_alike test other xs same = same_truth (list_all test xs) (list_all other xs)
    (λ all. all_from_each other xs (λ x has. sym (same x has) ∙ each_from_all test xs x all has))
    (λ all. all_from_each test xs (λ x has. same x has ∙ each_from_all other xs x all has))

-- ---- how many levels lie below

-- the parent of a block two levels below another lies one level below it
pub parent_level : (p j : BlockId) → level_of j ≡ level_of p + 2 → level_of (parent_of j) ≡ level_of p + 1
parent_level p j two = omega (arith, level-parent j (child_of_parent j (omega arith)))

-- where no leaf lies deeper than so many levels below a block, one more level changes nothing
pub within_same : (shape : Shape) (ids : List BlockId) (w : Wishes) (refined : List BlockId) (levels : ℕ) (parent : BlockId) → All (λ j. level_of j ≤ 4) ids
    → 4 ≤ level_of parent + levels → merges_within shape ids w refined levels parent ≡ merges_within shape ids w refined (suc levels) parent
unfolding merges_within
within_same shape ids w refined zero parent low deep = by (cases_Bool (merges_within shape ids w refined 1 parent))
  where
    by : (merges_within shape ids w refined 1 parent ≡ true) ⊎ (merges_within shape ids w refined 1 parent ≡ false) → false ≡ merges_within shape ids w refined 1 parent
    by (inl merging) =
        let first : Contains ids (child_of parent 0) = (merging_octet shape ids w refined 0 parent merging).leaves 0 (omega arith) in
        absurd (omega (arith, All-contains (λ j. level_of j ≤ 4) ids (child_of parent 0) low first, level-child parent 0))
    by (inr not_merging) = sym not_merging
within_same shape ids w refined (suc levels) parent low deep =
    let octet = children_of parent in
    let near : BlockId → Bool = λ i. level_of i == level_of parent + 2 && touched_by shape octet i in
    let here : Bool = list_all (λ i. is_among ids i && w.coarser i && not (is_among refined i)) octet
    && list_all (λ i. not (level_of i == level_of parent + 1 && touched_by shape octet i)) refined in
    ap (λ b. here && b) (all_alike (λ i. merges_within shape ids w refined levels (parent_of i)) (λ i. merges_within shape ids w refined (suc levels) (parent_of i)) (filter near ids)
    (λ j has.
    let kept = Contains-filter_cases near ids j has in
    let two : level_of j ≡ level_of parent + 2 = eqb-true (level_of j) (level_of parent + 2) (and_parts (level_of j == level_of parent + 2) (touched_by shape octet j) kept.1).0 in
    within_same shape ids w refined levels (parent_of j) low (omega (arith, parent_level parent j two))))

-- below the parent of a leaf two levels below a block lie at most three levels
pub three_levels : (shape : Shape) (ids : List BlockId) (w : Wishes) (refined : List BlockId) (p j : BlockId) → All (λ j. level_of j ≤ 4) ids → level_of j ≡ level_of p + 2
    → merges_within shape ids w refined 3 (parent_of j) ≡ merges shape ids w refined (parent_of j)
three_levels shape ids w refined p j low two = within_same shape ids w refined 3 (parent_of j) low (omega (arith, parent_level p j two))

-- ---- the rule

-- what touches an octet touches one of its eight
pub touched_octet : (shape : Shape) (p j : BlockId) → touched_by shape (children_of p) j ≡ true → (octant : ℕ) × (octant < 8) × Touch shape j (child_of p octant)
touched_octet shape p j e =
    let found = passes_from_any (λ k. touches shape k j) (children_of p) e in
    by found.0 (Contains-child_cases p found.0 found.1) (Touch_sym shape found.0 j ((touches_decides shape found.0 j).0 found.2))
  where
    by : (k : BlockId) → (o : ℕ) × (o < 8) × (k ≡ child_of p o) → Touch shape j k → (octant : ℕ) × (octant < 8) × Touch shape j (child_of p octant)
    by k (o, small, child) touch = (o, small, subst (Touch shape j) child touch)

rule_from_merging : (shape : Shape) (ids : List BlockId) (w : Wishes) (refined : List BlockId) (p : BlockId) → All (λ j. level_of j ≤ 4) ids
    → merges shape ids w refined p ≡ true → Merges shape ids w refined p
rule_from_merging shape ids w refined p low merging =
    let is = merging_octet shape ids w refined 3 p merging in
    record {
      leaves = is.leaves;
      wishes = is.wishes;
      unrefined = λ octant small has.
          let i : BlockId = child_of p octant in
          both_ways (is_among refined i) (is.unrefined octant small) ((any_id_decides refined i).1 has);
      no_refined_beside = λ octant j small has level touch. is.stays octant j small has (level ∙ level-child p octant) touch;
      finer_merge = λ octant j small has level touch.
          let two : level_of j ≡ level_of p + 2 = omega (arith, level-child p octant) in
          sym (three_levels shape ids w refined p j low two) ∙ is.finer octant j small has two touch;
    }

merging_from_rule : (shape : Shape) (ids : List BlockId) (w : Wishes) (refined : List BlockId) (p : BlockId) → All (λ j. level_of j ≤ 4) ids
    → Merges shape ids w refined p → merges shape ids w refined p ≡ true
unfolding merges_within
merging_from_rule shape ids w refined p low is =
    let octet = children_of p in
    let joins : BlockId → Bool = λ i. is_among ids i && w.coarser i && not (is_among refined i) in
    let calm : BlockId → Bool = λ i. not (level_of i == level_of p + 1 && touched_by shape octet i) in
    let near : BlockId → Bool = λ i. level_of i == level_of p + 2 && touched_by shape octet i in
    let follows : BlockId → Bool = λ i. merges_within shape ids w refined 3 (parent_of i) in
    and_from (list_all joins octet && list_all calm refined) (list_all follows (filter near ids))
    (and_from (list_all joins octet) (list_all calm refined)
    (all_from_each joins octet (λ i has. joins_at i (Contains-child_cases p i has)))
    (all_from_each calm refined (λ j has. not_from_false (level_of j == level_of p + 1 && touched_by shape octet j)
    (false_from_ne_true (level_of j == level_of p + 1 && touched_by shape octet j) (λ e. calm_at j has (and_parts (level_of j == level_of p + 1) (touched_by shape octet j) e))))))
    (all_from_each follows (filter near ids) (λ j has.
    let kept = Contains-filter_cases near ids j has in
    follows_at j kept.0 (and_parts (level_of j == level_of p + 2) (touched_by shape octet j) kept.1)))
  where
    joins_at : (i : BlockId) → (o : ℕ) × (o < 8) × (i ≡ child_of p o) → (is_among ids i && w.coarser i && not (is_among refined i)) ≡ true
    joins_at i (o, small, child) =
        let k : BlockId = child_of p o in
        ap (λ (j : BlockId). is_among ids j && w.coarser j && not (is_among refined j)) child
        ∙ and_from (is_among ids k && w.coarser k) (not (is_among refined k))
        (and_from (is_among ids k) (w.coarser k) ((any_id_decides ids k).1 (is.leaves o small)) (is.wishes o small))
        (not_from_false (is_among refined k) (false_from_ne_true (is_among refined k) (λ e. is.unrefined o small ((any_id_decides refined k).0 e))))

    calm_at : (j : BlockId) → Contains refined j → (level_of j == level_of p + 1 ≡ true) × (touched_by shape (children_of p) j ≡ true) → ⊥
    calm_at j has (level, touched) =
        let found = touched_octet shape p j touched in
        is.no_refined_beside found.0 j found.1 has (eqb-true (level_of j) (level_of p + 1) level ∙ sym (level-child p found.0)) found.2

    follows_at : (j : BlockId) → Contains ids j → (level_of j == level_of p + 2 ≡ true) × (touched_by shape (children_of p) j ≡ true)
        → merges_within shape ids w refined 3 (parent_of j) ≡ true
    follows_at j has (level, touched) =
        let found = touched_octet shape p j touched in
        let two : level_of j ≡ level_of p + 2 = eqb-true (level_of j) (level_of p + 2) level in
        three_levels shape ids w refined p j low two
        ∙ is.finer_merge found.0 j found.1 has (omega (arith, level-child p found.0)) found.2

pub merging_rule : (shape : Shape) (ids : List BlockId) (w : Wishes) (refined : List BlockId) (p : BlockId) → All (λ j. level_of j ≤ 4) ids
    → (IsTrue (merges shape ids w refined p) ↔ Merges shape ids w refined p)
merging_rule shape ids w refined p low = (rule_from_merging shape ids w refined p low, merging_from_rule shape ids w refined p low)
