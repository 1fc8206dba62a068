-- Octets whose eight leaves all may merge.
use Rattle.std.proofs.Common.{◌≡◌, ℕ, ◌+◌, ◌<◌, ◌≤◌, Bool, true, false, not, ◌&&◌, ◌||◌, ◌==◌, List, Contains, refl, sym, ap, ◌∙◌, subst, arith, All}
use Rattle.std.specs.Prelude.{nat_lt}
use Rattle.std.specs.List.{list_any, list_all}
use Rattle.std.proofs.lemmas.Bool.{and_parts, and_from, both_ways, eqb-true, eq-eqb, false_from_ne_true, lt-ltb, not-true, not_from_false}
use Rattle.bf_lemmas.proofs.Tests.{same_tests}
use Rattle.bf_id.specs.declared.shape.Shape.{Shape}
use Rattle.bf_id.specs.Id.{BlockId, child_of, children_of, level_of, parent_of, Touch, touches}
use Rattle.bf_id.proofs.Boxes.{Touch_sym, level-child}
use Rattle.bf_id.proofs.Tilings.{Contains-child, Contains-child_cases}
use Rattle.bf_case.specs.Merging.{merges, Merges}
use Rattle.bf_case.specs.Refinement.{is_among, refined_ids}
use Rattle.bf_case.specs.Wishes.{Wishes}
use Rattle.bf_case.proofs.ChoiceLemmas.{each_from_all}
use Rattle.bf_case.proofs.MergingRule.{all_from_each, merging_rule}
use Rattle.bf_case.proofs.TestLemmas.{any_from_passes, Contains-filter, Contains-filter_cases, passes_from_any, touches_decides}
use Rattle.bf_marks.proofs.ChosenLemmas.{among_has, among_is}
use Rattle.bf_marks.proofs.RefinedLemmas.{refined_leaf}
use Rattle.bf_mark_rounds.specs.Shares.{may_merge_in, mays_below}

module _ (shape : Shape) (ids : List BlockId) (w : Wishes) where
  abbrev R : List BlockId
  R = refined_ids shape ids w

  abbrev is_merging : BlockId → Bool
  is_merging i = merges shape ids w R (parent_of i)

  module _ (low : All (λ j. level_of j ≤ 4) ids) (before : ℕ) where
    abbrev calm : BlockId → Bool
    calm c = list_any (λ j. touches shape c j && (level_of j == level_of c && is_among R j)) ids

    abbrev finer : BlockId → Bool
    finer c = list_all (λ j. not (touches shape c j) || (not (level_of j == level_of c + 1) || is_merging j)) ids

    abbrev mays : List BlockId
    mays = mays_below shape ids w R before

    module _ (p : BlockId) (at_level : level_of p ≡ before) where
      kept : list_all (is_among mays) (children_of p) ≡ true → (o : ℕ) → o < 8 → Contains ids (child_of p o) × (may_merge_in shape ids w R (child_of p o) ≡ true)
      kept all o small =
          let c = child_of p o in
          let has = Contains-filter_cases (λ i. nat_lt before (level_of i) && may_merge_in shape ids w R i) ids c
          (among_has mays c (each_from_all (is_among mays) (children_of p) c all (Contains-child p o small))) in
          (has.0, (and_parts (nat_lt before (level_of c)) (may_merge_in shape ids w R c) has.1).1)

      rule_of : list_all (is_among mays) (children_of p) ≡ true → Merges shape ids w R p
      rule_of all = record {
        leaves = λ o small. (kept all o small).0;
        wishes = λ o small. (parts o small).0;
        unrefined = λ o small has. both_ways (is_among R (child_of p o)) (not-true (is_among R (child_of p o)) (parts o small).1.0) (among_is R (child_of p o) has);
        no_refined_beside = λ o j small has same touch.
            both_ways (calm (child_of p o)) (not-true (calm (child_of p o)) (parts o small).1.1.0)
            (any_from_passes (λ j. touches shape (child_of p o) j && (level_of j == level_of (child_of p o) && is_among R j)) ids j (refined_leaf shape ids w 4 j has)
            (and_from (touches shape (child_of p o) j) (level_of j == level_of (child_of p o) && is_among R j)
            ((touches_decides shape (child_of p o) j).1 (Touch_sym shape j (child_of p o) touch))
            (and_from (level_of j == level_of (child_of p o)) (is_among R j) (eq-eqb (level_of j) (level_of (child_of p o)) same) (among_is R j has))));
        finer_merge = λ o j small has next touch.
            forced (touches shape (child_of p o) j) (level_of j == level_of (child_of p o) + 1) (is_merging j)
            ((touches_decides shape (child_of p o) j).1 (Touch_sym shape j (child_of p o) touch)) (eq-eqb (level_of j) (level_of (child_of p o) + 1) next)
            (each_from_all (λ j. not (touches shape (child_of p o) j) || (not (level_of j == level_of (child_of p o) + 1) || is_merging j)) ids j (parts o small).1.1.1 has);
      }
        where
          parts : (o : ℕ) → o < 8 → (w.coarser (child_of p o) ≡ true) × ((not (is_among R (child_of p o)) ≡ true) × ((not (calm (child_of p o)) ≡ true) × (finer (child_of p o) ≡ true)))
          parts o small =
              let c = child_of p o in
              let two = and_parts (w.coarser c) (not (is_among R c) && (not (calm c) && finer c)) (kept all o small).1 in
              let three = and_parts (not (is_among R c)) (not (calm c) && finer c) two.1 in
              let four = and_parts (not (calm c)) (finer c) three.1 in
              (two.0, (three.0, (four.0, four.1)))

          forced : (t l m : Bool) → t ≡ true → l ≡ true → (not t || (not l || m)) ≡ true → m ≡ true
          forced true true m is_t is_l or = or
          forced true false m is_t is_l or = absurd (cc)
          forced false l m is_t is_l or = absurd (cc)

      each_of : Merges shape ids w R p → list_all (is_among mays) (children_of p) ≡ true
      each_of rule = all_from_each (is_among mays) (children_of p) (λ s child. at s (Contains-child_cases p s child))
        where
          may : (o : ℕ) → o < 8 → (nat_lt before (level_of (child_of p o)) && may_merge_in shape ids w R (child_of p o)) ≡ true
          may o small =
              let c = child_of p o in
              and_from (nat_lt before (level_of c)) (may_merge_in shape ids w R c) (lt-ltb before (level_of c) (omega (arith, level-child p o, at_level)))
              (and_from (w.coarser c) (not (is_among R c) && (not (calm c) && finer c)) (rule.wishes o small)
              (and_from (not (is_among R c)) (not (calm c) && finer c)
              (not_from_false (is_among R c) (false_from_ne_true (is_among R c) (λ among. rule.unrefined o small (among_has R c among))))
              (and_from (not (calm c)) (finer c)
              (not_from_false (calm c) (false_from_ne_true (calm c) (λ some.
              let j = passes_from_any (λ j. touches shape c j && (level_of j == level_of c && is_among R j)) ids some in
              let one = and_parts (touches shape c j.0) (level_of j.0 == level_of c && is_among R j.0) j.2 in
              let two = and_parts (level_of j.0 == level_of c) (is_among R j.0) one.1 in
              rule.no_refined_beside o j.0 small (among_has R j.0 two.1) (eqb-true (level_of j.0) (level_of c) two.0) (Touch_sym shape c j.0 ((touches_decides shape c j.0).0 one.0)))))
              (all_from_each (λ j. not (touches shape c j) || (not (level_of j == level_of c + 1) || is_merging j)) ids
              (λ j has. follows c j o small has (touches shape c j) refl (level_of j == level_of c + 1) refl refl)))))
            where
              follows : (c j : BlockId) (o : ℕ) → o < 8 → Contains ids j → (t : Bool) → touches shape c j ≡ t → (l : Bool) → (level_of j == level_of c + 1) ≡ l → c ≡ child_of p o
                  → (not t || (not l || is_merging j)) ≡ true
              follows c j o small has true touch true next is =
                  rule.finer_merge o j small has (eqb-true (level_of j) (level_of c + 1) next ∙ ap (λ k. level_of k + 1) is)
                  (subst (Touch shape j) is (Touch_sym shape c j ((touches_decides shape c j).0 touch)))
              follows c j o small has true touch false other is = refl
              follows c j o small has false apart l other is = refl

          at : (s : BlockId) → (o : ℕ) × (o < 8) × (s ≡ child_of p o) → is_among mays s ≡ true
          at s (o, small, is) =
              among_is mays s
              (subst (Contains mays) (sym is) (Contains-filter (λ i. nat_lt before (level_of i) && may_merge_in shape ids w R i) ids (child_of p o) (rule.leaves o small) (may o small)))

      -- an octet merges where all eight are leaves that may
      pub octet_is : list_all (is_among mays) (children_of p) ≡ merges shape ids w R p
      octet_is =
          same_tests (list_all (is_among mays) (children_of p)) (merges shape ids w R p)
          (λ all. (merging_rule shape ids w R p low).1 (rule_of all)) (λ merging. each_of ((merging_rule shape ids w R p low).0 merging))
