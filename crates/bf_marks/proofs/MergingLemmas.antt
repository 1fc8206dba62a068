-- The rounds of the levels, of one rank that owns all leaves.
use Rattle.std.proofs.Common.{◌≡◌, ℕ, zero, suc, ◌+◌, ◌<◌, ◌≤◌, Bool, true, false, cond, not, ◌&&◌, ◌||◌, ◌==◌, List, [], ◌∷◌, map, filter, Contains, refl, sym, ap, ◌∙◌, subst, arith, All}
use Rattle.std.specs.Prelude.{nat_lt}
use Rattle.std.specs.List.{list_all, list_any}
use Rattle.std.proofs.lemmas.Bool.{and_parts, and_from, both_ways, eqb-true, eq-eqb, false_from_ne_true, not-true, not_from_false, lt-ltb}
use Rattle.std.proofs.lemmas.Bool.Decides.{nat_tests}
use Rattle.bf_lemmas.proofs.Tests.{same_tests}
use Rattle.bf_id.specs.declared.shape.Shape.{Shape}
use Rattle.bf_id.specs.Id.{BlockId, child_of, children_of, level_of, parent_of, Touch, touches}
use Rattle.bf_id.proofs.Boxes.{Touch_sym, level-child}
use Rattle.bf_id.proofs.Tilings.{Contains-child, Contains-child_cases}
use Rattle.bf_case.specs.Merging.{merges, Merges}
use Rattle.bf_case.specs.Refinement.{is_among}
use Rattle.bf_case.specs.Wishes.{Wishes}
use Rattle.bf_case.proofs.ChoiceLemmas.{each_from_all}
use Rattle.bf_case.proofs.MergingRule.{all_from_each, merging_rule}
use Rattle.bf_case.proofs.OctetLemmas.{child_of_parent, level-parent}
use Rattle.bf_case.proofs.TestLemmas.{touches_decides, passes_from_any, any_from_passes, Contains-filter, Contains-filter_cases}
use Rattle.bf_links.specs.Links.{link_to, links_of}
use Rattle.bf_links.specs.declared.link.Link.{Link}
use Rattle.bf_marks.specs.Flags.{Flagged, is_flagged}
use Rattle.bf_marks.specs.Marks.{MarksValue}
use Rattle.bf_marks.specs.OneOwner.{after_levels, links_of_all}
use Rattle.bf_marks.specs.Rounds.{finer_merge, is_calm, may_marks, may_merge, merging_marks, octet_may}
use Rattle.bf_marks.proofs.ChosenLemmas.{among_has, among_is}
use Rattle.bf_marks.proofs.RefinedLemmas.{chosen_of, chosen_passes, filter_where, links_any, only_own}

-- a test of all that another keeps, by what they are mapped to
all_kept : {X Y : Type 0} (test : Y → Bool) (f : X → Y) (p : X → Bool) (xs : List X) → list_all test (map f (filter p xs)) ≡ list_all (λ x. not (p x) || test (f x)) xs
all_kept test f p [] = refl
all_kept {X} test f p (x ∷ xs) = by (p x) (all_kept test f p xs)
  where
    by : (b : Bool) → list_all test (map f (filter p xs)) ≡ list_all (λ x. not (p x) || test (f x)) xs
        → list_all test (map f (cond b (x ∷ filter p xs) (filter p xs))) ≡ ((not b || test (f x)) && list_all (λ x. not (p x) || test (f x)) xs)
    by true later = ap (λ b. test (f x) && b) later
    by false later = later

implies : (a b : Bool) → (not a || b) ≡ true → a ≡ true → b ≡ true
implies true b either holds = either
implies false b either holds = absurd (cc)

implied : (a b : Bool) → (a ≡ true → b ≡ true) → (not a || b) ≡ true
implied true b follows = follows refl
implied false b follows = refl

module _ (shape : Shape) (ids : List BlockId) (owner : BlockId → ℕ) (coarser : BlockId → Bool) (w : Wishes) (R : List BlockId) where
  abbrev pub is_merging : BlockId → Bool
  is_merging i = merges shape ids w R (parent_of i)

  -- the merging leaves that lie deeper than a level
  abbrev pub deeper : (level : ℕ) → List BlockId
  deeper level = filter (λ i. nat_lt level (level_of i) && is_merging i) ids

  abbrev pub own_flags : List BlockId → Flagged
  own_flags own = record { own = own; heard = [] }

  -- the marks where the merging leaves deeper than a level are known
  abbrev pub marks_at : (may : List BlockId) → (level : ℕ) → MarksValue
  marks_at may level = record { leaves = ids; coarser = filter coarser ids; refined = own_flags R; may = own_flags may; merging = own_flags (deeper level) }

  -- when a leaf may merge
  record MayMerge (i : BlockId) : Type 0 where
    wishes : coarser i ≡ true
    unrefined : Contains R i → ⊥
    calm : (j : BlockId) → Contains R j → level_of j ≡ level_of i → Touch shape j i → ⊥
    finer : (j : BlockId) → Contains ids j → level_of j ≡ level_of i + 1 → Touch shape j i → is_merging j ≡ true

  module _ (leaves : (j : BlockId) → Contains R j → Contains ids j) where
    calm_from : (i : BlockId) → ((j : BlockId) → Contains R j → level_of j ≡ level_of i → Touch shape j i → ⊥) → is_calm (own_flags R) i (links_of shape ids owner i) ≡ true
    calm_from i calm = not_from_false (list_any refined_there (links_of shape ids owner i)) (false_from_ne_true (list_any refined_there (links_of shape ids owner i)) none)
      where
        refined_there : Link → Bool
        refined_there link = level_of link.id == level_of i && is_flagged (own_flags R) link.id

        none : list_any refined_there (links_of shape ids owner i) ≡ true → ⊥
        none some =
            let found = passes_from_any (λ j. touches shape i j && (level_of j == level_of i && is_flagged (own_flags R) j)) ids
            (sym (links_any shape ids owner (λ j. level_of j == level_of i && is_flagged (own_flags R) j) i) ∙ some) in
            let parts = and_parts (touches shape i found.0) (level_of found.0 == level_of i && is_flagged (own_flags R) found.0) found.2 in
            let its = and_parts (level_of found.0 == level_of i) (is_flagged (own_flags R) found.0) parts.1 in
            calm found.0 (among_has R found.0 (sym (only_own R found.0) ∙ its.1)) (eqb-true (level_of found.0) (level_of i) its.0)
            (Touch_sym shape i found.0 ((touches_decides shape i found.0).0 parts.0))

    calm_at : (i j : BlockId) → is_calm (own_flags R) i (links_of shape ids owner i) ≡ true → Contains R j → level_of j ≡ level_of i → Touch shape j i → ⊥
    calm_at i j calm has level touch =
        let test : BlockId → Bool = λ j. level_of j == level_of i && is_flagged (own_flags R) j in
        let some : list_any (λ (link : Link). test link.id) (links_of shape ids owner i) ≡ true =
        links_any shape ids owner test i ∙ any_from_passes (λ j. touches shape i j && test j) ids j (leaves j has)
        (and_from (touches shape i j) (test j) ((touches_decides shape i j).1 (Touch_sym shape j i touch))
        (and_from (level_of j == level_of i) (is_flagged (own_flags R) j) (eq-eqb (level_of j) (level_of i) level) (only_own R j ∙ among_is R j has))) in
        both_ways (list_any (λ (link : Link). test link.id) (links_of shape ids owner i)) (not-true (list_any (λ (link : Link). test link.id) (links_of shape ids owner i)) calm) some

    -- of a leaf one level finer it is known whether it merges
    deep_known : (level : ℕ) (i j : BlockId) → Contains ids j → level_of i ≡ level → level_of j ≡ level_of i + 1 → is_flagged (own_flags (deeper level)) j ≡ is_merging j
    deep_known level i j has here finer =
        let below : nat_lt level (level_of j) ≡ true = lt-ltb level (level_of j) (omega arith) in
        only_own (deeper level) j ∙ chosen_passes (λ i. nat_lt level (level_of i) && is_merging i) ids j has ∙ ap (λ b. b && is_merging j) below

    finer_from : (level : ℕ) (i : BlockId) → level_of i ≡ level → ((j : BlockId) → Contains ids j → level_of j ≡ level_of i + 1 → Touch shape j i → is_merging j ≡ true)
        → finer_merge (own_flags (deeper level)) i (links_of shape ids owner i) ≡ true
    finer_from level i here finer =
        all_kept (λ (link : Link). test link.id) (link_to owner) (touches shape i) ids
        ∙ all_from_each (λ j. not (touches shape i j) || test j) ids
        (λ j has. implied (touches shape i j) (test j)
        (λ touch. implied (level_of j == level_of i + 1) (is_flagged (own_flags (deeper level)) j)
        (λ next.
        let level_is : level_of j ≡ level_of i + 1 = eqb-true (level_of j) (level_of i + 1) next in
        deep_known level i j has here level_is ∙ finer j has level_is (Touch_sym shape i j ((touches_decides shape i j).0 touch)))))
      where
        test : BlockId → Bool
        test j = not (level_of j == level_of i + 1) || is_flagged (own_flags (deeper level)) j

    finer_at : (level : ℕ) (i j : BlockId) → level_of i ≡ level → finer_merge (own_flags (deeper level)) i (links_of shape ids owner i) ≡ true
        → Contains ids j → level_of j ≡ level_of i + 1 → Touch shape j i → is_merging j ≡ true
    finer_at level i j here all has next touch =
        let test : BlockId → Bool = λ j. not (level_of j == level_of i + 1) || is_flagged (own_flags (deeper level)) j in
        let each : (not (touches shape i j) || test j) ≡ true =
        each_from_all (λ j. not (touches shape i j) || test j) ids j (sym (all_kept (λ (link : Link). test link.id) (link_to owner) (touches shape i) ids) ∙ all) has in
        let passes : test j ≡ true = implies (touches shape i j) (test j) each ((touches_decides shape i j).1 (Touch_sym shape j i touch)) in
        sym (deep_known level i j has here next) ∙ implies (level_of j == level_of i + 1) (is_flagged (own_flags (deeper level)) j) passes (eq-eqb (level_of j) (level_of i + 1) next)

    may_from : (may : List BlockId) (level : ℕ) (i : BlockId) → Contains ids i → level_of i ≡ level → MayMerge i → may_merge (marks_at may level) i (links_of shape ids owner i) ≡ true
    may_from may level i has here m =
        let calm = is_calm (own_flags R) i (links_of shape ids owner i) in
        let finer = finer_merge (own_flags (deeper level)) i (links_of shape ids owner i) in
        and_from (is_among (filter coarser ids) i) (not (is_among R i) && (calm && finer)) (chosen_passes coarser ids i has ∙ m.wishes)
        (and_from (not (is_among R i)) (calm && finer) (not_from_false (is_among R i) (false_from_ne_true (is_among R i) (λ among. m.unrefined (among_has R i among))))
        (and_from calm finer (calm_from i m.calm) (finer_from level i here m.finer)))

    may_rule : (may : List BlockId) (level : ℕ) (i : BlockId) → Contains ids i → level_of i ≡ level → may_merge (marks_at may level) i (links_of shape ids owner i) ≡ true → MayMerge i
    may_rule may level i has here passes =
        let calm = is_calm (own_flags R) i (links_of shape ids owner i) in
        let finer = finer_merge (own_flags (deeper level)) i (links_of shape ids owner i) in
        let first = and_parts (is_among (filter coarser ids) i) (not (is_among R i) && (calm && finer)) passes in
        let second = and_parts (not (is_among R i)) (calm && finer) first.1 in
        let third = and_parts calm finer second.1 in
        record {
          wishes = sym (chosen_passes coarser ids i has) ∙ first.0;
          unrefined = λ refined. both_ways (is_among R i) (not-true (is_among R i) second.0) (among_is R i refined);
          calm = λ j. calm_at i j third.0;
          finer = λ j. finer_at level i j here third.1;
        }

    -- the leaves of a level that may merge, with those of other levels as they were
    abbrev pub next_may : (may : List BlockId) → (level : ℕ) → List BlockId
    next_may may level = filter (λ i. cond (level_of i == level) (may_merge (marks_at may level) i (links_of shape ids owner i)) (is_among may i)) ids

    module _ (low : All (λ j. level_of j ≤ 4) ids) (wishing : (i : BlockId) → coarser i ≡ true → w.coarser i ≡ true)
        (wished : (i : BlockId) → Contains ids i → w.coarser i ≡ true → (Contains R i → ⊥) → coarser i ≡ true) where
      module _ (may : List BlockId) (level : ℕ) (i : BlockId) (here : level_of i ≡ level) (deep : 0 < level_of i) where
        child_level : (octant : ℕ) → level_of (child_of (parent_of i) octant) ≡ level
        child_level octant = omega (arith, level-child (parent_of i) octant, level-parent i (child_of_parent i deep))

        child_may : (octant : ℕ) → octant < 8 → octet_may (own_flags (next_may may level)) i ≡ true → Contains ids (child_of (parent_of i) octant) × MayMerge (child_of (parent_of i) octant)
        child_may octant small all =
            let j = child_of (parent_of i) octant in
            let test : BlockId → Bool = λ i. cond (level_of i == level) (may_merge (marks_at may level) i (links_of shape ids owner i)) (is_among may i) in
            let each = each_from_all (is_flagged (own_flags (next_may may level))) (children_of (parent_of i)) j
            (and_parts (nat_lt 0 (level_of i)) (list_all (is_flagged (own_flags (next_may may level))) (children_of (parent_of i))) all).1 (Contains-child (parent_of i) octant small) in
            let kept = Contains-filter_cases test ids j (among_has (next_may may level) j (sym (only_own (next_may may level) j) ∙ each)) in
            let at : (level_of j == level) ≡ true = eq-eqb (level_of j) level (child_level octant) in
            let passes : may_merge (marks_at may level) j (links_of shape ids owner j) ≡ true =
            ap (λ b. cond b (may_merge (marks_at may level) j (links_of shape ids owner j)) (is_among may j)) (sym at) ∙ kept.1 in
            (kept.0, may_rule may level j kept.0 (child_level octant) passes)

        octet_merges : octet_may (own_flags (next_may may level)) i ≡ true → is_merging i ≡ true
        octet_merges all = (merging_rule shape ids w R (parent_of i) low).1 (record {
          leaves = λ octant small. (child_may octant small all).0;
          wishes = λ octant small. wishing (child_of (parent_of i) octant) (child_may octant small all).1.wishes;
          unrefined = λ octant small. (child_may octant small all).1.unrefined;
          no_refined_beside = λ octant j small. (child_may octant small all).1.calm j;
          finer_merge = λ octant j small. (child_may octant small all).1.finer j;
        })

        merging_octet_may : is_merging i ≡ true → octet_may (own_flags (next_may may level)) i ≡ true
        merging_octet_may merging =
            and_from (nat_lt 0 (level_of i)) (list_all (is_flagged (own_flags (next_may may level))) (children_of (parent_of i))) (lt-ltb 0 (level_of i) deep)
            (all_from_each (is_flagged (own_flags (next_may may level))) (children_of (parent_of i)) (λ j has. each j (Contains-child_cases (parent_of i) j has)))
          where
            rule : Merges shape ids w R (parent_of i)
            rule = (merging_rule shape ids w R (parent_of i) low).0 merging

            test : BlockId → Bool
            test i = cond (level_of i == level) (may_merge (marks_at may level) i (links_of shape ids owner i)) (is_among may i)

            child : (octant : ℕ) → octant < 8 → is_flagged (own_flags (next_may may level)) (child_of (parent_of i) octant) ≡ true
            child octant small =
                let j = child_of (parent_of i) octant in
                let leaf = rule.leaves octant small in
                let may_j : MayMerge j = record {
                  wishes = wished j leaf (rule.wishes octant small) (rule.unrefined octant small);
                  unrefined = rule.unrefined octant small;
                  calm = λ k. rule.no_refined_beside octant k small;
                  finer = λ k. rule.finer_merge octant k small;
                } in
                let at : (level_of j == level) ≡ true = eq-eqb (level_of j) level (child_level octant) in
                let passes : test j ≡ true =
                ap (λ b. cond b (may_merge (marks_at may level) j (links_of shape ids owner j)) (is_among may j)) at ∙ may_from may level j leaf (child_level octant) may_j in
                only_own (next_may may level) j ∙ among_is (next_may may level) j (Contains-filter test ids j leaf passes)

            each : (j : BlockId) → (o : ℕ) × (o < 8) × (j ≡ child_of (parent_of i) o) → is_flagged (own_flags (next_may may level)) j ≡ true
            each j (o, small, is) = subst (λ k. is_flagged (own_flags (next_may may level)) k ≡ true) (sym is) (child o small)

        pub octet_is : octet_may (own_flags (next_may may level)) i ≡ is_merging i
        octet_is = same_tests (octet_may (own_flags (next_may may level)) i) (is_merging i) octet_merges merging_octet_may

      next_level : (before l : ℕ) → (l == suc before) ≡ false → nat_lt (suc before) l ≡ nat_lt before l
      next_level before l other = grind (arith, nat_tests)

      -- what the two rounds of a level make of the marks
      pub level_played : (may : List BlockId) (before : ℕ) → merging_marks (suc before) (may_marks (suc before) (links_of_all shape owner ids) (marks_at may (suc before)))
          ≡ marks_at (next_may may (suc before)) before
      level_played may before =
          ap (λ own. merging_marks level (record (marks_at may level) { may = own_flags own }))
          (chosen_of (λ i links. cond (level_of i == level) (may_merge (marks_at may level) i links) (is_among may i)) (links_of shape ids owner) ids)
          ∙ ap (λ own. record (marks_at next level) { merging = own_flags own })
          (filter_where (λ i. cond (level_of i == level) (octet_may (own_flags next) i) (is_among (deeper level) i)) (λ i. nat_lt before (level_of i) && is_merging i) ids
          (λ i has. at i has (level_of i == level) refl))
        where
          level : ℕ
          level = suc before

          next : List BlockId
          next = next_may may (suc before)

          at : (i : BlockId) → Contains ids i → (b : Bool) → (level_of i == suc before) ≡ b
              → cond b (octet_may (own_flags (next_may may (suc before))) i) (is_among (deeper (suc before)) i) ≡ (nat_lt before (level_of i) && is_merging i)
          at i has true same =
              let here : level_of i ≡ suc before = eqb-true (level_of i) (suc before) same in
              let deep : nat_lt before (level_of i) ≡ true = lt-ltb before (level_of i) (omega arith) in
              octet_is may (suc before) i here (omega arith) ∙ ap (λ b. b && is_merging i) (sym deep)
          at i has false other =
              chosen_passes (λ i. nat_lt (suc before) (level_of i) && is_merging i) ids i has ∙ ap (λ b. b && is_merging i) (next_level before (level_of i) other)

      -- after the rounds of all levels the merging leaves are known
      pub levels_played : (level : ℕ) (may : List BlockId) → (last : List BlockId) × (after_levels (links_of_all shape owner ids) level (marks_at may level) ≡ marks_at last 0)
      unfolding after_levels
      levels_played zero may = (may, refl)
      levels_played (suc before) may =
          let later = levels_played before (next_may may (suc before)) in
          (later.0, ap (after_levels (links_of_all shape owner ids) before) (level_played may before) ∙ later.1)
