-- Force rounds of one rank that owns all leaves.
use Rattle.std.proofs.Common.{◌≡◌, ℕ, zero, suc, ◌+◌, ◌<◌, ◌≤◌, Bool, true, false, cond, ◌&&◌, ◌||◌, ◌==◌, List, [], ◌∷◌, map, filter, Contains, refl, sym, ap, ◌∙◌, arith, IsTrue}
use Rattle.std.specs.List.{list_any}
use Rattle.std.proofs.lemmas.Bool.{and_parts, and_from}
use Rattle.std.proofs.lemmas.List.Elements.{All-contains_itself}
use Rattle.bf_lemmas.proofs.Tests.{same_tests}
use Rattle.bf_lemmas.proofs.Lists.{any_filtered, any_mapped, filter_alike}
use Rattle.bf_id.specs.declared.shape.Shape.{Shape}
use Rattle.bf_id.specs.Id.{BlockId, level_of, touches}
use Rattle.bf_id.proofs.Boxes.{Touch_sym}
use Rattle.bf_case.specs.Refinement.{Chain, is_among, refined_ids, refined_within}
use Rattle.bf_case.specs.Wishes.{Wishes}
use Rattle.bf_case.proofs.ChainLemmas.{chain_from_within, within_from_chain}
use Rattle.bf_case.proofs.TestLemmas.{touches_decides, passes_from_any, any_from_passes, Contains-filter, Contains-filter_cases}
use Rattle.bf_links.specs.Links.{link_to, links_of}
use Rattle.bf_links.specs.declared.link.Link.{Link}
use Rattle.bf_marks.specs.Flags.{chosen, is_flagged}
use Rattle.bf_marks.specs.Marks.{MarksValue}
use Rattle.bf_marks.specs.OneOwner.{after_force_rounds, links_of_all, marks_wished}
use Rattle.bf_marks.specs.Rounds.{forced_marks, is_forced}
use Rattle.bf_marks.specs.Wishes.{is_refine, wish_of}
use Rattle.bf_marks.specs.declared.wishes.Wish.TheVariants.{Refine, Coarsen, Stay}
use Rattle.bf_marks.proofs.ChosenLemmas.{among_has, among_is, chosen-cons}

-- what stands beside each leaf is made of the leaf
pub chosen_of : {X : Type 0} (test : BlockId → X → Bool) (f : BlockId → X) (ids : List BlockId) → chosen test ids (map f ids) ≡ filter (λ i. test i (f i)) ids
chosen_of test f [] = refl
chosen_of test f (i ∷ ids) = chosen-cons test i ids (f i) (map f ids) ∙ ap (λ is. cond (test i (f i)) (i ∷ is) is) (chosen_of test f ids)

-- tests that agree on a list choose the same of it
pub filter_where : {X : Type 0} (p q : X → Bool) (xs : List X) → ((x : X) → Contains xs x → p x ≡ q x) → filter p xs ≡ filter q xs
filter_where p q xs same = filter_alike (Contains xs) p q same xs (All-contains_itself xs)

-- of the ids, those that a test chooses pass it
pub chosen_passes : (p : BlockId → Bool) (ids : List BlockId) (i : BlockId) → Contains ids i → is_among (filter p ids) i ≡ p i
chosen_passes p ids i has = same_tests (is_among (filter p ids) i) (p i)
    (λ among. (Contains-filter_cases p ids i (among_has (filter p ids) i among)).1)
    (λ passes. among_is (filter p ids) i (Contains-filter p ids i has passes))

-- of no leaf was heard
pub only_own : (own : List BlockId) (i : BlockId) → is_flagged (record { own = own; heard = [] }) i ≡ is_among own i
only_own own i = by (is_among own i)
  where
    by : (b : Bool) → (b || false) ≡ b
    by true = refl
    by false = refl

-- a leaf's links that pass a test of their ids
pub links_any : (shape : Shape) (ids : List BlockId) (owner : BlockId → ℕ) (test : BlockId → Bool) (i : BlockId)
    → list_any (λ (link : Link). test link.id) (links_of shape ids owner i) ≡ list_any (λ j. touches shape i j && test j) ids
links_any shape ids owner test i = any_mapped (λ (link : Link). test link.id) (link_to owner) (filter (touches shape i) ids) ∙ any_filtered test (touches shape i) ids

pub touches_back : (shape : Shape) (i j : BlockId) → touches shape i j ≡ true → touches shape j i ≡ true
touches_back shape i j touch = (touches_decides shape j i).1 (Touch_sym shape i j ((touches_decides shape i j).0 touch))

-- refined leaves are leaves
pub refined_leaf : (shape : Shape) (ids : List BlockId) (w : Wishes) (n : ℕ) (j : BlockId) → Contains (refined_within shape ids w n) j → Contains ids j
unfolding refined_within
refined_leaf shape ids w zero j has = (Contains-filter_cases w.finer ids j has).0
refined_leaf shape ids w (suc n) j has =
    let before = refined_within shape ids w n in
    (Contains-filter_cases (λ i. is_among before i || list_any (λ j. touches shape j i && level_of j == level_of i + 1) before) ids j has).0

pub wish_is_refine : (w : Wishes) (i : BlockId) → is_refine (wish_of w i) ≡ w.finer i
wish_is_refine w i = by (w.finer i) (w.coarser i)
  where
    by : (a b : Bool) → is_refine (cond a Refine (cond b Coarsen Stay)) ≡ a
    by true b = refl
    by false true = refl
    by false false = refl

module _ (shape : Shape) (ids : List BlockId) (owner : BlockId → ℕ) where
  -- a leaf is forced by its links where a refined leaf one level finer touches it
  pub forced_is : (refined : List BlockId) → ((j : BlockId) → Contains refined j → Contains ids j) → (i : BlockId)
      → is_forced (record { own = refined; heard = [] }) i (links_of shape ids owner i) ≡ list_any (λ j. touches shape j i && level_of j == level_of i + 1) refined
  forced_is refined leaves i = links_any shape ids owner finer i ∙ same_tests (list_any (λ j. touches shape i j && finer j) ids) (list_any forces refined) there back
    where
      finer : BlockId → Bool
      finer j = level_of j == level_of i + 1 && is_flagged (record { own = refined; heard = [] }) j

      forces : BlockId → Bool
      forces j = touches shape j i && level_of j == level_of i + 1

      there : list_any (λ j. touches shape i j && finer j) ids ≡ true → list_any forces refined ≡ true
      there some =
          let found = passes_from_any (λ j. touches shape i j && finer j) ids some in
          let parts = and_parts (touches shape i found.0) (finer found.0) found.2 in
          let its = and_parts (level_of found.0 == level_of i + 1) (is_flagged (record { own = refined; heard = [] }) found.0) parts.1 in
          any_from_passes forces refined found.0 (among_has refined found.0 (sym (only_own refined found.0) ∙ its.1))
          (and_from (touches shape found.0 i) (level_of found.0 == level_of i + 1) (touches_back shape i found.0 parts.0) its.0)

      back : list_any forces refined ≡ true → list_any (λ j. touches shape i j && finer j) ids ≡ true
      back some =
          let found = passes_from_any forces refined some in
          let parts = and_parts (touches shape found.0 i) (level_of found.0 == level_of i + 1) found.2 in
          any_from_passes (λ j. touches shape i j && finer j) ids found.0 (leaves found.0 found.1)
          (and_from (touches shape i found.0) (finer found.0) (touches_back shape found.0 i parts.0)
          (and_from (level_of found.0 == level_of i + 1) (is_flagged (record { own = refined; heard = [] }) found.0) parts.1
          (only_own refined found.0 ∙ among_is refined found.0 found.1)))

  module _ (w : Wishes) where
    -- the marks where these leaves are refined, and nothing else is known yet
    abbrev pub refined_marks : (refined : List BlockId) → MarksValue
    refined_marks refined = record (marks_wished ids w) { refined = record { own = refined; heard = [] } }

    -- after so many force rounds those leaves are refined to which a chain of so many steps leads
    pub force_rounds : (n : ℕ) → after_force_rounds (links_of_all shape owner ids) n (marks_wished ids w) ≡ refined_marks (refined_within shape ids w n)
    unfolding after_force_rounds refined_within
    force_rounds zero = ap refined_marks (chosen_of (λ i wish. is_refine wish) (wish_of w) ids ∙ filter_where (λ i. is_refine (wish_of w i)) w.finer ids (λ i has. wish_is_refine w i))
    force_rounds (suc n) =
        let R = refined_within shape ids w n in
        ap (forced_marks (links_of_all shape owner ids)) (force_rounds n)
        ∙ ap refined_marks
        (chosen_of (λ i links. is_among R i || is_forced (record { own = R; heard = [] }) i links) (links_of shape ids owner) ids
        ∙ filter_where (λ i. is_among R i || is_forced (record { own = R; heard = [] }) i (links_of shape ids owner i))
        (λ i. is_among R i || list_any (λ j. touches shape j i && level_of j == level_of i + 1) R) ids
        (λ i has. ap (λ b. is_among R i || b) (forced_is R (refined_leaf shape ids w n) i)))

-- no leaf of the finest level wishes to be refined
abbrev pub StopsAt : List BlockId → Wishes → (levels : ℕ) → Type 0
StopsAt ids w levels = (i : BlockId) → Contains ids i → IsTrue (w.finer i) → level_of i < levels

-- what is chosen is what is among it
chosen_again : (p : BlockId → Bool) (ids : List BlockId) → filter p ids ≡ filter (is_among (filter p ids)) ids
chosen_again p ids = filter_where p (is_among (filter p ids)) ids (λ i has. sym (chosen_passes p ids i has))

refined_again : (shape : Shape) (ids : List BlockId) (w : Wishes) (n : ℕ) → refined_within shape ids w n ≡ filter (is_among (refined_within shape ids w n)) ids
unfolding refined_within
refined_again shape ids w zero = chosen_again w.finer ids
refined_again shape ids w (suc n) =
    chosen_again (λ k. is_among (refined_within shape ids w n) k || list_any (λ j. touches shape j k && level_of j == level_of k + 1) (refined_within shape ids w n)) ids

module _ (shape : Shape) (ids : List BlockId) (w : Wishes) (levels : ℕ) (stop : StopsAt ids w levels) where
  -- a chain begins below the finest level, and goes down one level at each step
  chain_is_low : (steps : ℕ) (i : BlockId) → Chain shape ids w steps i → level_of i + steps < levels
  unfolding Chain
  chain_is_low zero i chain = omega (arith, stop i chain.0 chain.1)
  chain_is_low (suc steps) i chain = omega (arith, chain_is_low steps chain.1.0 chain.1.1.0, chain.1.1.2)

  goes_over : (n m : ℕ) (i : BlockId) → levels ≤ m + 1 → is_among (refined_within shape ids w n) i ≡ true → is_among (refined_within shape ids w m) i ≡ true
  goes_over n m i far among =
      let chain = chain_from_within shape ids w n i (among_has (refined_within shape ids w n) i among) in
      let low : level_of i + chain.0 < levels = chain_is_low chain.0 i chain.2 in
      among_is (refined_within shape ids w m) i (within_from_chain shape ids w m chain.0 i (omega (arith, low, far)) chain.2)

  -- more rounds than levels change nothing
  pub refined_settles : (n m : ℕ) → levels ≤ n + 1 → levels ≤ m + 1 → refined_within shape ids w n ≡ refined_within shape ids w m
  refined_settles n m far_n far_m =
      refined_again shape ids w n
      ∙ filter_where (is_among (refined_within shape ids w n)) (is_among (refined_within shape ids w m)) ids
      (λ i has. same_tests (is_among (refined_within shape ids w n) i) (is_among (refined_within shape ids w m) i) (goes_over n m i far_m) (goes_over m n i far_n))
      ∙ sym (refined_again shape ids w m)

  pub settled : levels ≤ 4 → refined_within shape ids w levels ≡ refined_ids shape ids w
  settled few = refined_settles levels 4 (omega arith) (omega arith)
