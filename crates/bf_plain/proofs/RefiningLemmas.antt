-- Marks of refined leaves, by rounds.
use Rattle.std.proofs.Common.{◌≡◌, ℕ, zero, suc, Bool, true, ◌&&◌, ◌||◌, ◌==◌, ◌+◌, List, [], ◌∷◌, map, filter, ◌⊎◌, inl, inr, Contains, refl, sym, ap, ◌∙◌, arith}
use Rattle.std.specs.List.{list_any}
use Rattle.std.proofs.lemmas.Bool.{or_left, or_right, or_cases, and_parts, and_from}
use Rattle.bf_lemmas.proofs.Tests.{same_tests}
use Rattle.bf_id.specs.declared.shape.Shape.{Shape}
use Rattle.bf_id.specs.Id.{BlockId, level_of, touches}
use Rattle.bf_id.proofs.Tilings.{any_id_decides, Contains-head, Contains-tail}
use Rattle.bf_case.specs.Wishes.{Wishes}
use Rattle.bf_case.specs.Refinement.{is_among, refined_within}
use Rattle.bf_case.proofs.TestLemmas.{passes_from_any, any_from_passes, Contains-filter, Contains-filter_cases}
use Rattle.bf_plain.specs.Marks.{reaches, is_reached}

-- functions that agree on the elements of a list
pub map_alike_on : {X Y : Type 0} (f g : X → Y) (xs : List X) → ((x : X) → Contains xs x → f x ≡ g x) → map f xs ≡ map g xs
map_alike_on f g [] same = refl
map_alike_on f g (x ∷ xs) same =
    let first : f x ≡ g x = same x (Contains-head x xs) in
    let rest : map f xs ≡ map g xs = map_alike_on f g xs (λ y has. same y (Contains-tail x xs y has)) in
    λ k. first k ∷ rest k

-- a filter has the elements that pass
pub among_filter : (test : BlockId → Bool) (ids : List BlockId) (i : BlockId) → Contains ids i → is_among (filter test ids) i ≡ test i
among_filter test ids i has =
    same_tests (is_among (filter test ids) i) (test i)
    (λ among. (Contains-filter_cases test ids i ((any_id_decides (filter test ids) i).0 among)).1)
    (λ passed. (any_id_decides (filter test ids) i).1 (Contains-filter test ids i has passed))

-- refined leaves are leaves
pub refined_within-in : (shape : Shape) (ids : List BlockId) (w : Wishes) (n : ℕ) (i : BlockId) → Contains (refined_within shape ids w n) i → Contains ids i
unfolding refined_within
refined_within-in shape ids w zero i has = (Contains-filter_cases w.finer ids i has).0
refined_within-in shape ids w (suc n) i has = (Contains-filter_cases _ ids i has).0

-- marked after so many rounds
abbrev pub RefinedWithin : Shape → List BlockId → List Bool → ℕ → List Bool → Type 0
RefinedWithin shape ids finer n marks =
    (w : Wishes) → finer ≡ map w.finer ids → marks ≡ map (is_among (refined_within shape ids w n)) ids

pub RefinedWithin-none : (shape : Shape) (ids : List BlockId) (finer : List Bool) → RefinedWithin shape ids finer 0 finer
unfolding refined_within
RefinedWithin-none shape ids finer w begun =
    begun ∙ map_alike_on w.finer (is_among (filter w.finer ids)) ids (λ i has. sym (among_filter w.finer ids i has))

-- what one more round marks
round_test : (shape : Shape) (ids before : List BlockId) (i : BlockId) → ((j : BlockId) → Contains before j → Contains ids j)
    → (is_among before i || is_reached shape 1 (is_among before) ids i) ≡ (is_among before i || list_any (λ j. touches shape j i && level_of j == level_of i + 1) before)
round_test shape ids before i within =
    same_tests (is_among before i || is_reached shape 1 (is_among before) ids i) (is_among before i || list_any (λ j. reaches shape 1 j i) before)
    (λ either. there (or_cases (is_among before i) (is_reached shape 1 (is_among before) ids i) either))
    (λ either. back (or_cases (is_among before i) (list_any (λ j. reaches shape 1 j i) before) either))
  where
    there : (is_among before i ≡ true) ⊎ (is_reached shape 1 (is_among before) ids i ≡ true) → (is_among before i || list_any (λ j. reaches shape 1 j i) before) ≡ true
    there (inl old) = or_left (is_among before i) (list_any (λ j. reaches shape 1 j i) before) old
    there (inr new) =
        let found = passes_from_any (λ j. is_among before j && reaches shape 1 j i) ids new in
        let parts = and_parts (is_among before found.0) (reaches shape 1 found.0 i) found.2 in
        or_right (is_among before i) (list_any (λ j. reaches shape 1 j i) before)
        (any_from_passes (λ j. reaches shape 1 j i) before found.0 ((any_id_decides before found.0).0 parts.0) parts.1)

    back : (is_among before i ≡ true) ⊎ (list_any (λ j. reaches shape 1 j i) before ≡ true) → (is_among before i || is_reached shape 1 (is_among before) ids i) ≡ true
    back (inl old) = or_left (is_among before i) (is_reached shape 1 (is_among before) ids i) old
    back (inr new) =
        let found = passes_from_any (λ j. reaches shape 1 j i) before new in
        or_right (is_among before i) (is_reached shape 1 (is_among before) ids i)
        (any_from_passes (λ j. is_among before j && reaches shape 1 j i) ids found.0 (within found.0 found.1)
        (and_from (is_among before found.0) (reaches shape 1 found.0 i) ((any_id_decides before found.0).1 found.1) found.2))

within_more : (shape : Shape) (ids : List BlockId) (w : Wishes) (n : ℕ) (i : BlockId) → Contains ids i
    → (is_among (refined_within shape ids w n) i || is_reached shape 1 (is_among (refined_within shape ids w n)) ids i) ≡ is_among (refined_within shape ids w (suc n)) i
unfolding refined_within
within_more shape ids w n i has =
    let before = refined_within shape ids w n in
    round_test shape ids before i (refined_within-in shape ids w n)
    ∙ sym (among_filter (λ i. is_among before i || list_any (λ j. touches shape j i && level_of j == level_of i + 1) before) ids i has)

pub RefinedWithin-more : (shape : Shape) (ids : List BlockId) (finer marks after : List Bool) (n : ℕ)
    → ((p source : BlockId → Bool) → marks ≡ map p ids → marks ≡ map source ids → after ≡ map (λ i. p i || is_reached shape 1 source ids i) ids)
    → RefinedWithin shape ids finer n marks → RefinedWithin shape ids finer (n + 1) after
RefinedWithin-more shape ids finer marks after n round within w begun =
    let known = within w begun in
    let test = is_among (refined_within shape ids w n) in
    let next : suc n ≡ n + 1 = omega arith in
    round test test known known
    ∙ map_alike_on (λ i. test i || is_reached shape 1 test ids i) (is_among (refined_within shape ids w (suc n))) ids (within_more shape ids w n)
    ∙ ap (λ m. map (is_among (refined_within shape ids w m)) ids) next
