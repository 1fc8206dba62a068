-- Leaves chosen one after another.
use Rattle.std.proofs.Common.{◌≡◌, ◌||◌, ℕ, suc, ◌+◌, ◌<◌, Bool, true, false, cond, List, [], ◌∷◌, ◌++◌, map, drop, length, get_or, refl, sym, ap, ◌∙◌, add-one, append_assoc}
use Rattle.std.specs.List.{list_any}
use Rattle.std.proofs.Math.Seq.{drop-cons}
use Rattle.bf_id.specs.Id.{BlockId}
use Rattle.bf_marks.specs.Flags.{chosen}
use Rattle.bf_marks.proofs.ChosenLemmas.{chosen-cons}

-- those found so far come before those chosen of the leaves from a place on
abbrev pub Found : {X : Type 0} → (test : BlockId → X → Bool) → (ids : List BlockId) → (xs : List X) → (found : List BlockId) → (place : ℕ) → Type 0
Found test ids xs found place = chosen test ids xs ≡ found ++ chosen test (drop place ids) (drop place xs)

-- the leaf at a place is found too where it passes
pub found_more : {X : Type 0} (test : BlockId → X → Bool) (ids : List BlockId) (xs : List X) (found now : List BlockId) (place : ℕ) (i : BlockId) (x : X) (b : Bool)
    → place < length ids → place < length xs → get_or ids place i ≡ i → get_or xs place x ≡ x → test i x ≡ b → now ≡ cond b (found ++ i ∷ []) found
    → Found test ids xs found place → Found test ids xs now (place + 1)
found_more {X} test ids xs found now place i x b within beside here beside_is passes is before =
    before ∙ ap (λ is. found ++ is) next ∙ by b ∙ ap (λ is. is ++ later) (sym is)
  where
    later : List BlockId
    later = chosen test (drop (place + 1) ids) (drop (place + 1) xs)

    ids_are : drop place ids ≡ i ∷ drop (place + 1) ids
    ids_are = drop-cons ids place i within ∙ ap (λ j. j ∷ drop (suc place) ids) here ∙ ap (λ n. i ∷ drop n ids) (sym (add-one place))

    xs_are : drop place xs ≡ x ∷ drop (place + 1) xs
    xs_are = drop-cons xs place x beside ∙ ap (λ (y : X). y ∷ drop (suc place) xs) beside_is ∙ ap (λ n. x ∷ drop n xs) (sym (add-one place))

    next : chosen test (drop place ids) (drop place xs) ≡ cond b (i ∷ later) later
    next = ap (λ is. chosen test is (drop place xs)) ids_are ∙ ap (λ ys. chosen test (i ∷ drop (place + 1) ids) ys) xs_are
        ∙ chosen-cons test i (drop (place + 1) ids) x (drop (place + 1) xs) ∙ ap (λ b. cond b (i ∷ later) later) passes

    by : (b : Bool) → found ++ cond b (i ∷ later) later ≡ cond b (found ++ i ∷ []) found ++ later
    by true = sym (append_assoc found (i ∷ []) later)
    by false = refl

-- a test of what is made of each
pub any_of_made : {X Y : Type 0} (f : X → Y) (test : Y → Bool) (xs : List X) → list_any (λ x. test (f x)) xs ≡ list_any test (map f xs)
any_of_made f test [] = refl
any_of_made f test (x ∷ xs) = ap (λ b. test (f x) || b) (any_of_made f test xs)
