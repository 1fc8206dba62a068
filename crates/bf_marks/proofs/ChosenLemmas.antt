-- Leaves chosen by a test of them and of what stands beside them.
use Rattle.std.proofs.Common.{◌≡◌, ℕ, zero, suc, ◌+◌, ◌<◌, ◌≤◌, Bool, true, false, cond, List, [], ◌∷◌, ◌⊎◌, inl, inr, map, filter, Contains, length, get_or, set, replicate, refl, sym, ap, ◌∙◌, subst, arith}
use Rattle.std.specs.Prelude.{Some, AllPairs, slice_get}
use Rattle.std.proofs.lemmas.Option.{get_or_from_slice_get}
use Rattle.std.specs.List.{list_any, zip}
use Rattle.std.proofs.lemmas.Bool.{cases_eq, cases_lt, false_from_ne_true, both_ways}
use Rattle.std.proofs.lemmas.List.{get_or-set_same, get_or-set_other}
use Rattle.bf_id.specs.Id.{BlockId, id_eq}
use Rattle.bf_id.specs.Walk.{IsBefore}
use Rattle.bf_id.proofs.Boxes.{id_eq_is_equal}
use Rattle.bf_id.proofs.Tilings.{Contains-head, Contains-tail, Contains-cons_cases, Contains-none, any_id_decides}
use Rattle.bf_case.specs.Refinement.{is_among}
use Rattle.bf_case.proofs.SampleLemmas.{not_before_itself}
use Rattle.bf_marks.specs.Flags.{chosen}
use Rattle.bf_marks.specs.FlagFields.{with_flag}

-- of a place within a list the default does not matter
pub get_same : {X : Type 0} (xs : List X) (k : ℕ) (d e : X) → k < length xs → get_or xs k d ≡ get_or xs k e
get_same [] k d e below = absurd (omega arith)
get_same (x ∷ xs) zero d e below = refl
get_same (x ∷ xs) (suc k) d e below = get_same xs k d e (omega arith)

-- those behind the first of rising leaves rise too, and it comes before each
pub rest_rises : (i : BlockId) (ids : List BlockId) → AllPairs IsBefore (i ∷ ids) → AllPairs IsBefore ids
rest_rises i ids rise j k d before within = rise (suc j) (suc k) d (omega arith) (omega arith)

pub first_before : (i : BlockId) (ids : List BlockId) (j : BlockId) → AllPairs IsBefore (i ∷ ids) → Contains ids j → IsBefore i j
first_before i ids j rise (k, below, at) = subst (IsBefore i) at (rise 0 (suc k) j (omega arith) (omega arith))

-- the first leaf is chosen where it passes
pub chosen-cons : {X : Type 0} (test : BlockId → X → Bool) (i : BlockId) (ids : List BlockId) (x : X) (xs : List X)
    → chosen test (i ∷ ids) (x ∷ xs) ≡ cond (test i x) (i ∷ chosen test ids xs) (chosen test ids xs)
chosen-cons {X} test i ids x xs = by (test i x)
  where
    rest : List (BlockId × X)
    rest = filter (λ (leaf : BlockId × X). test leaf.0 leaf.1) (zip ids xs)

    by : (b : Bool) → map (λ (leaf : BlockId × X). leaf.0) (cond b ((i, x) ∷ rest) rest) ≡ cond b (i ∷ map (λ (leaf : BlockId × X). leaf.0) rest) (map (λ (leaf : BlockId × X). leaf.0) rest)
    by true = refl
    by false = refl

-- those that are chosen are leaves
pub chosen_known : {X : Type 0} (test : BlockId → X → Bool) (ids : List BlockId) (xs : List X) (j : BlockId) → Contains (chosen test ids xs) j → Contains ids j
chosen_known test [] xs j has = has
chosen_known test (i ∷ ids) [] j has = absurd (Contains-none j has)
chosen_known test (i ∷ ids) (x ∷ xs) j has = by (test i x) (subst (λ is. Contains is j) (chosen-cons test i ids x xs) has) (chosen_known test ids xs j)
  where
    by : (b : Bool) → Contains (cond b (i ∷ chosen test ids xs) (chosen test ids xs)) j → (Contains (chosen test ids xs) j → Contains ids j) → Contains (i ∷ ids) j
    by true in' later = at (Contains-cons_cases i (chosen test ids xs) j in')
      where
        at : (j ≡ i) ⊎ Contains (chosen test ids xs) j → Contains (i ∷ ids) j
        at (inl same) = subst (Contains (i ∷ ids)) (sym same) (Contains-head i ids)
        at (inr rest) = Contains-tail i ids j (later rest)
    by false in' later = Contains-tail i ids j (later in')

pub among_is : (ids : List BlockId) (i : BlockId) → Contains ids i → is_among ids i ≡ true
among_is ids i has = (any_id_decides ids i).1 has

pub among_has : (ids : List BlockId) (i : BlockId) → is_among ids i ≡ true → Contains ids i
among_has ids i among = (any_id_decides ids i).0 among

-- one that is no leaf is not chosen
pub unknown : {X : Type 0} (test : BlockId → X → Bool) (ids : List BlockId) (xs : List X) (j : BlockId) → is_among ids j ≡ false → is_among (chosen test ids xs) j ≡ false
unknown test ids xs j none =
    false_from_ne_true (is_among (chosen test ids xs) j) (λ among. both_ways (is_among ids j) none (among_is ids j (chosen_known test ids xs j (among_has (chosen test ids xs) j among))))

-- of rising leaves, one is chosen exactly where it passes with what stands beside it
pub chosen_at : {X : Type 0} (test : BlockId → X → Bool) (ids : List BlockId) (xs : List X) (k : ℕ) (j : BlockId) (y : X) → AllPairs IsBefore ids → length xs ≡ length ids → k < length ids
    → get_or ids k j ≡ j → get_or xs k y ≡ y → test j y ≡ is_among (chosen test ids xs) j
chosen_at test [] xs k j y rise long below at beside = absurd (omega arith)
chosen_at test (i ∷ ids) [] k j y rise long below at beside = absurd (omega arith)
chosen_at {X} test (i ∷ ids) (x ∷ xs) zero j y rise long below at beside =
    ap (λ (z : X). test j z) (sym beside) ∙ ap (λ i. test i x) (sym at) ∙ by (test i x) ∙ ap (is_among (chosen test (i ∷ ids) (x ∷ xs))) at
  where
    apart : is_among (chosen test ids xs) i ≡ false
    apart = false_from_ne_true (is_among (chosen test ids xs) i) (λ among. not_before_itself i (first_before i ids i rise (chosen_known test ids xs i (among_has (chosen test ids xs) i among))))

    on : (b : Bool) → b ≡ is_among (cond b (i ∷ chosen test ids xs) (chosen test ids xs)) i
    on true = sym (among_is (i ∷ chosen test ids xs) i (Contains-head i (chosen test ids xs)))
    on false = sym apart

    by : (b : Bool) → test i x ≡ is_among (chosen test (i ∷ ids) (x ∷ xs)) i
    by b = on (test i x) ∙ ap (λ is. is_among is i) (sym (chosen-cons test i ids x xs))
chosen_at test (i ∷ ids) (x ∷ xs) (suc k) j y rise long below at beside =
    chosen_at test ids xs k j y (rest_rises i ids rise) (omega arith) (omega arith) at beside ∙ by (test i x) ∙ ap (λ is. is_among is j) (sym (chosen-cons test i ids x xs))
  where
    other : id_eq j i ≡ false
    other = false_from_ne_true (id_eq j i) (λ same. not_before_itself i (subst (IsBefore i) ((id_eq_is_equal j i).0 same) (first_before i ids j rise (k, omega arith, at))))

    by : (b : Bool) → is_among (chosen test ids xs) j ≡ is_among (cond b (i ∷ chosen test ids xs) (chosen test ids xs)) j
    by true = rw other refl
    by false = refl

-- the flag at a leaf's place
pub flag_at : (ids : List BlockId) (flags : List Bool) (k : ℕ) (j : BlockId) (flag : Bool) → AllPairs IsBefore ids → length flags ≡ length ids → k < length ids → get_or ids k j ≡ j
    → get_or flags k flag ≡ flag → flag ≡ is_among (with_flag ids flags) j
flag_at ids flags k j flag rise long below at is = chosen_at (λ i flag. flag) ids flags k j flag rise long below at is

-- a test of what stands beside the leaves alone
pub chosen_mapped : {X : Type 0} (f : X → Bool) (ids : List BlockId) (xs : List X) → with_flag ids (map f xs) ≡ chosen (λ i x. f x) ids xs
chosen_mapped f [] xs = refl
chosen_mapped f (i ∷ ids) [] = refl
chosen_mapped f (i ∷ ids) (x ∷ xs) =
    chosen-cons (λ i flag. flag) i ids (f x) (map f xs)
    ∙ ap (λ is. cond (f x) (i ∷ is) is) (chosen_mapped f ids xs)
    ∙ sym (chosen-cons (λ i x. f x) i ids x xs)

-- a test of the leaves alone
pub chosen_filtered : {X : Type 0} (test : BlockId → Bool) (ids : List BlockId) (xs : List X) → length xs ≡ length ids → chosen (λ i x. test i) ids xs ≡ filter test ids
chosen_filtered test [] xs long = refl
chosen_filtered test (i ∷ ids) [] long = absurd (omega arith)
chosen_filtered test (i ∷ ids) (x ∷ xs) long = chosen-cons (λ i x. test i) i ids x xs ∙ ap (λ is. cond (test i) (i ∷ is) is) (chosen_filtered test ids xs (omega arith))

pub none_flagged : (ids : List BlockId) (n : ℕ) → with_flag ids (replicate n false) ≡ []
none_flagged [] n = refl
none_flagged (i ∷ ids) zero = refl
none_flagged (i ∷ ids) (suc n) = chosen-cons (λ i flag. flag) i ids false (replicate n false) ∙ none_flagged ids n

-- where no flag is set no leaf has it
pub none_set : (ids : List BlockId) (flags : List Bool) → list_any (λ flag. flag) flags ≡ false → with_flag ids flags ≡ []
none_set [] flags none = refl
none_set (i ∷ ids) [] none = refl
none_set (i ∷ ids) (true ∷ flags) none = absurd (cc)
none_set (i ∷ ids) (false ∷ flags) none = chosen-cons (λ i flag. flag) i ids false flags ∙ none_set ids flags none

-- the first flags say which leaves pass
abbrev pub Said : {X : Type 0} → (test : BlockId → X → Bool) → List BlockId → List X → List Bool → (count : ℕ) → Type 0
Said {X} test ids xs flags count = (k : ℕ) (i : BlockId) (x : X) → k < count → get_or ids k i ≡ i → get_or xs k x ≡ x → get_or flags k false ≡ test i x

pub said_none : {X : Type 0} (test : BlockId → X → Bool) (ids : List BlockId) (xs : List X) (flags : List Bool) → Said test ids xs flags 0
said_none test ids xs flags k i x below at beside = absurd (omega arith)

less_or_last : (k place : ℕ) → k < place + 1 → (k ≡ place → ⊥) → k < place
less_or_last k place below differ = on (cases_lt k place)
  where
    on : (k < place) ⊎ (place ≤ k) → k < place
    on (inl low) = low
    on (inr high) = absurd (differ (omega arith))

pub said_more : {X : Type 0} (test : BlockId → X → Bool) (ids : List BlockId) (xs : List X) (flags : List Bool) (place : ℕ) (i : BlockId) (x : X) (flag : Bool)
    → place < length ids → place < length xs → place < length flags → get_or ids place i ≡ i → get_or xs place x ≡ x → flag ≡ test i x
    → Said test ids xs flags place → Said test ids xs (set flags place flag) (place + 1)
said_more {X} test ids xs flags place i x flag within beside_within room here beside is before k j y below at beside_at = by (cases_eq k place)
  where
    by : (k ≡ place) ⊎ (k ≡ place → ⊥) → get_or (set flags place flag) k false ≡ test j y
    by (inl same) =
        let leaf : i ≡ j = sym here ∙ get_same ids place i j within ∙ ap (λ n. get_or ids n j) (sym same) ∙ at in
        let thing : x ≡ y = sym beside ∙ get_same xs place x y beside_within ∙ ap (λ n. get_or xs n y) (sym same) ∙ beside_at in
        ap (λ n. get_or (set flags place flag) n false) same ∙ get_or-set_same flags place flag false room ∙ is ∙ ap (λ i. test i x) leaf ∙ ap (λ (z : X). test j z) thing
    by (inr differ) = get_or-set_other flags place k flag false differ ∙ before k j y (less_or_last k place below differ) at beside_at

-- all of them
pub said_all : {X : Type 0} (test : BlockId → X → Bool) (ids : List BlockId) (xs : List X) (flags : List Bool) → length xs ≡ length ids → length flags ≡ length ids
    → Said test ids xs flags (length ids) → with_flag ids flags ≡ chosen test ids xs
said_all test [] xs flags beside long said = refl
said_all test (i ∷ ids) [] flags beside long said = absurd (omega arith)
said_all test (i ∷ ids) (x ∷ xs) [] beside long said = absurd (omega arith)
said_all test (i ∷ ids) (x ∷ xs) (flag ∷ flags) beside long said =
    chosen-cons (λ i flag. flag) i ids flag flags
    ∙ ap (λ b. cond b (i ∷ with_flag ids flags) (with_flag ids flags)) (said 0 i x (omega arith) refl refl)
    ∙ ap (λ is. cond (test i x) (i ∷ is) is) (said_all test ids xs flags (omega arith) (omega arith) (λ k j y below at beside_at. said (suc k) j y (omega arith) at beside_at))
    ∙ sym (chosen-cons test i ids x xs)

-- a read of a list of leaves at a place
pub flag_of : (ids : List BlockId) (flags : List Bool) (k : ℕ) (flag : Bool) → AllPairs IsBefore ids → length flags ≡ length ids → k < length ids → flag ≡ get_or flags k flag
    → (i : BlockId) → slice_get ids k ≡ Some i → flag ≡ is_among (with_flag ids flags) i
flag_of ids flags k flag rise long below is i here = flag_at ids flags k i flag rise long below (get_or_from_slice_get ids k i i here) (sym is)
