-- The refined leaves, as computed, are those that chains lead to.
use Rattle.std.proofs.Common.{◌≡◌, ℕ, zero, suc, ◌+◌, ◌≤◌, Bool, true, ◌&&◌, ◌||◌, List, ◌⊎◌, inl, inr, Contains, arith, ◌==◌, IsTrue, ◌↔◌, All}
use Rattle.std.specs.List.{list_any}
use Rattle.std.proofs.lemmas.Bool.{or_left, or_right, or_cases, and_parts, and_from, eqb-true, eq-eqb}
use Rattle.std.proofs.lemmas.List.Elements.{All-contains}
use Rattle.bf_id.specs.declared.shape.Shape.{Shape}
use Rattle.bf_id.specs.Id.{BlockId, level_of, Touch, touches}
use Rattle.bf_id.proofs.Tilings.{any_id_decides}
use Rattle.bf_case.specs.Wishes.{Wishes}
use Rattle.bf_case.specs.Refinement.{Chain, IsRefined, is_among, refined_within, refined_ids}
use Rattle.bf_case.proofs.TestLemmas.{touches_decides, passes_from_any, any_from_passes, Contains-filter, Contains-filter_cases}

-- a refined leaf one level finer touches the leaf
abbrev is_forced : Shape → List BlockId → BlockId → Bool
is_forced shape before i = list_any (λ j. touches shape j i && level_of j == level_of i + 1) before

-- a chain of at most so many steps
abbrev ChainWithin : Shape → List BlockId → Wishes → ℕ → BlockId → Type 0
ChainWithin shape ids w n i = (steps : ℕ) × (steps ≤ n) × Chain shape ids w steps i

-- what is forced touches a leaf one level finer of the list
forced_by : (shape : Shape) (before : List BlockId) (i : BlockId) → is_forced shape before i ≡ true
    → (j : BlockId) × Contains before j × Touch shape j i × (level_of j ≡ level_of i + 1)
forced_by shape before i e =
    let found = passes_from_any (λ j. touches shape j i && level_of j == level_of i + 1) before e in
    let parts = and_parts (touches shape found.0 i) (level_of found.0 == level_of i + 1) found.2 in
    (found.0, found.1, (touches_decides shape found.0 i).0 parts.0, eqb-true (level_of found.0) (level_of i + 1) parts.1)

forced_from : (shape : Shape) (before : List BlockId) (i j : BlockId) → Contains before j → Touch shape j i → level_of j ≡ level_of i + 1
    → is_forced shape before i ≡ true
forced_from shape before i j has touch level =
    any_from_passes (λ j. touches shape j i && level_of j == level_of i + 1) before j has
    (and_from (touches shape j i) (level_of j == level_of i + 1) ((touches_decides shape j i).1 touch) (eq-eqb (level_of j) (level_of i + 1) level))

-- a chain leads to each leaf that is computed
pub chain_from_within : (shape : Shape) (ids : List BlockId) (w : Wishes) (n : ℕ) (i : BlockId)
    → Contains (refined_within shape ids w n) i → ChainWithin shape ids w n i
unfolding refined_within Chain
chain_from_within shape ids w zero i has =
    let kept = Contains-filter_cases w.finer ids i has in (0, omega arith, (kept.0, kept.1))
chain_from_within shape ids w (suc n) i has =
    let before = refined_within shape ids w n in
    let kept = Contains-filter_cases (λ i. is_among before i || is_forced shape before i) ids i has in
    by kept.0 (or_cases (is_among before i) (is_forced shape before i) kept.1) (chain_from_within shape ids w n)
  where
    by : Contains ids i → (is_among (refined_within shape ids w n) i ≡ true) ⊎ (is_forced shape (refined_within shape ids w n) i ≡ true)
        → ((j : BlockId) → Contains (refined_within shape ids w n) j → ChainWithin shape ids w n j) → ChainWithin shape ids w (suc n) i
    by in' (inl among) chain =
        let old = chain i ((any_id_decides (refined_within shape ids w n) i).0 among) in (old.0, omega arith, old.2)
    by in' (inr forced) chain =
        let j = forced_by shape (refined_within shape ids w n) i forced in
        let old = chain j.0 j.1 in
        (suc old.0, omega arith, (in', (j.0, (old.2, j.2, j.3))))

-- each leaf to which a chain leads is computed
pub within_from_chain : (shape : Shape) (ids : List BlockId) (w : Wishes) (n steps : ℕ) (i : BlockId)
    → steps ≤ n → Chain shape ids w steps i → Contains (refined_within shape ids w n) i
unfolding refined_within Chain
within_from_chain shape ids w zero zero i h chain = Contains-filter w.finer ids i chain.0 chain.1
within_from_chain shape ids w zero (suc steps) i h chain = absurd (omega arith)
within_from_chain shape ids w (suc n) zero i h chain =
    let before = refined_within shape ids w n in
    let old = within_from_chain shape ids w n zero i (omega arith) chain in
    Contains-filter (λ i. is_among before i || is_forced shape before i) ids i chain.0
    (or_left (is_among before i) (is_forced shape before i) ((any_id_decides before i).1 old))
within_from_chain shape ids w (suc n) (suc steps) i h chain =
    let before = refined_within shape ids w n in
    let j = chain.1.0 in
    let old = within_from_chain shape ids w n steps j (omega arith) chain.1.1.0 in
    Contains-filter (λ i. is_among before i || is_forced shape before i) ids i chain.0
    (or_right (is_among before i) (is_forced shape before i) (forced_from shape before i j old chain.1.1.1 chain.1.1.2))

-- a chain begins as many levels above its end as it has steps, so it has at most four
pub chain_is_short : (shape : Shape) (ids : List BlockId) (w : Wishes) (steps : ℕ) (i : BlockId)
    → All (λ j. level_of j ≤ 4) ids → Chain shape ids w steps i → level_of i + steps ≤ 4
unfolding Chain
chain_is_short shape ids w zero i low chain = omega (arith, All-contains (λ j. level_of j ≤ 4) ids i low chain.0)
chain_is_short shape ids w (suc steps) i low chain =
    omega (arith, chain_is_short shape ids w steps chain.1.0 low chain.1.1.0, chain.1.1.2)

-- the computed leaves are the refined ones
pub refined_ids_are : (shape : Shape) (ids : List BlockId) (w : Wishes) (i : BlockId)
    → All (λ j. level_of j ≤ 4) ids → IsTrue (is_among (refined_ids shape ids w) i) ↔ IsRefined shape ids w i
refined_ids_are shape ids w i low = (
  λ among. (let found = chain_from_within shape ids w 4 i ((any_id_decides (refined_ids shape ids w) i).0 among) in (found.0, found.2)),
  λ refined. (any_id_decides (refined_ids shape ids w) i).1
      (within_from_chain shape ids w 4 refined.0 i (omega (arith, chain_is_short shape ids w refined.0 i low refined.1)) refined.1),
)
