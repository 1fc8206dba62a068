-- Blocks beside the strips that are for them, as they are stepped one after another.
use Rattle.std.proofs.Common.{◌≡◌, ℕ, zero, suc, ◌<◌, List, [], ◌∷◌, ◌++◌, length, map, get_or, All, refl, sym, ap, subst, ◌∙◌, arith}
use Rattle.std.specs.List.{zip}
use Rattle.std.proofs.lemmas.List.{get_or-map, length-map}
use Rattle.bf_case.specs.declared.case.Case.{Case}
use Rattle.bf_ghost.specs.Strips.{StripValue}
use Rattle.bf_msg.specs.declared.linked_block.LinkedBlock.{LinkedBlock}
use Rattle.bf_forest.specs.Ready.{groups_of, CanStep, IsPairBetween}
use Rattle.bf_forest.specs.Rounds.{stepped_all, stepped_by, stepped_pair, strips_to}

-- strips in the vectors that the code has
module _ {V : Type 0} (items : V → List StripValue) where
  abbrev pub read_pair : LinkedBlock × V → LinkedBlock × List StripValue
  read_pair pair = (pair.0, items pair.1)

  zip_items : (blocks : List LinkedBlock) (groups : List V) → zip blocks (map items groups) ≡ map read_pair (zip blocks groups)
  zip_items [] groups = refl
  zip_items (b ∷ blocks) [] = refl
  zip_items (b ∷ blocks) (group ∷ groups) = ap (λ rest. (b, items group) ∷ rest) (zip_items blocks groups)

  -- what holds of all pairs holds of the next
  pub next_pair : (P : LinkedBlock × List StripValue → Type 0) (blocks : List LinkedBlock) (groups : List V) (k : ℕ) (b : LinkedBlock) (strips : V) → All P (zip blocks (map items groups))
      → k < length (zip blocks groups) → (b, strips) ≡ get_or (zip blocks groups) k (b, strips) → P (b, items strips)
  next_pair P blocks groups k b strips all within is =
      let pair : LinkedBlock × V = (b, strips) in
      let same : get_or (zip blocks (map items groups)) k (read_pair pair) ≡ read_pair pair =
      ap (λ (l : List (LinkedBlock × List StripValue)). get_or l k (read_pair pair)) (zip_items blocks groups)
      ∙ get_or-map read_pair (zip blocks groups) k pair (read_pair pair) within ∙ ap read_pair (sym is) in
      let long : length (zip blocks (map items groups)) ≡ length (zip blocks groups) = ap length (zip_items blocks groups) ∙ length-map (zip blocks groups) read_pair in
      subst P same (all k (read_pair pair) (omega (arith, long, within)))

  same_pairs : (pairs : List (LinkedBlock × V)) → map (λ pair. (pair.0, pair.1)) pairs ≡ pairs
  same_pairs [] = refl
  same_pairs (pair ∷ pairs) = ap (λ rest. pair ∷ rest) (same_pairs pairs)

  -- and all pairs one step later are their blocks one step later
  pub pairs_stepped : (blocks : List LinkedBlock) (groups : List V) (pairs : List (LinkedBlock × V)) → map (λ pair. (pair.0, pair.1)) pairs ≡ zip blocks groups
      → map (λ pair. stepped_pair (read_pair pair)) pairs ≡ map stepped_pair (zip blocks (map items groups))
  pairs_stepped blocks groups pairs walked =
      twice pairs ∙ ap (λ l. map stepped_pair (map read_pair l)) (sym (same_pairs pairs) ∙ walked) ∙ ap (map stepped_pair) (sym (zip_items blocks groups))
    where
      twice : (l : List (LinkedBlock × V)) → map (λ pair. stepped_pair (read_pair pair)) l ≡ map stepped_pair (map read_pair l)
      twice [] = refl
      twice (pair ∷ rest) = ap (λ l. stepped_pair (read_pair pair) ∷ l) (twice rest)

each_between : (c : Case) (time : ℕ) (strips : List StripValue) (blocks : List LinkedBlock) → All (CanStep c time strips) blocks → time < c.steps → All (IsPairBetween c time) (zip blocks (groups_of strips blocks))
each_between c time strips [] can more = λ k d below. absurd (omega arith)
each_between c time strips (b ∷ blocks) can more = λ k d below. at (each_between c time strips blocks (λ j e under. can (suc j) e (omega (arith, under))) more) k d below
  where
    at : All (IsPairBetween c time) (zip blocks (groups_of strips blocks)) → (k : ℕ) (d : LinkedBlock × List StripValue) → k < length (zip (b ∷ blocks) (groups_of strips (b ∷ blocks)))
        → IsPairBetween c time (get_or (zip (b ∷ blocks) (groups_of strips (b ∷ blocks))) k d)
    at rest zero d below = let its = can 0 b (omega arith) in record { is = its.is; told = its.told; more = more }
    at rest (suc k) d below = rest k d (omega (arith, below))

-- blocks that all can be stepped, beside what some strips tell each
pub all_between : (c : Case) (time : ℕ) (strips : List StripValue) (blocks : List LinkedBlock) (groups : List (List StripValue)) → groups ≡ groups_of strips blocks
    → All (CanStep c time strips) blocks → time < c.steps → All (IsPairBetween c time) (zip blocks groups)
all_between c time strips blocks groups are can more = subst (λ l. All (IsPairBetween c time) (zip blocks l)) (sym are) (each_between c time strips blocks can more)

-- so a rank's blocks are stepped between what it heard and what they tell each other
pub all_stepped_by : (rank : ℕ) (heard : List StripValue) (blocks : List LinkedBlock) (groups : List (List StripValue)) → groups ≡ groups_of (heard ++ strips_to rank blocks) blocks
    → map stepped_pair (zip blocks groups) ≡ stepped_all rank heard blocks
unfolding stepped_all
all_stepped_by rank heard blocks groups are = ap (λ l. map stepped_pair (zip blocks l)) are ∙ each (heard ++ strips_to rank blocks) blocks
  where
    each : (strips : List StripValue) (bs : List LinkedBlock) → map stepped_pair (zip bs (groups_of strips bs)) ≡ map (stepped_by strips) bs
    each strips [] = refl
    each strips (b ∷ bs) = ap (λ rest. stepped_by strips b ∷ rest) (each strips bs)

-- the groups of all that was told
pub groups_by : (rank : ℕ) (heard : List StripValue) (blocks : List LinkedBlock) (strips before : List StripValue) (first second : List LinkedBlock) (groups : List (List StripValue))
    → before ≡ heard → first ≡ blocks → second ≡ blocks → strips ≡ before ++ strips_to rank first → groups ≡ groups_of strips second
    → groups ≡ groups_of (heard ++ strips_to rank blocks) blocks
groups_by rank heard blocks strips before first second groups begin one two told are =
    are
    ∙ ap (groups_of strips) two
    ∙ ap (λ (l : List StripValue). groups_of l blocks)
    (told ∙ ap (λ (l : List StripValue). l ++ strips_to rank first) begin ∙ ap (λ (bs : List LinkedBlock). heard ++ strips_to rank bs) one)
