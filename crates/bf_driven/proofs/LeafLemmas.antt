-- Blocks that are the leaves of a map, in order.
use Rattle.std.proofs.Common.{◌≡◌, ℕ, zero, suc, ◌+◌, ◌<◌, ◌≤◌, true, false, cond, List, [], ◌∷◌, ◌⊎◌, inl, inr, length, get_or, map, refl, ap, sym, subst, ◌∙◌, arith, All, Contains, zero-add}
use Rattle.std.specs.Prelude.{AllPairs, Some, IsPermutation}
use Rattle.std.specs.Ordering.{is_lt}
use Rattle.std.specs.List.Sorted.{IsSortedByKey}
use Rattle.std.proofs.lemmas.Bool.{false_from_ne_true}
use Rattle.std.proofs.lemmas.List.{ext_get_or, get_or_default, length-map, get_or-map}
use Rattle.std.proofs.lemmas.List.Elements.{All-contains, All-head, All-tail, All-weaker}
use Rattle.std.proofs.lemmas.List.Sorted.{All-permutation, ranks_by, sorted_far, sum_by-IsPermutation}
use Rattle.std.proofs.lemmas.Option.{same_Some}
use Rattle.bf_lemmas.proofs.Lists.{All-from_Contains}
use Rattle.bf_id.specs.Id.{BlockId, id_cmp, id_eq}
use Rattle.bf_id.specs.Walk.{IsBefore}
use Rattle.bf_id.proofs.Boxes.{id_eq_is_equal}
use Rattle.bf_id.proofs.Rising.{id_cmp_total}
use Rattle.bf_id.proofs.Tilings.{Contains-cons_cases, Contains-head, Contains-none, Contains-tail}
use Rattle.bf_case.specs.Around.{nothing}
use Rattle.bf_case.specs.Map.{Leaf, cells_at, ids_of}
use Rattle.bf_case.proofs.ListLemmas.{Contains-map, Contains-map_cases}
use Rattle.bf_case.proofs.LookupLemmas.{cells_at-leaf, leaf_from_cells_at}
use Rattle.bf_case.proofs.SampleLemmas.{not_before_itself}
use Rattle.bf_block.specs.Block.{BlockValue, leaf_of}
use Rattle.bf_parts.specs.Counts.{once, count_cons}
use Rattle.bf_forest.specs.Leaves.{times_among, AreLeaves}
use Rattle.bf_forest.specs.PieceLaws.{one_counts, some_counted}
use Rattle.bf_driven.specs.Parcels.{RiseById}

-- what is sorted by keys is so by the keys of its values
pub sorted_map : {X : Type 0} (f : X → BlockValue) (xs : List X) → IsSortedByKey (λ x. (f x).id) id_cmp xs → RiseById (map f xs)
sorted_map f [] sorted k d low within = absurd (omega (arith, within))
sorted_map f (x ∷ xs) sorted k d low within =
    let long = length-map (x ∷ xs) f in
    rw (get_or-map f (x ∷ xs) k x d (omega (arith, within, long)), get_or-map f (x ∷ xs) (k + 1) x d (omega (arith, within, long))) (sorted k x low (omega (arith, within, long)))

-- none comes before one that stands anywhere before it
abbrev NoneBack : List BlockValue → Type 0
NoneBack blocks = AllPairs (λ (a b : BlockValue). is_lt (id_cmp b.id a.id) ≡ false) blocks

none_back : (blocks : List BlockValue) → RiseById blocks → NoneBack blocks
none_back blocks rise i j d before within =
    sorted_far (λ (x y : BlockValue). is_lt (id_cmp x.id y.id)) (ranks_by id_cmp_total (λ (b : BlockValue). b.id)) blocks rise i j d (omega (arith, before)) within

-- one that has an id counts, and what is counted is there
counts : (blocks : List BlockValue) (b : BlockValue) → Contains blocks b → 1 ≤ times_among blocks b.id
counts blocks b has =
    one_counts (λ (x : BlockValue). id_eq x.id b.id) blocks has.0 b has.1 ((id_eq_is_equal (get_or blocks has.0 b).id b.id).1 (ap (λ (x : BlockValue). x.id) has.2))

module _ (i : BlockId) (ids : List BlockId) (b : BlockValue) (blocks : List BlockValue) (rise : AllPairs IsBefore (i ∷ ids)) (back : NoneBack (b ∷ blocks))
    (only : All (λ (x : BlockValue). Contains (i ∷ ids) x.id) (b ∷ blocks)) (each : (j : BlockId) → Contains (i ∷ ids) j → times_among (b ∷ blocks) j ≡ 1) where
  before_all : (j : BlockId) → Contains ids j → IsBefore i j
  before_all j (k, below, is) = subst (IsBefore i) is (rise 0 (suc k) j (omega arith) (omega arith))

  counted : (j : BlockId) → times_among (b ∷ blocks) j ≡ once (id_eq b.id j) + times_among blocks j
  counted j = count_cons (λ (x : BlockValue). id_eq x.id j) b blocks

  -- whoever isn't the first is among the others
  passed : (j : BlockId) → (b.id ≡ j → ⊥) → times_among blocks j ≡ times_among (b ∷ blocks) j
  passed j other = sym (counted j ∙ ap (λ t. once t + times_among blocks j) (false_from_ne_true (id_eq b.id j) (λ same. other ((id_eq_is_equal b.id j).0 same))) ∙ zero-add (times_among blocks j))

  -- the first block is the first leaf's
  first_is : b.id ≡ i
  first_is = by (Contains-cons_cases i ids b.id (All-contains (λ (x : BlockValue). Contains (i ∷ ids) x.id) (b ∷ blocks) b only (Contains-head b blocks)))
    where
      by : (b.id ≡ i) ⊎ Contains ids b.id → b.id ≡ i
      by (inl same) = same
      by (inr later) =
          let before : IsBefore i b.id = before_all b.id later in
          let one : times_among blocks i ≡ 1 = passed i (λ same. not_before_itself i (subst (IsBefore i) same before)) ∙ each i (Contains-head i ids) in
          let found = some_counted (λ (x : BlockValue). id_eq x.id i) blocks (omega (arith, one)) in
          let at : found.0.id ≡ i = (id_eq_is_equal found.0.id i).0 found.2 in
          let not_less : is_lt (id_cmp found.0.id b.id) ≡ false =
          subst (λ (x : BlockValue). is_lt (id_cmp x.id b.id) ≡ false) found.1.2 (back 0 (suc found.1.0) found.0 (omega arith) (omega (arith, found.1.1))) in
          absurd (let wrong : true ≡ false = sym (ap is_lt (ap (λ j. id_cmp j b.id) at ∙ before)) ∙ not_less in cc)

  later_only : All (λ (x : BlockValue). Contains ids x.id) blocks
  later_only = All-from_Contains (λ (x : BlockValue). Contains ids x.id) blocks (λ x has.
      by x has (Contains-cons_cases i ids x.id (All-contains (λ (y : BlockValue). Contains (i ∷ ids) y.id) blocks x (All-tail (λ (y : BlockValue). Contains (i ∷ ids) y.id) b blocks only) has)))
    where
      by : (x : BlockValue) → Contains blocks x → (x.id ≡ i) ⊎ Contains ids x.id → Contains ids x.id
      by x has (inr later) = later
      by x has (inl same) =
          let more : 1 ≤ times_among blocks i = subst (λ j. 1 ≤ times_among blocks j) same (counts blocks x has) in
          let twice = counted i ∙ ap (λ t. once t + times_among blocks i) ((id_eq_is_equal b.id i).1 first_is) in
          absurd (omega (arith, more, twice, each i (Contains-head i ids)))

  later_each : (j : BlockId) → Contains ids j → times_among blocks j ≡ 1
  later_each j later = passed j (λ same. not_before_itself i (subst (IsBefore i) (sym same ∙ first_is) (before_all j later))) ∙ each j (Contains-tail i ids j later)

-- blocks by rising id, each with the id of a leaf, and of each leaf one, have the leaves' ids
ids_are : (ids : List BlockId) (blocks : List BlockValue) → AllPairs IsBefore ids → NoneBack blocks → All (λ (x : BlockValue). Contains ids x.id) blocks
    → ((j : BlockId) → Contains ids j → times_among blocks j ≡ 1) → map (λ (x : BlockValue). x.id) blocks ≡ ids
ids_are [] [] rise back only each = refl
ids_are [] (b ∷ blocks) rise back only each = absurd (Contains-none b.id (only 0 b (omega arith)))
ids_are (i ∷ ids) [] rise back only each = absurd (let none : 0 ≡ 1 = each i (Contains-head i ids) in omega (arith, none))
ids_are (i ∷ ids) (b ∷ blocks) rise back only each =
    ap (λ j. j ∷ map (λ (x : BlockValue). x.id) blocks) (first_is i ids b blocks rise back only each)
    ∙ ap (λ js. i ∷ js) (ids_are ids blocks (λ j k d before within. rise (suc j) (suc k) d (omega arith) (omega arith)) (λ j k d before within. back (suc j) (suc k) d (omega arith) (omega arith))
    (later_only i ids b blocks rise back only each) (later_each i ids b blocks rise back only each))

-- what stands at a place of blocks, of their leaves and of their ids
at_place : (P : BlockValue → Type 0) (blocks : List BlockValue) (k : ℕ) → k < length blocks → All P blocks
    → (b : BlockValue) × P b × (get_or (map leaf_of blocks) k nothing ≡ leaf_of b) × (get_or (map (λ (x : BlockValue). x.id) blocks) k nothing.0 ≡ b.id)
at_place P [] k within all = absurd (omega (arith, within))
at_place P (b ∷ blocks) zero within all = (b, All-head P b blocks all, refl, refl)
at_place P (b ∷ blocks) (suc k) within all = at_place P blocks k (omega arith) (All-tail P b blocks all)

module _ (leaves : List Leaf) (rise : AllPairs IsBefore (ids_of leaves)) where
  -- a block of a map is one of its leaves
  id_among : (b : BlockValue) → cells_at leaves b.id ≡ Some b.cells → Contains (ids_of leaves) b.id
  id_among b found = Contains-map (λ (leaf : Leaf). leaf.0) leaves (b.id, b.cells) (leaf_from_cells_at leaves b.id b.cells found)

  -- each leaf's id is counted once
  once_each : (blocks : List BlockValue) → AreLeaves leaves blocks → (j : BlockId) → Contains (ids_of leaves) j → times_among blocks j ≡ 1
  once_each blocks are j has =
      let leaf = Contains-map_cases (λ (leaf : Leaf). leaf.0) leaves j has in
      ap (times_among blocks) leaf.2 ∙ All-contains (λ (l : Leaf). times_among blocks l.0 ≡ 1) leaves leaf.0 are.once leaf.1

  -- leaves of a map that are in order are the map
  pub sorted_leaves : (blocks sorted : List BlockValue) → AreLeaves leaves blocks → IsPermutation blocks sorted → RiseById sorted → map leaf_of sorted ≡ leaves
  sorted_leaves blocks sorted are same in_order = ext_get_or nothing (map leaf_of sorted) leaves long (λ k below. at k (omega (arith, below, length-map sorted leaf_of)))
    where
      cells : All (λ (b : BlockValue). cells_at leaves b.id ≡ Some b.cells) sorted
      cells = All-permutation (λ (b : BlockValue). cells_at leaves b.id ≡ Some b.cells) blocks sorted same are.cells

      ids : map (λ (b : BlockValue). b.id) sorted ≡ ids_of leaves
      ids = ids_are (ids_of leaves) sorted rise (none_back sorted in_order)
          (All-weaker (λ (b : BlockValue). cells_at leaves b.id ≡ Some b.cells) (λ (b : BlockValue). Contains (ids_of leaves) b.id) id_among sorted cells)
          (λ j has. sum_by-IsPermutation (λ (b : BlockValue). cond (id_eq b.id j) 1 0) blocks sorted same ∙ once_each blocks are j has)

      long : length (map leaf_of sorted) ≡ length leaves
      long = length-map sorted leaf_of ∙ sym (length-map sorted (λ (b : BlockValue). b.id)) ∙ ap length ids ∙ length-map leaves (λ (leaf : Leaf). leaf.0)

      at : (k : ℕ) → k < length sorted → get_or (map leaf_of sorted) k nothing ≡ get_or leaves k nothing
      at k below =
          let leaf : Leaf = get_or leaves k nothing in
          let within : k < length leaves = omega (arith, long, length-map sorted leaf_of, below) in
          let found = at_place (λ b. cells_at leaves b.id ≡ Some b.cells) sorted k below cells in
          let b : BlockValue = found.0 in
          let id : b.id ≡ leaf.0 = sym found.3 ∙ ap (λ (js : List BlockId). get_or js k nothing.0) ids ∙ get_or-map (λ (l : Leaf). l.0) leaves k nothing nothing.0 within in
          let there : cells_at leaves leaf.0 ≡ Some leaf.1 = cells_at-leaf leaves leaf.0 leaf.1 rise (k, within, get_or_default leaves k leaf nothing within) in
          let cells : b.cells ≡ leaf.1 = same_Some b.cells leaf.1 (sym found.1 ∙ ap (cells_at leaves) id ∙ there) in
          found.2 ∙ (λ j. (id j, cells j))
