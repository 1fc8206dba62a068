-- The model's blocks of a point with their links: they rise and tile the domain, and those of the beginning are the roots.
use Rattle.std.proofs.Common.{◌≡◌, ℕ, zero, suc, cond, ◌+◌, ◌*◌, ◌/◌, ◌<◌, ◌≤◌, Bool, true, false, List, [], ◌∷◌, length, get_or, map, Contains, refl, sym, ap, subst, ◌∙◌, arith, All}
use Rattle.std.specs.Prelude.{◌==◌, filter, Some, slice_index, slice_index_or, IsTrue}
use Rattle.std.specs.List.{count_by, range_with_len, list_any}
use Rattle.std.specs.Ordering.{is_lt, ordering_reverse}
use Rattle.std.proofs.Math.Nat.{div-lt_iff_lt-mul, mul-lt-mul_of_pos_left}
use Rattle.std.proofs.lemmas.Bool.{false_from_ne_true}
use Rattle.std.proofs.lemmas.List.FromFn.{get_or-map-range_with_len}
use Rattle.std.proofs.lemmas.List.Kept.{AllPairs-filter}
use Rattle.std.proofs.lemmas.List.Elements.{All-map, All-filter}
use Rattle.bf_buddy.specs.Members.{is_member}
use Rattle.bf_id.specs.Cube.{Voxel, Holds, holds}
use Rattle.bf_id.specs.Shape.{IsShape, InDomain, root_count}
use Rattle.bf_id.specs.Id.{BlockId, box_of, id_cmp, id_eq, root_id, root_ids, touches, InShape}
use Rattle.bf_id.specs.Tiling.{Tiles}
use Rattle.bf_id.specs.Walk.{IsBefore}
use Rattle.bf_id.proofs.Boxes.{id_eq_is_equal}
use Rattle.bf_id.proofs.Rising.{id_cmp_total}
use Rattle.bf_cells.specs.Grid.{Grid, grid_with}
use Rattle.bf_case.specs.declared.case.Case.{Case}
use Rattle.bf_case.specs.Case.{first_rank_of, IsValid}
use Rattle.bf_case.specs.Map.{Leaf, IsMap, cells_at, ids_of}
use Rattle.bf_case.specs.Model.{model, model_at, regrids}
use Rattle.bf_case.specs.Regrid.{regrid}
use Rattle.bf_case.proofs.ListLemmas.{Contains-map_cases}
use Rattle.bf_case.proofs.LookupLemmas.{cells_at-leaf, cells_at-initial}
use Rattle.bf_case.proofs.MapLemmas.{ids_of-initial, ids_of-stencil}
use Rattle.bf_case.proofs.ModelLemmas.{balanced-model_at}
use Rattle.bf_case.proofs.PlaceLemmas.{one_place, one_leaf_holds}
use Rattle.bf_case.proofs.TestLemmas.{Contains-filter_cases, holds_decides}
use Rattle.bf_block.specs.declared.point.Point.{Point}
use Rattle.bf_block.specs.Block.{BlockValue, initial_block, before_regrid, map_at}
use Rattle.bf_links.specs.declared.link.Link.{Link}
use Rattle.bf_links.specs.Links.{link_to, links_of, remapped}
use Rattle.bf_links.specs.Roots.{root_owner}
use Rattle.bf_links.proofs.LinkLemmas.{links_alike}
use Rattle.bf_msg.specs.declared.linked_block.LinkedBlock.{LinkedBlock}
use Rattle.bf_msg.specs.LinkedBlocks.{linked_kind, IsOwnedAmong}
use Rattle.bf_parts.specs.Counts.{once, count_cons}
use Rattle.bf_parts.specs.Leaves.{AreLeaves, AreAmong, part_of, is_filled}
use Rattle.bf_lemmas.proofs.Lists.{All-from_Contains, any_mapped, filter_mapped, map_twice}
use Rattle.std.proofs.lemmas.List.{get_or_default, get_or-map, length-map}
use Rattle.bf_buddy.proofs.MemberLemmas.{all_members, range_within, range_has}
use Rattle.bf_forest.specs.ModelBlocks.{cells_or, block_at, block_on, linked_at, linked_on, blocks_at, blocks_on, first_home, ready, IsBlockOn}
use Rattle.bf_forest.specs.Opening.{first_owners}
use Rattle.bf_forest.specs.Ready.{AreLinkedInside, AreOrdered}
use Rattle.bf_forest.specs.Starts.{starts}

-- every map of the model is one
pub model_map : (c : Case) (p : Point) → IsValid c → IsMap c.roots c.side (map_at c p)
model_map c p valid = (balanced-model_at c p.time p.regridded valid).map

-- LEAVES
precedes : (i j : BlockId) → IsBefore i j → (is_lt (id_cmp i j) ≡ true) × (is_lt (id_cmp j i) ≡ false)
precedes i j before = (ap is_lt before, ap is_lt (id_cmp_total.antisymm j i ∙ ap ordering_reverse before))

pub are_leaves : (c : Case) (p : Point) → IsValid c → AreLeaves linked_kind (blocks_on c p)
unfolding blocks_on
are_leaves c p valid = record {
  remapped = λ f owner key. ap (λ (links : List Link). record { block = block_on c p key; links = links })
      (map_twice (remapped f) (link_to owner) (link_to (λ i. f (owner i))) (λ i. refl) (filter (touches c.roots key) (ids_of (map_at c p))));
  rising = λ owner i j d below within.
      precedes (slice_index_or (ids_of (map_at c p)) i d) (slice_index_or (ids_of (map_at c p)) j d) ((model_map c p valid).rising i j d below within);
}

-- a leaf's cells are found
leaf_cells : (c : Case) (p : Point) (i : BlockId) → IsValid c → Contains (ids_of (map_at c p)) i → (g : Grid) × (cells_at (map_at c p) i ≡ Some g)
leaf_cells c p i valid has =
    let leaf = Contains-map_cases (λ (leaf : Leaf). leaf.0) (map_at c p) i has in
    (leaf.0.1, cells_at-leaf (map_at c p) i leaf.0.1 (model_map c p valid).rising (subst (λ (j : BlockId). Contains (map_at c p) (j, leaf.0.1)) (sym leaf.2) leaf.1))

-- there is one: the domain has a unit, which lies in a leaf
pub some_leaf : (c : Case) (p : Point) → IsValid c → 0 < length (blocks_on c p).keys
unfolding blocks_on
some_leaf c p valid =
    let first : Voxel = record { x = 0; y = 0; z = 0 } in
    let shape : IsShape c.roots = valid.sized.shape in
    let inside : InDomain c.roots first = record { along_x = omega (arith, shape.some_x); along_y = omega (arith, shape.some_y); along_z = omega (arith, shape.some_z) } in
    let has = (model_map c p valid).tiling.covered first inside in
    omega (arith, has.1.1)

-- a leaf's block is the model's
pub block_is : (c : Case) (p : Point) (i : BlockId) → IsValid c → Contains (ids_of (map_at c p)) i → IsBlockOn c p (block_on c p i)
block_is c p i valid has =
    let found = leaf_cells c p i valid has in
    record {
      of_case = refl;
      at = refl;
      models = record { runs = record { valid = valid }; leaf = found.1 ∙ ap (λ o. Some (cells_or o (grid_with 0 []))) (sym found.1) };
    }

-- and the model has a block's cells
pub model_cells : (c : Case) (p : Point) (b : BlockValue) → IsBlockOn c p b → cells_at (map_at c p) b.id ≡ Some b.cells
model_cells c p b is =
    subst (λ (at : Point). cells_at (map_at c at) b.id ≡ Some b.cells) is.at
    (subst (λ (k : Case). cells_at (map_at k b.point) b.id ≡ Some b.cells) is.of_case is.models.leaf)

-- each of a rank's part is so, as each of its leaves is
pub part_each : (P : LinkedBlock → Type 0) (c : Case) (p : Point) (owner : BlockId → ℕ) (rank : ℕ)
    → ((i : BlockId) → Contains (ids_of (map_at c p)) i → (owner i == rank) ≡ true → P (linked_on c p owner i)) → All P (part_of (blocks_on c p) owner rank)
unfolding part_of blocks_on
part_each P c p owner rank each =
    All-map P (linked_on c p owner) (filter (λ i. owner i == rank) (ids_of (map_at c p)))
    (All-from_Contains (λ i. P (linked_on c p owner i)) (filter (λ i. owner i == rank) (ids_of (map_at c p))) (λ i has.
    let its = Contains-filter_cases (λ i. owner i == rank) (ids_of (map_at c p)) i has in each i its.0 its.1))

pub part_are : (c : Case) (p : Point) (owner : BlockId → ℕ) (rank : ℕ) → IsValid c → All (λ b. IsBlockOn c p b.block) (part_of (blocks_on c p) owner rank)
part_are c p owner rank valid = part_each (λ b. IsBlockOn c p b.block) c p owner rank (λ i has its. block_is c p i valid has)

-- all leaves that they are linked with lie in the domain
pub part_inside : (c : Case) (p : Point) (owner : BlockId → ℕ) (rank : ℕ) → IsValid c → All AreLinkedInside (part_of (blocks_on c p) owner rank)
part_inside c p owner rank valid = part_each AreLinkedInside c p owner rank (λ i has its.
    All-map (λ (link : Link). InShape c.roots link.id) (link_to owner) (filter (touches c.roots i) (ids_of (map_at c p)))
    (All-filter (touches c.roots i) (InShape c.roots) (ids_of (map_at c p)) (model_map c p valid).in_shape))

-- their owners are ranks
pub part_owned : (c : Case) (p : Point) (members : List ℕ) (owner : BlockId → ℕ) (rank : ℕ) → AreAmong members (blocks_on c p) owner
    → All (IsOwnedAmong members) (part_of (blocks_on c p) owner rank)
unfolding blocks_on
part_owned c p members owner rank owned = part_each (IsOwnedAmong members) c p owner rank (λ i has its.
    All-map (λ (link : Link). IsTrue (is_member members link.owner)) (link_to owner) (filter (touches c.roots i) (ids_of (map_at c p)))
    (All-filter (touches c.roots i) (λ j. is_member members (owner j) ≡ true) (ids_of (map_at c p)) owned))

-- and they rise
pub part_ordered : (c : Case) (p : Point) (owner : BlockId → ℕ) (rank : ℕ) → IsValid c → AreOrdered (part_of (blocks_on c p) owner rank)
unfolding part_of blocks_on
part_ordered c p owner rank valid = λ j k d before within.
    let item : BlockId → LinkedBlock = linked_on c p owner in
    let ids : List BlockId = filter (λ i. owner i == rank) (ids_of (map_at c p)) in
    let in_k : k < length ids = let long = length-map ids item in omega (arith, long, within) in
    let in_j : j < length ids = omega (arith, before, in_k) in
    subst (λ (b : LinkedBlock). IsBefore (get_or (map item ids) j d).block.id b.block.id) (sym (get_or-map item ids k d.block.id d in_k))
    (subst (λ (a : LinkedBlock). IsBefore a.block.id (get_or ids k d.block.id)) (sym (get_or-map item ids j d.block.id d in_j))
    (AllPairs-filter IsBefore (λ i. owner i == rank) (ids_of (map_at c p)) (model_map c p valid).rising j k d.block.id before in_k))

-- A STEP goes from the map behind its time's regrid, where it has one
pub ready_map : (c : Case) (time : ℕ) → map_at c (ready c time) ≡ model_at c time true
ready_map c time = by (regrids c time) (regrid c (model c time)) (model c time)
  where
    by : (b : Bool) (after before : List Leaf) → cond b (cond b after before) before ≡ cond b after before
    by true after before = refl
    by false after before = refl

-- and leads to blocks of the same leaves
pub ids_next : (c : Case) (time : ℕ) → ids_of (model c (time + 1)) ≡ ids_of (map_at c (ready c time))
unfolding model
ids_next c time =
    subst (λ later. ids_of (model c later) ≡ ids_of (map_at c (ready c time))) (let e : suc time ≡ time + 1 = omega arith in e)
    (ids_of-stencil c.roots c.side (model_at c time true) ∙ ap ids_of (sym (ready_map c time)))

pub owned_next : (c : Case) (time : ℕ) (members : List ℕ) (owner : BlockId → ℕ) → AreAmong members (blocks_on c (ready c time)) owner → AreAmong members (blocks_at c (time + 1)) owner
unfolding blocks_on
owned_next c time members owner owned = subst (λ (ids : List BlockId). All (λ i. is_member members (owner i) ≡ true) ids) (sym (ids_next c time)) owned

-- ONE LEAF passes a test that one place passes
count_none : {X : Type 0} (test : X → Bool) (xs : List X) → ((j : ℕ) (d : X) → j < length xs → test (get_or xs j d) ≡ false) → count_by test xs ≡ 0
count_none test [] fails = refl
count_none test (x ∷ xs) fails =
    count_cons test x xs ∙ ap (λ b. once b + count_by test xs) (fails 0 x (omega arith))
    ∙ ap (λ n. 0 + n) (count_none test xs (λ j d within. fails (suc j) d (omega arith)))

count_one : {X : Type 0} (test : X → Bool) (xs : List X) (k : ℕ) (e : X) → k < length xs → test (get_or xs k e) ≡ true
    → ((j : ℕ) (d : X) → j < length xs → test (get_or xs j d) ≡ true → j ≡ k) → count_by test xs ≡ 1
count_one test [] k e within passes alone = absurd (omega arith)
count_one test (x ∷ xs) zero e within passes alone =
    count_cons test x xs ∙ ap (λ b. once b + count_by test xs) passes
    ∙ ap (λ n. 1 + n) (count_none test xs (λ j d below. false_from_ne_true (test (get_or xs j d)) (λ also. let same : suc j ≡ 0 = alone (suc j) d (omega arith) also in absurd (omega arith))))
count_one test (x ∷ xs) (suc k) e within passes alone =
    count_cons test x xs ∙ ap (λ b. once b + count_by test xs) (false_from_ne_true (test x) (λ also. let same : 0 ≡ suc k = alone 0 x (omega arith) also in absurd (omega arith)))
    ∙ ap (λ n. 0 + n) (count_one test xs k e (omega arith) passes (λ j d below also. let same : suc j ≡ suc k = alone (suc j) d (omega arith) also in omega arith))

-- one leaf has each unit of the domain
pub one_holds : (c : Case) (p : Point) (unit : Voxel) → IsValid c → InDomain c.roots unit → count_by (λ i. holds (box_of c.roots i) unit) (ids_of (map_at c p)) ≡ 1
one_holds c p unit valid inside =
    let ids : List BlockId = ids_of (map_at c p) in
    let tiles : Tiles c.roots ids = (model_map c p valid).tiling in
    let has = tiles.covered unit inside in
    let P : BlockId → Type 0 = λ i. Holds (box_of c.roots i) unit in
    let k : ℕ = has.1.0 in
    let there : P (get_or ids k has.0) = subst P (sym has.1.2) has.2 in
    count_one (λ i. holds (box_of c.roots i) unit) ids k has.0 has.1.1
    ((holds_decides (box_of c.roots (get_or ids k has.0)) unit).1 there)
    (λ j d within passes. one_leaf_holds c.roots ids unit j k d has.0 tiles (model_map c p valid).rising within has.1.1
    ((holds_decides (box_of c.roots (get_or ids j d)) unit).0 passes) there)

-- one leaf has the id of a leaf
pub one_id : (c : Case) (p : Point) (k : ℕ) (e : BlockId) → IsValid c → k < length (ids_of (map_at c p)) → count_by (λ i. id_eq i (get_or (ids_of (map_at c p)) k e)) (ids_of (map_at c p)) ≡ 1
one_id c p k e valid below =
    let ids : List BlockId = ids_of (map_at c p) in
    count_one (λ i. id_eq i (get_or ids k e)) ids k e below ((id_eq_is_equal (get_or ids k e) (get_or ids k e)).1 refl)
    (λ j d within passes. one_place ids j k (get_or ids k e) (model_map c p valid).rising
    (within, λ f. get_or_default ids j f d within ∙ (id_eq_is_equal (get_or ids j d) (get_or ids k e)).0 passes) (below, λ f. get_or_default ids k f e below))

-- THE BEGINNING
first_at : (c : Case) (root : ℕ) → IsValid c → root < root_count c.roots → block_at c 0 (root_id root) ≡ initial_block c root
unfolding model
first_at c root valid below =
    ap (λ o. record { case = c; point = before_regrid 0; id = root_id root; cells = cells_or o (grid_with 0 []) }) (cells_at-initial c root valid below)

first_ids : (c : Case) → ids_of (model c 0) ≡ map root_id (range_with_len 0 (root_count c.roots))
unfolding model
first_ids c = ids_of-initial c

-- a root as it is made, with links to the roots by their owners
pub first_linked : (c : Case) (root : ℕ) (b : BlockValue) (links : List Link) → IsValid c → root < root_count c.roots → b ≡ initial_block c root
    → links ≡ links_of c.roots (root_ids c.roots) (root_owner (first_owners c)) (root_id root)
    → ◌≡◌ {A = LinkedBlock} (record { block = b; links = links }) (linked_at c 0 (first_home c) (root_id root))
unfolding first_owners
first_linked c root b links valid below made linked =
    ap (λ (v : BlockValue). record { block = v; links = links }) (made ∙ sym (first_at c root valid below))
    ∙ ap (λ (ls : List Link). record { block = block_at c 0 (root_id root); links = ls })
    (linked ∙ alike c (root_id root) ∙ ap (λ (ids : List BlockId). links_of c.roots ids (first_home c) (root_id root)) (sym (first_ids c)))
  where
    alike : (c : Case) (i : BlockId)
        → links_of c.roots (root_ids c.roots) (root_owner (map (first_rank_of c) (range_with_len 0 (root_count c.roots)))) i ≡ links_of c.roots (root_ids c.roots) (first_home c) i
    alike c i = links_alike c.roots (root_ids c.roots) (root_owner (map (first_rank_of c) (range_with_len 0 (root_count c.roots)))) (first_home c) i
        (All-map (λ j. root_owner (map (first_rank_of c) (range_with_len 0 (root_count c.roots))) j ≡ first_home c j) root_id (range_with_len 0 (root_count c.roots))
        (all_members (λ k. slice_index (map (first_rank_of c) (range_with_len 0 (root_count c.roots))) k ≡ first_rank_of c k) (range_with_len 0 (root_count c.roots))
        (λ k is_in.
        let low : k < 0 + root_count c.roots = range_within 0 (root_count c.roots) k is_in in
        get_or-map-range_with_len (first_rank_of c) 0 (root_count c.roots) k k 0 (omega arith) (omega arith))))

-- the roots that begin at a rank are its part of the leaves of the beginning
pub first_part : (c : Case) (rank : ℕ) → map (λ root. linked_at c 0 (first_home c) (root_id root)) (filter (λ root. first_rank_of c root == rank) (range_with_len 0 (root_count c.roots)))
    ≡ part_of (blocks_at c 0) (first_home c) rank
unfolding part_of blocks_on
first_part c rank =
    sym (map_twice (linked_at c 0 (first_home c)) root_id (λ root. linked_at c 0 (first_home c) (root_id root)) (λ root. refl)
    (filter (λ root. first_rank_of c root == rank) (range_with_len 0 (root_count c.roots))))
    ∙ ap (map (linked_at c 0 (first_home c))) (sym (filter_mapped (λ i. first_home c i == rank) root_id (range_with_len 0 (root_count c.roots))))
    ∙ ap (λ (ids : List BlockId). map (linked_at c 0 (first_home c)) (filter (λ i. first_home c i == rank) ids)) (sym (first_ids c))

-- the first ranks of the roots are ranks of the run
first_below : (root ranks count : ℕ) → 1 ≤ ranks → root < count → root * ranks / count < ranks
first_below root ranks count some below = (div-lt_iff_lt-mul (less root count below)).1 (product root ranks count some below)
  where
    less : (a b : ℕ) → a < b → 0 < b
    less a b below = omega arith

    product : (root ranks count : ℕ) → 1 ≤ ranks → root < count → root * ranks < ranks * count
    product root ranks count some below =
        let more : ranks * root < ranks * count = mul-lt-mul_of_pos_left {m = root} {n = count} {k = ranks} below some in
        grind (arith, more)

pub first_owned : (c : Case) → IsValid c → AreAmong (range_with_len 0 c.ranks) (blocks_at c 0) (first_home c)
unfolding blocks_on
first_owned c valid =
    subst (λ (ids : List BlockId). All (λ i. is_member (range_with_len 0 c.ranks) (first_home c i) ≡ true) ids) (sym (first_ids c))
    (All-map (λ i. is_member (range_with_len 0 c.ranks) (first_home c i) ≡ true) root_id (range_with_len 0 (root_count c.roots))
    (all_members (λ root. is_member (range_with_len 0 c.ranks) (first_rank_of c root) ≡ true) (range_with_len 0 (root_count c.roots))
    (λ root is_in.
    let low : root < 0 + root_count c.roots = range_within 0 (root_count c.roots) root is_in in
    range_has c.ranks (first_rank_of c root) (first_below root c.ranks (root_count c.roots) valid.scheduled.some_ranks (omega arith)))))

pub first_filled : (c : Case) (rank : ℕ) → starts c rank ≡ is_filled (blocks_at c 0) (first_home c) rank
unfolding starts is_filled blocks_on
first_filled c rank =
    sym (any_mapped (λ i. first_home c i == rank) root_id (range_with_len 0 (root_count c.roots))) ∙ ap (list_any (λ i. first_home c i == rank)) (sym (first_ids c))
