-- Boxes are counted alike in blocks, in what they give, and in what cargo makes.
use Rattle.std.proofs.Common.{◌≡◌, ℕ, zero, suc, ◌+◌, ◌<◌, ◌≤◌, ◌∙◌, Bool, true, false, List, [], ◌∷◌, ◌++◌, map, All, IsTrue, IsFalse, cond, length, get_or, refl, sym, ap, subst, arith}
use Rattle.std.specs.List.{count_by, range_with_len}
use Rattle.std.proofs.lemmas.Bool.{false_from_ne_true}
use Rattle.std.proofs.lemmas.List.{map-append}
use Rattle.std.proofs.lemmas.List.Elements.{All-head, All-tail}
use Rattle.std.proofs.lemmas.List.FromFn.{get_or-map-range_with_len, length-map-range_with_len}
use Rattle.std.proofs.lemmas.List.Sorted.{All-permutation, IsPermutation-map, sum_by-IsPermutation}
use Rattle.bf_parts.specs.Counts.{once, count_cons, count_append}
use Rattle.bf_id.specs.declared.shape.Shape.{Shape}
use Rattle.bf_id.specs.Cube.{Voxel, Holds, holds}
use Rattle.bf_id.specs.Id.{BlockId, level_of, child_of, children_of, box_of}
use Rattle.bf_id.proofs.Boxes.{level-child, parent_holds, child_holding, child_is_one}
use Rattle.bf_case.specs.declared.case.Case.{Case}
use Rattle.bf_case.specs.declared.target.Target.{Target}
use Rattle.bf_case.specs.declared.target.Target.TheVariants.{Keep, Refine, Merge}
use Rattle.bf_case.specs.Model.{regrids}
use Rattle.bf_case.proofs.TestLemmas.{holds_decides}
use Rattle.bf_block.specs.declared.cargo.Cargo.{Cargo}
use Rattle.bf_block.specs.declared.cargo.Cargo.TheVariants.{Piece}
use Rattle.bf_block.specs.declared.point.Point.{Point}
use Rattle.bf_block.specs.Block.{BlockValue, IsModels, child_block, before_regrid}
use Rattle.bf_block.specs.Eighth.{EighthValue, AreOctet}
use Rattle.bf_block.proofs.BlockLemmas.{child_shallow}
use Rattle.bf_proxy.specs.declared.proxy.Proxy.{Proxy}
use Rattle.bf_migrate.specs.Boxes.{boxes_in, boxes_of, IsHalved}
use Rattle.bf_migrate.specs.Giving.{whole, gifts_by, gifts_of, target_of_block, sent_to, all_sent, StandBefore}
use Rattle.bf_migrate.specs.Lots.{Lot, Ready, Octet, cargo_id, cargo_in, IsLotOf, AreLots, AreBlocksOf, Makes}

-- the cargo of what was sent
abbrev pub goods : List (ℕ × Cargo) → List Cargo
goods sent = map (λ (x : ℕ × Cargo). x.1) sent

plus_none : (n : ℕ) → n + 0 ≡ n
plus_none n = omega arith

sums : (a b m n : ℕ) → a ≡ b → m ≡ n → a + m ≡ b + n
sums a b m n e f = omega arith

count_alone : (test : BlockId → Bool) (i : BlockId) → count_by test (i ∷ []) ≡ once (test i)
count_alone test i = count_cons test i [] ∙ plus_none (once (test i))

children_boxes : (rank : BlockId → ℕ) (b : BlockValue) (ks : List ℕ) → boxes_in (goods (map (sent_to rank) (map whole (map (child_block b) ks)))) ≡ map (child_of b.id) ks
children_boxes rank b [] = refl
children_boxes rank b (k ∷ ks) = ap (λ is. child_of b.id k ∷ is) (children_boxes rank b ks)

-- what one block gives has its box
gifts_count : (test : BlockId → Bool) (rank : BlockId → ℕ) (b : BlockValue) → IsHalved test → IsModels b → IsTrue (regrids b.case b.point.time) → IsFalse b.point.regridded
    → count_by test (boxes_in (goods (map (sent_to rank) (gifts_of b)))) ≡ once (test b.id)
gifts_count test rank b halved model does fresh = by (target_of_block b) refl
  where
    by : (t : Target) → target_of_block b ≡ t → count_by test (boxes_in (goods (map (sent_to rank) (gifts_by t b)))) ≡ once (test b.id)
    by Keep e = count_alone test b.id
    by Refine e =
        ap (count_by test) (children_boxes rank b (range_with_len 0 8))
        ∙ halved b.id (child_shallow b b refl model (record { regrids = does; fresh = fresh; target_is = e }))
    by Merge e = count_alone test b.id

goods_append : (xs ys : List (ℕ × Cargo)) → boxes_in (goods (xs ++ ys)) ≡ boxes_in (goods xs) ++ boxes_in (goods ys)
goods_append xs ys = ap boxes_in (map-append (λ (x : ℕ × Cargo). x.1) xs ys) ∙ map-append cargo_id (goods xs) (goods ys)

all_count : (test : BlockId → Bool) (rank : BlockId → ℕ) (c : Case) (time : ℕ) (blocks : List BlockValue) → IsHalved test → IsTrue (regrids c time) → All IsModels blocks
    → All (λ (b : BlockValue). b.case ≡ c) blocks → All (λ (b : BlockValue). b.point ≡ before_regrid time) blocks
    → count_by test (boxes_in (goods (all_sent rank blocks))) ≡ count_by test (boxes_of blocks)
all_count test rank c time [] halved does models cases points = refl
all_count test rank c time (b ∷ blocks) halved does models cases points =
    let case : b.case ≡ c = All-head (λ (b : BlockValue). b.case ≡ c) b blocks cases in
    let point : b.point ≡ before_regrid time = All-head (λ (b : BlockValue). b.point ≡ before_regrid time) b blocks points in
    let own : IsTrue (regrids b.case b.point.time) = subst (λ (p : Point). IsTrue (regrids b.case p.time)) (sym point) (subst (λ (x : Case). IsTrue (regrids x time)) (sym case) does) in
    let first = map (sent_to rank) (gifts_of b) in
    ap (count_by test) (goods_append first (all_sent rank blocks))
    ∙ count_append test (boxes_in (goods first)) (boxes_in (goods (all_sent rank blocks)))
    ∙ sums _ _ _ _ (gifts_count test rank b halved (All-head IsModels b blocks models) own (ap (λ (p : Point). p.regridded) point))
    (all_count test rank c time blocks halved does (All-tail IsModels b blocks models) (All-tail (λ (b : BlockValue). b.case ≡ c) b blocks cases)
    (All-tail (λ (b : BlockValue). b.point ≡ before_regrid time) b blocks points))
    ∙ sym (count_cons test b.id (boxes_of blocks))

pub boxes_given : (c : Case) (time : ℕ) (rank : BlockId → ℕ) (blocks : List BlockValue) (test : BlockId → Bool) → StandBefore c time blocks → All IsModels blocks → IsHalved test
    → count_by test (boxes_in (goods (all_sent rank blocks))) ≡ count_by test (boxes_of blocks)
boxes_given c time rank blocks test before models halved = all_count test rank c time blocks halved before.regrids models before.cases before.points

-- ---- what cargo makes

abbrev Shallow : List Cargo → Type 0
Shallow cargo = All (λ (x : Cargo). level_of (cargo_id x) ≤ 4) cargo

parts_boxes : (parts : List EighthValue) → boxes_in (map Piece parts) ≡ map (λ (e : EighthValue). e.id) parts
parts_boxes [] = refl
parts_boxes (e ∷ parts) = ap (λ is. e.id ∷ is) (parts_boxes parts)

octet_shallow : (c : Case) (time : ℕ) (q : BlockId) (parts : List EighthValue) (rest : List Cargo) → AreOctet c time q parts → Shallow (map Piece parts ++ rest) → level_of q < 4
octet_shallow c time q [] rest octet shallow = absurd (let long : 0 ≡ 8 = ap length octet.ids ∙ length-map-range_with_len (child_of q) 0 8 in omega arith)
octet_shallow c time q (e ∷ parts) rest octet shallow =
    let id : e.id ≡ child_of q 0 = ap (λ is. get_or is 0 q) octet.ids ∙ get_or-map-range_with_len (child_of q) 0 8 0 0 q (omega arith) (omega arith) in
    let level : level_of e.id ≡ level_of q + 1 = ap level_of id ∙ level-child q 0 in
    let low : level_of e.id ≤ 4 = All-head (λ (x : Cargo). level_of (cargo_id x) ≤ 4) (Piece e) (map Piece parts ++ rest) shallow in
    omega arith

lot_count : (test : BlockId → Bool) (c : Case) (time : ℕ) (q : BlockId) (lot : Lot) (rest : List Cargo) → IsHalved test → IsLotOf c time q lot → Shallow (cargo_in lot ++ rest)
    → count_by test (boxes_in (cargo_in lot)) ≡ once (test q)
lot_count test c time q (Ready b) rest halved is shallow = count_alone test b.id ∙ ap (λ i. once (test i)) is.id
lot_count test c time q (Octet parts) rest halved is shallow =
    ap (count_by test) (parts_boxes parts ∙ is.ids) ∙ halved q (octet_shallow c time q parts rest is shallow)

after_lot : (front rest : List Cargo) → Shallow (front ++ rest) → Shallow rest
after_lot [] rest shallow = shallow
after_lot (x ∷ front) rest shallow = after_lot front rest (All-tail (λ (x : Cargo). level_of (cargo_id x) ≤ 4) x (front ++ rest) shallow)

lots_count : (test : BlockId → Bool) (c : Case) (time : ℕ) (proxies : List Proxy) (cargo : List Cargo) (blocks : List BlockValue) → IsHalved test
    → AreLots c time proxies cargo → AreBlocksOf c time proxies blocks → Shallow cargo → count_by test (boxes_in cargo) ≡ count_by test (boxes_of blocks)
lots_count test c time [] cargo blocks halved none nothing shallow = ap (λ xs. count_by test (boxes_in xs)) none ∙ sym (ap (λ bs. count_by test (boxes_of bs)) nothing)
lots_count test c time (p ∷ proxies) cargo blocks halved (lot, (rest, (front, (is, lots)))) (b, (later, (first, (at, more)))) shallow =
    let low : Shallow (cargo_in lot ++ rest) = subst Shallow front shallow in
    ap (λ xs. count_by test (boxes_in xs)) front
    ∙ ap (count_by test) (map-append cargo_id (cargo_in lot) rest)
    ∙ count_append test (boxes_in (cargo_in lot)) (boxes_in rest)
    ∙ sums _ _ _ _ (lot_count test c time p.id lot rest halved is low ∙ ap (λ i. once (test i)) (sym at.id))
    (lots_count test c time proxies rest later halved lots more (after_lot (cargo_in lot) rest low))
    ∙ sym (count_cons test b.id (boxes_of later))
    ∙ sym (ap (λ bs. count_by test (boxes_of bs)) first)

pub boxes_made : (c : Case) (time : ℕ) (proxies : List Proxy) (cargo : List Cargo) (blocks : List BlockValue) (test : BlockId → Bool)
    → Makes c time proxies cargo → AreBlocksOf c time proxies blocks → Shallow cargo → IsHalved test → count_by test (boxes_in cargo) ≡ count_by test (boxes_of blocks)
boxes_made c time proxies cargo blocks test makes are shallow halved =
    sym (sum_by-IsPermutation (λ i. cond (test i) 1 0) (boxes_in cargo) (boxes_in makes.ordered) (IsPermutation-map cargo_id cargo makes.ordered makes.same))
    ∙ lots_count test c time proxies makes.ordered blocks halved makes.lots are (All-permutation (λ (x : Cargo). level_of (cargo_id x) ≤ 4) cargo makes.ordered makes.same shallow)

pub ids_made : (c : Case) (time : ℕ) (proxies : List Proxy) (blocks : List BlockValue) → AreBlocksOf c time proxies blocks → boxes_of blocks ≡ map (λ (proxy : Proxy). proxy.id) proxies
ids_made c time [] blocks none = ap boxes_of none
ids_made c time (p ∷ proxies) blocks (b, (rest, (first, (at, more)))) =
    ap boxes_of first ∙ ap (λ i. i ∷ boxes_of rest) at.id ∙ ap (λ is. p.id ∷ is) (ids_made c time proxies rest more)

-- ---- a box and its children

count_zero : (test : BlockId → Bool) (xs : List BlockId) → ((j : ℕ) (d : BlockId) → j < length xs → test (get_or xs j d) ≡ false) → count_by test xs ≡ 0
count_zero test [] fails = refl
count_zero test (x ∷ xs) fails =
    count_cons test x xs ∙ ap (λ b. once b + count_by test xs) (fails 0 x (omega arith))
    ∙ ap (λ n. 0 + n) (count_zero test xs (λ j d within. fails (suc j) d (omega arith)))

count_one : (test : BlockId → Bool) (xs : List BlockId) (k : ℕ) (e : BlockId) → k < length xs → test (get_or xs k e) ≡ true
    → ((j : ℕ) (d : BlockId) → j < length xs → test (get_or xs j d) ≡ true → j ≡ k) → count_by test xs ≡ 1
count_one test [] k e within passes alone = absurd (omega arith)
count_one test (x ∷ xs) zero e within passes alone =
    count_cons test x xs ∙ ap (λ b. once b + count_by test xs) passes
    ∙ ap (λ n. 1 + n) (count_zero test xs (λ j d below. false_from_ne_true (test (get_or xs j d)) (λ also. let same : suc j ≡ 0 = alone (suc j) d (omega arith) also in omega arith)))
count_one test (x ∷ xs) (suc k) e within passes alone =
    count_cons test x xs ∙ ap (λ b. once b + count_by test xs) (false_from_ne_true (test x) (λ also. let same : 0 ≡ suc k = alone 0 x (omega arith) also in omega arith))
    ∙ ap (λ n. 0 + n) (count_one test xs k e (omega arith) passes (λ j d below also. let same : suc j ≡ suc k = alone (suc j) d (omega arith) also in omega arith))

pub holds_halved : (shape : Shape) (unit : Voxel) → IsHalved (λ i. holds (box_of shape i) unit)
holds_halved shape unit i shallow = by (holds (box_of shape i) unit) refl
  where
    test : BlockId → Bool
    test j = holds (box_of shape j) unit

    eight : length (children_of i) ≡ 8
    eight = length-map-range_with_len (child_of i) 0 8

    child : (j : ℕ) (d : BlockId) → j < length (children_of i) → get_or (children_of i) j d ≡ child_of i j
    child j d within = get_or-map-range_with_len (child_of i) 0 8 j j d (omega (arith, eight)) (omega arith)

    held : (j : BlockId) → test j ≡ true → Holds (box_of shape j) unit
    held j passes = (holds_decides (box_of shape j) unit).0 passes

    by : (b : Bool) → holds (box_of shape i) unit ≡ b → count_by test (children_of i) ≡ once b
    by true inside =
        let o = child_holding shape i unit shallow (held i inside) in
        count_one test (children_of i) o.0 i (omega (arith, eight, o.1))
        (ap test (child o.0 i (omega (arith, eight, o.1))) ∙ (holds_decides (box_of shape (child_of i o.0)) unit).1 o.2)
        (λ j d within passes. child_is_one shape i unit j o.0 (omega (arith, eight)) o.1 (held (child_of i j) (sym (ap test (child j d within)) ∙ passes)) o.2)
    by false outside =
        count_zero test (children_of i) (λ j d within. false_from_ne_true (test (get_or (children_of i) j d)) (λ passes.
        let inside = parent_holds shape i j unit (omega (arith, eight)) (held (child_of i j) (sym (ap test (child j d within)) ∙ passes)) in
        let wrong : true ≡ false = sym ((holds_decides (box_of shape i) unit).1 inside) ∙ outside in cc))
