-- Which strips are told are those that are needed.
use Rattle.std.proofs.Common.{◌≡◌, ◌==◌, ℕ, List, [], ◌∷◌, Contains, All, Bool, true, false, Option, ◌++◌, Some, None, filter, flat_map, refl, sym, ap, subst, ◌∙◌, ◌⊎◌, inl, inr}
use Rattle.std.specs.List.{cons_option, filter_map}
use Rattle.std.specs.Prelude.{option_map}
use Rattle.std.proofs.lemmas.Bool.{both_ways, cases_Bool, eq-eqb}
use Rattle.std.proofs.lemmas.List.Elements.{All-contains, All-head, All-tail}
use Rattle.bf_lemmas.proofs.Lists.{All-from_Contains}
use Rattle.bf_face.specs.declared.face.Face.{Face}
use Rattle.bf_id.specs.declared.shape.Shape.{Shape}
use Rattle.bf_id.specs.Face.{SharesFace}
use Rattle.bf_id.specs.Id.{BlockId, box_of, id_eq, touches}
use Rattle.bf_id.specs.Shape.{IsShape}
use Rattle.bf_id.specs.Sharing.{shared_face}
use Rattle.bf_id.proofs.Boxes.{id_eq_is_equal, Touch_sym}
use Rattle.bf_id.proofs.Tilings.{Contains-cons_cases, Contains-head, Contains-none, Contains-tail, Contains-flat_map, Contains-flat_map_cases}
use Rattle.bf_cells.specs.Grid.{Grid}
use Rattle.bf_case.specs.Halves.{ShareFace}
use Rattle.bf_case.specs.declared.case.Case.{Case}
use Rattle.bf_case.specs.Map.{Leaf, IsMap, cells_at, ids_of}
use Rattle.bf_case.proofs.FaceLemmas.{shares_touch}
use Rattle.bf_case.proofs.ListLemmas.{Contains-map, Contains-map_cases}
use Rattle.bf_case.proofs.LookupLemmas.{cells_at-leaf, leaf_from_cells_at}
use Rattle.bf_case.proofs.ModelLemmas.{balanced-model_at}
use Rattle.bf_case.proofs.TestLemmas.{touches_decides, Contains-filter, Contains-filter_cases}
use Rattle.bf_block.specs.declared.point.Point.{Point}
use Rattle.bf_block.specs.Block.{BlockValue, IsModels, leaf_of, map_at}
use Rattle.bf_ghost.specs.Filling.{AreStripsFor, IsStripFor}
use Rattle.bf_ghost.specs.Strips.{StripValue, strip_of}
use Rattle.bf_ghost.specs.Telling.{AreAllLeaves, heard_by, linked_strips, strip_between, strips_among, strips_by, strips_for, strips_from, told_strips}
use Rattle.bf_ghost.proofs.SharingLemmas.{found_is_shared, none_is_found, shared_is_found}

-- ---- lists of what is there

-- what a function gives for an element of a list is among what it gives for the list
pub Contains-filter_map : {X Y : Type 0} (f : X → Option Y) (xs : List X) (x : X) (y : Y) → Contains xs x → f x ≡ Some y → Contains (filter_map f xs) y
Contains-filter_map f [] x y has is = absurd (Contains-none x has)
Contains-filter_map {X = X} {Y = Y} f (z ∷ xs) x y has is = by (f z) refl (Contains-cons_cases z xs x has) (λ rest. Contains-filter_map f xs x y rest is)
  where
    by : (o : Option Y) → f z ≡ o → (x ≡ z) ⊎ Contains xs x → (Contains xs x → Contains (filter_map f xs) y) → Contains (cons_option o (filter_map f xs)) y
    by None given (inl same) later = let nothing : Option Y = None in let wrong : nothing ≡ Some y = sym given ∙ ap f (sym same) ∙ is in absurd cc
    by None given (inr rest) later = later rest
    by (Some w) given (inl same) later =
        let first : Some w ≡ Some y = sym given ∙ ap f (sym same) ∙ is in
        let one : w ≡ y = cc in
        subst (λ (v : Y). Contains (v ∷ filter_map f xs) y) (sym one) (Contains-head y (filter_map f xs))
    by (Some w) given (inr rest) later = Contains-tail w (filter_map f xs) y (later rest)

-- and all of that is given for some element
pub Contains-filter_map_cases : {X Y : Type 0} (f : X → Option Y) (xs : List X) (y : Y) → Contains (filter_map f xs) y → (x : X) × Contains xs x × (f x ≡ Some y)
Contains-filter_map_cases f [] y has = absurd (Contains-none y has)
Contains-filter_map_cases {X = X} {Y = Y} f (z ∷ xs) y has = by (f z) refl has (Contains-filter_map_cases f xs y)
  where
    Found : List X → Type 0
    Found l = (x : X) × Contains l x × (f x ≡ Some y)

    on : Found xs → Found (z ∷ xs)
    on found = (found.0, Contains-tail z xs found.0 found.1, found.2)

    by : (o : Option Y) → f z ≡ o → Contains (cons_option o (filter_map f xs)) y → (Contains (filter_map f xs) y → Found xs) → Found (z ∷ xs)
    by None given has later = on (later has)
    by (Some w) given has later = pick (Contains-cons_cases w (filter_map f xs) y has)
      where
        pick : (y ≡ w) ⊎ Contains (filter_map f xs) y → Found (z ∷ xs)
        pick (inl same) = (z, Contains-head z xs, given ∙ ap (λ (v : Y). Some v) (sym same))
        pick (inr rest) = on (later rest)

-- ---- one strip

-- a strip between two leaves is one that is needed
pub record IsBetween (shape : Shape) (leaf : Leaf) (i : BlockId) (strip : StripValue) : Type 0 where
  pub share : SharesFace shape strip.face (box_of shape i) (box_of shape leaf.0)
  pub told : strip ≡ strip_of leaf strip.face i

pub between_is : (shape : Shape) (leaf : Leaf) (i : BlockId) (strip : StripValue) → strip_between shape leaf i ≡ Some strip → IsBetween shape leaf i strip
between_is shape leaf i strip is = by (shared_face shape (box_of shape i) (box_of shape leaf.0)) refl is
  where
    by : (o : Option Face) → shared_face shape (box_of shape i) (box_of shape leaf.0) ≡ o → option_map (λ face. strip_of leaf face i) o ≡ Some strip → IsBetween shape leaf i strip
    by None found is = absurd cc
    by (Some face) found is =
        let same : strip_of leaf face i ≡ strip = cc in
        subst (IsBetween shape leaf i) same (record { share = found_is_shared shape (box_of shape i) (box_of shape leaf.0) face found; told = refl })

-- leaves that share a face tell each other this strip
pub between_shared : (shape : Shape) (leaf : Leaf) (i : BlockId) (face : Face) → IsShape shape → SharesFace shape face (box_of shape i) (box_of shape leaf.0)
    → strip_between shape leaf i ≡ Some (strip_of leaf face i)
between_shared shape leaf i face domain share =
    ap (option_map (λ face. strip_of leaf face i)) (shared_is_found shape i leaf.0 face domain share)

-- ---- by links

pub strips_of_links : (shape : Shape) (side : ℕ) (leaves : List Leaf) (cells : BlockId → Grid) (near : List BlockId) (i : BlockId) (g : Grid) → IsShape shape → IsMap shape side leaves
    → Contains leaves (i, g) → ((leaf : Leaf) → Contains leaves leaf → cells leaf.0 ≡ leaf.1)
    → near ≡ filter (touches shape i) (ids_of leaves) → AreStripsFor shape leaves i (strips_among shape cells near i)
strips_of_links shape side leaves cells near i g domain is own told linked = record {
  fit = All-from_Contains (IsStripFor shape leaves i) (strips_among shape cells near i) one;
  whole = each;
}
  where
    one : (strip : StripValue) → Contains (strips_among shape cells near i) strip → IsStripFor shape leaves i strip
    one strip has =
        let from = Contains-filter_map_cases (λ j. strip_between shape (j, cells j) i) near strip has in
        let j = from.0 in
        let linked_in : Contains (filter (touches shape i) (ids_of leaves)) j = subst (λ l. Contains l j) linked from.1 in
        let found = Contains-map_cases (λ (l : Leaf). l.0) leaves j (Contains-filter_cases (touches shape i) (ids_of leaves) j linked_in).0 in
        let leaf = found.0 in
        let same : cells j ≡ leaf.1 = ap cells found.2 ∙ told leaf found.1 in
        let there : Contains leaves (j, cells j) = subst (λ (h : Grid). Contains leaves (j, h)) (sym same) (subst (λ k. Contains leaves (k, leaf.1)) (sym found.2) found.1) in
        let between = between_is shape (j, cells j) i strip from.2 in
        record { leaf = (j, cells j); in_map = there; share = between.share; told = between.told }

    each : (leaf : Leaf) (face : Face) → Contains leaves leaf → SharesFace shape face (box_of shape i) (box_of shape leaf.0) → Contains (strips_among shape cells near i) (strip_of leaf face i)
    each leaf face has share =
        let j = leaf.0 in
        let are : ShareFace shape side leaves (i, g) face (j, leaf.1) = record { domain = domain; map = is; own_in = own; other_in = has; share = share } in
        let touch = (touches_decides shape i j).1 (shares_touch shape side leaves i j g leaf.1 face are) in
        let in_near : Contains near j = subst (λ l. Contains l j) (sym linked) (Contains-filter (touches shape i) (ids_of leaves) j (Contains-map (λ (l : Leaf). l.0) leaves leaf has) touch) in
        let given : strip_between shape (j, cells j) i ≡ Some (strip_of leaf face i) =
        ap (λ (h : Grid). strip_between shape (j, h) i) (told leaf has)
        ∙ between_shared shape leaf i face domain share in
        Contains-filter_map (λ j. strip_between shape (j, cells j) i) near j (strip_of leaf face i) in_near given

-- ---- by all blocks

-- the leaf that a block of some case and point is
pub found_leaf : (c : Case) (p : Point) (b : BlockValue) → b.case ≡ c → b.point ≡ p → cells_at (map_at b.case b.point) b.id ≡ Some b.cells → cells_at (map_at c p) b.id ≡ Some b.cells
found_leaf c p b case point found =
    sym (ap (λ (x : Case). cells_at (map_at x b.point) b.id) case ∙ ap (λ (q : Point). cells_at (map_at c q) b.id) point) ∙ found

pub strips_of_all : (c : Case) (p : Point) (blocks : List BlockValue) (i : BlockId) → AreAllLeaves c p blocks
    → AreStripsFor c.roots (map_at c p) i (strips_by blocks i)
strips_of_all c p blocks i all = record {
  fit = All-from_Contains (IsStripFor c.roots leaves i) (strips_by blocks i) one;
  whole = each;
}
  where
    leaves : List Leaf
    leaves = map_at c p

    tell : BlockValue → Option StripValue
    tell b = strip_between b.case.roots (leaf_of b) i

    tells : (b : BlockValue) → Contains blocks b → tell b ≡ strip_between c.roots (leaf_of b) i
    tells b has = ap (λ (x : Case). strip_between x.roots (leaf_of b) i) (All-contains (λ (b : BlockValue). b.case ≡ c) blocks b all.cases has)

    found : (b : BlockValue) → Contains blocks b → cells_at leaves b.id ≡ Some b.cells
    found b has =
        found_leaf c p b (All-contains (λ (b : BlockValue). b.case ≡ c) blocks b all.cases has)
        (All-contains (λ (b : BlockValue). b.point ≡ p) blocks b all.points has) (All-contains IsModels blocks b all.models has).leaf

    one : (strip : StripValue) → Contains (strips_by blocks i) strip → IsStripFor c.roots leaves i strip
    one strip has =
        let from = Contains-filter_map_cases tell blocks strip has in
        let b : BlockValue = from.0 in
        let between = between_is c.roots (leaf_of b) i strip (sym (tells b from.1) ∙ from.2) in
        record { leaf = leaf_of b; in_map = leaf_from_cells_at leaves b.id b.cells (found b from.1); share = between.share; told = between.told }

    each : (leaf : Leaf) (face : Face) → Contains leaves leaf → SharesFace c.roots face (box_of c.roots i) (box_of c.roots leaf.0)
        → Contains (strips_by blocks i) (strip_of leaf face i)
    each leaf face has share =
        let from = Contains-map_cases (λ (b : BlockValue). b.id) blocks leaf.0 (all.whole leaf.0 (Contains-map (λ (l : Leaf). l.0) leaves leaf has)) in
        let b : BlockValue = from.0 in
        let own : cells_at leaves leaf.0 ≡ Some leaf.1 =
        cells_at-leaf leaves leaf.0 leaf.1 (balanced-model_at c p.time p.regridded all.runs.valid).map.rising has in
        let its : Some b.cells ≡ Some leaf.1 = sym (found b from.1) ∙ ap (cells_at leaves) (sym from.2) ∙ own in
        let cells : b.cells ≡ leaf.1 = cc in
        let same : strip_between c.roots (leaf_of b) i ≡ strip_between c.roots leaf i =
        ap (λ (k : BlockId). strip_between c.roots (k, b.cells) i) (sym from.2) ∙ ap (λ (h : Grid). strip_between c.roots (leaf.0, h) i) cells in
        Contains-filter_map tell blocks b (strip_of leaf face i) from.1 (tells b from.1 ∙ same ∙ between_shared c.roots leaf i face all.runs.valid.sized.shape share)

-- ---- by ranks

pub told_are_all : (shape : Shape) (side : ℕ) (leaves : List Leaf) (owner : BlockId → ℕ) (ranks : List ℕ) (i : BlockId) (g : Grid) → IsShape shape → IsMap shape side leaves
    → Contains leaves (i, g)
    → ((leaf : Leaf) (face : Face) → Contains leaves leaf → SharesFace shape face (box_of shape i) (box_of shape leaf.0) → Contains ranks (owner leaf.0))
    → AreStripsFor shape leaves i (heard_by shape leaves owner ranks (owner i) i)
told_are_all shape side leaves owner ranks i g domain is own owned = record {
  fit = All-from_Contains (IsStripFor shape leaves i) (heard_by shape leaves owner ranks (owner i) i) genuine;
  whole = told;
}
  where
    rank : ℕ
    rank = owner i

    targets : List BlockId
    targets = filter (λ k. owner k == rank) (ids_of leaves)

    sources : ℕ → List Leaf
    sources from = filter (λ (leaf : Leaf). owner leaf.0 == from) leaves

    genuine : (strip : StripValue) → Contains (heard_by shape leaves owner ranks rank i) strip → IsStripFor shape leaves i strip
    genuine strip has =
        let from = Contains-flat_map_cases (λ p. strips_for i (told_strips shape leaves owner p rank)) ranks strip has in
        let for_me = Contains-filter_cases (λ (s : StripValue). id_eq s.target i) (told_strips shape leaves owner from.0 rank) strip from.2 in
        let source = Contains-flat_map_cases (λ (leaf : Leaf). strips_from shape leaf targets) (sources from.0) strip for_me.0 in
        let leaf = source.0 in
        let in_map = (Contains-filter_cases (λ (l : Leaf). owner l.0 == from.0) leaves leaf source.1).0 in
        let target = Contains-filter_map_cases (strip_between shape leaf) targets strip source.2 in
        let between = between_is shape leaf target.0 strip target.2 in
        let mine : target.0 ≡ i = sym (ap (λ (s : StripValue). s.target) between.told) ∙ (id_eq_is_equal strip.target i).0 for_me.1 in
        let here = subst (λ k. IsBetween shape leaf k strip) mine between in
        record { leaf = leaf; in_map = in_map; share = here.share; told = here.told }

    told : (leaf : Leaf) (face : Face) → Contains leaves leaf → SharesFace shape face (box_of shape i) (box_of shape leaf.0)
        → Contains (heard_by shape leaves owner ranks rank i) (strip_of leaf face i)
    told leaf face has share =
        let strip = strip_of leaf face i in
        let in_ids : Contains (ids_of leaves) i = Contains-map (λ (l : Leaf). l.0) leaves (i, g) own in
        let target : Contains targets i = Contains-filter (λ k. owner k == rank) (ids_of leaves) i in_ids (eq-eqb rank rank refl) in
        let given = between_shared shape leaf i face domain share in
        let made : Contains (strips_from shape leaf targets) strip = Contains-filter_map (strip_between shape leaf) targets i strip target given in
        let source = Contains-filter (λ (l : Leaf). owner l.0 == owner leaf.0) leaves leaf has (eq-eqb (owner leaf.0) (owner leaf.0) refl) in
        let sent = Contains-flat_map (λ (l : Leaf). strips_from shape l targets) (sources (owner leaf.0)) leaf strip source made in
        let mine = Contains-filter (λ (s : StripValue). id_eq s.target i) (told_strips shape leaves owner (owner leaf.0) rank) strip sent ((id_eq_is_equal i i).1 refl) in
        Contains-flat_map (λ p. strips_for i (told_strips shape leaves owner p rank)) ranks (owner leaf.0) strip (owned leaf face has share) mine

-- ---- by the links of a rank's leaves

-- where a function gives nothing for what a test leaves out, the test is no matter
filter_map_skips : {X Y : Type 0} (f : X → Option Y) (p q : X → Bool) (xs : List X) → All (λ x. q x ≡ false → f x ≡ None) xs
    → filter_map f (filter p (filter q xs)) ≡ filter_map f (filter p xs)
filter_map_skips f p q [] none = refl
filter_map_skips {X = X} {Y = Y} f p q (x ∷ xs) none =
    by (cases_Bool (q x)) (cases_Bool (p x)) (filter_map_skips f p q xs (All-tail (λ x. q x ≡ false → f x ≡ None) x xs none))
  where
    by : (q x ≡ true) ⊎ (q x ≡ false) → (p x ≡ true) ⊎ (p x ≡ false) → filter_map f (filter p (filter q xs)) ≡ filter_map f (filter p xs)
        → filter_map f (filter p (filter q (x ∷ xs))) ≡ filter_map f (filter p (x ∷ xs))
    by (inl kept) (inl passed) later = rw (kept, passed) (ap (cons_option (f x)) later)
    by (inl kept) (inr failed) later = rw (kept, failed) later
    by (inr out) (inl passed) later = let nothing : f x ≡ None = All-head (λ x. q x ≡ false → f x ≡ None) x xs none out in rw (out, passed, nothing) later
    by (inr out) (inr failed) later = rw (out, failed) later

-- joined lists that functions give alike
pub flat_map_each : {X Y : Type 0} (f g : X → List Y) (xs : List X) → All (λ x. f x ≡ g x) xs → flat_map f xs ≡ flat_map g xs
flat_map_each f g [] same = refl
flat_map_each {Y = Y} f g (x ∷ xs) same =
    ap (λ (ys : List Y). ys ++ flat_map f xs) (All-head (λ x. f x ≡ g x) x xs same)
    ∙ ap (λ (ys : List Y). g x ++ ys) (flat_map_each f g xs (All-tail (λ x. f x ≡ g x) x xs same))

-- a leaf tells nothing to leaves that it doesn't touch
nothing_told : (shape : Shape) (side : ℕ) (leaves : List Leaf) (leaf : Leaf) (i : BlockId) → IsShape shape → IsMap shape side leaves
    → Contains leaves leaf → Contains (ids_of leaves) i → touches shape leaf.0 i ≡ false → strip_between shape leaf i ≡ None
nothing_told shape side leaves leaf i domain is has there out =
    let found = Contains-map_cases (λ (l : Leaf). l.0) leaves i there in
    let k = found.0.0 in
    ap (option_map (λ face. strip_of leaf face i)) (none_is_found shape (box_of shape i) (box_of shape leaf.0) (λ face share.
    let are : ShareFace shape side leaves (k, found.0.1) face (leaf.0, leaf.1) =
    record { domain = domain; map = is; own_in = found.1; other_in = has; share = subst (λ k. SharesFace shape face (box_of shape k) (box_of shape leaf.0)) found.2 share } in
    let touch = Touch_sym shape k leaf.0 (shares_touch shape side leaves k leaf.0 found.0.1 leaf.1 face are) in
    both_ways (touches shape leaf.0 i) out (subst (λ k. touches shape leaf.0 k ≡ true) (sym found.2) ((touches_decides shape leaf.0 k).1 touch))))

pub links_tell : (shape : Shape) (side : ℕ) (leaves : List Leaf) (links : BlockId → List BlockId) (owner : BlockId → ℕ) (from to : ℕ) → IsShape shape → IsMap shape side leaves
    → ((leaf : Leaf) → Contains leaves leaf → links leaf.0 ≡ filter (touches shape leaf.0) (ids_of leaves))
    → linked_strips shape leaves links owner from to ≡ told_strips shape leaves owner from to
links_tell shape side leaves links owner from to domain is linked =
    flat_map_each (λ leaf. strips_from shape leaf (filter to_it (links leaf.0))) (λ leaf. strips_from shape leaf (filter to_it (ids_of leaves))) sources
    (All-from_Contains (λ leaf. strips_from shape leaf (filter to_it (links leaf.0)) ≡ strips_from shape leaf (filter to_it (ids_of leaves))) sources each)
  where
    to_it : BlockId → Bool
    to_it i = owner i == to

    sources : List Leaf
    sources = filter (λ (leaf : Leaf). owner leaf.0 == from) leaves

    each : (leaf : Leaf) → Contains sources leaf → strips_from shape leaf (filter to_it (links leaf.0)) ≡ strips_from shape leaf (filter to_it (ids_of leaves))
    each leaf among =
        let has = (Contains-filter_cases (λ (l : Leaf). owner l.0 == from) leaves leaf among).0 in
        ap (λ l. strips_from shape leaf (filter to_it l)) (linked leaf has)
        ∙ filter_map_skips (strip_between shape leaf) to_it (touches shape leaf.0) (ids_of leaves)
        (All-from_Contains (λ i. touches shape leaf.0 i ≡ false → strip_between shape leaf i ≡ None) (ids_of leaves)
        (λ i there out. nothing_told shape side leaves leaf i domain is has there out))
