-- Steps of the calls: leaves that are passed one after another, and who has a leaf by links.
use Rattle.std.proofs.Common.{◌≡◌, ℕ, zero, suc, ◌+◌, ◌<◌, ◌≤◌, Bool, true, false, cond, List, [], ◌∷◌, ◌++◌, map, filter, flat_map, length, take, drop, get_or, Contains, refl, sym, ap, ◌∙◌, subst, arith, append_assoc}
use Rattle.std.specs.Prelude.{AllPairs, Some, None, Ok, Err, find, min, option_map}
use Rattle.std.specs.List.{zip}
use Rattle.std.specs.List.Sorted.{IsBinarySearchResult, IsSearchInRange}
use Rattle.std.proofs.lemmas.Bool.{cond-true, cond-false, false_from_ne_true}
use Rattle.std.proofs.lemmas.List.{get_or-map, length-map, take_all, take_more}
use Rattle.std.proofs.lemmas.List.Elements.{Contains-get_or}
use Rattle.std.proofs.lemmas.List.Kept.{AllPairs-filter}
use Rattle.std.proofs.lemmas.Slice.Zip.{get_or-zip, length-zip}
use Rattle.bf_id.specs.Id.{BlockId, child_of, children_of, id_cmp, id_eq, level_of, octant_of, parent_of}
use Rattle.bf_id.specs.Walk.{IsBefore}
use Rattle.bf_id.proofs.Boxes.{id_eq_is_equal}
use Rattle.bf_id.proofs.Tilings.{Contains-child, Contains-child_cases, Contains-head, Contains-tail}
use Rattle.bf_case.specs.Refinement.{is_among}
use Rattle.bf_case.proofs.OctetLemmas.{child_of_parent, parent_of-child}
use Rattle.bf_case.proofs.SampleLemmas.{not_before_itself}
use Rattle.bf_links.specs.Links.{link_to, owner_of, ComesBefore}
use Rattle.bf_links.specs.declared.link.Link.{Link}
use Rattle.bf_links.proofs.SearchLemmas.{none_found, searched}
use Rattle.bf_marks.proofs.ChosenLemmas.{among_has, among_is}
use Rattle.bf_proxy.proofs.JoinLemmas.{rest_rises}
use Rattle.bf_proxy_rounds.specs.Plays.{is_merge, known_target, linked_leaves, merging_leaves, octet_home, own_homes, LinkedLeaf, Proxying}

-- ---- children

-- a block is among the children of its parent alone
pub among_children : (p i : BlockId) → 0 < level_of i → octant_of i < 8 → id_eq (parent_of i) p ≡ is_among (children_of p) i
among_children p i deep small = by (id_eq (parent_of i) p) (is_among (children_of p) i) refl refl
  where
    by : (a b : Bool) → id_eq (parent_of i) p ≡ a → is_among (children_of p) i ≡ b → a ≡ b
    by true true same has = refl
    by false false other none = refl
    by true false same none =
        let parent : parent_of i ≡ p = (id_eq_is_equal (parent_of i) p).0 same in
        let child : i ≡ child_of p (octant_of i) = child_of_parent i deep ∙ ap (λ q. child_of q (octant_of i)) parent in
        let has : is_among (children_of p) i ≡ true = among_is (children_of p) i (subst (Contains (children_of p)) (sym child) (Contains-child p (octant_of i) small)) in
        sym has ∙ none
    by false true other has =
        let child = Contains-child_cases p i (among_has (children_of p) i has) in
        let same : id_eq (parent_of i) p ≡ true = (id_eq_is_equal (parent_of i) p).1 (ap parent_of child.2 ∙ parent_of-child p child.0) in
        sym other ∙ same

-- ---- owners by links

-- the first link to a leaf
pub owner_here : (ls : List Link) (i : BlockId) (k : ℕ) (l : Link) → k < length ls → l ≡ get_or ls k l → id_eq l.id i ≡ true → owner_of (drop k ls) i ≡ Some l.owner
owner_here [] i k l below is same = absurd (omega arith)
owner_here (m ∷ ls) i zero l below is same =
    ap (λ n. owner_of (n ∷ ls) i) (sym is) ∙ ap (option_map (λ (l : Link). l.owner)) (cond-true (id_eq l.id i) (Some l) (find (λ (n : Link). id_eq n.id i) ls) same)
owner_here (m ∷ ls) i (suc k) l below is same = owner_here ls i k l (omega arith) is same

-- one that is to another
pub owner_later : (ls : List Link) (i : BlockId) (k : ℕ) (l : Link) → k < length ls → l ≡ get_or ls k l → id_eq l.id i ≡ false → owner_of (drop (k + 1) ls) i ≡ owner_of (drop k ls) i
owner_later [] i k l below is other = absurd (omega arith)
owner_later (m ∷ ls) i zero l below is other =
    sym (ap (λ n. owner_of (n ∷ ls) i) (sym is) ∙ ap (option_map (λ (l : Link). l.owner)) (cond-false (id_eq l.id i) (Some l) (find (λ (n : Link). id_eq n.id i) ls) other))
owner_later (m ∷ ls) i (suc k) l below is other =
    let up : suc k + 1 ≡ suc (k + 1) = omega arith in
    ap (λ n. owner_of (drop n (m ∷ ls)) i) up ∙ owner_later ls i k l (omega arith) is other

pub owner_none : (ls : List Link) (i : BlockId) (k : ℕ) → length ls ≤ k → owner_of (drop k ls) i ≡ None
owner_none [] i zero end = refl
owner_none [] i (suc k) end = refl
owner_none (l ∷ ls) i zero end = absurd (omega arith)
owner_none (l ∷ ls) i (suc k) end = owner_none ls i k (omega arith)

-- by links before others
pub owner_first : (ls more : List Link) (i : BlockId) (o : ℕ) → owner_of ls i ≡ Some o → owner_of (ls ++ more) i ≡ Some o
owner_first [] more i o is = let wrong : None ≡ Some o = is in cc
owner_first (l ∷ ls) more i o is = by (id_eq l.id i) is (owner_first ls more i o)
  where
    by : (b : Bool) → option_map (λ (l : Link). l.owner) (cond b (Some l) (find (λ (n : Link). id_eq n.id i) ls)) ≡ Some o → (owner_of ls i ≡ Some o → owner_of (ls ++ more) i ≡ Some o)
        → option_map (λ (l : Link). l.owner) (cond b (Some l) (find (λ (n : Link). id_eq n.id i) (ls ++ more))) ≡ Some o
    by true is later = is
    by false is later = later is

pub owner_second : (ls more : List Link) (i : BlockId) → owner_of ls i ≡ None → owner_of (ls ++ more) i ≡ owner_of more i
owner_second [] more i none = refl
owner_second (l ∷ ls) more i none = by (id_eq l.id i) none (owner_second ls more i)
  where
    by : (b : Bool) → option_map (λ (l : Link). l.owner) (cond b (Some l) (find (λ (n : Link). id_eq n.id i) ls)) ≡ None → (owner_of ls i ≡ None → owner_of (ls ++ more) i ≡ owner_of more i)
        → option_map (λ (l : Link). l.owner) (cond b (Some l) (find (λ (n : Link). id_eq n.id i) (ls ++ more))) ≡ owner_of more i
    by true none later = let wrong : Some l.owner ≡ None = none in cc
    by false none later = later none

-- by a search among rising links
found_at : (ls : List Link) (i : BlockId) (k : ℕ) (d : Link) → AllPairs ComesBefore ls → k < length ls → (get_or ls k d).id ≡ i → owner_of ls i ≡ Some (get_or ls k d).owner
found_at [] i k d rising below found = absurd (omega arith)
found_at (l ∷ ls) i zero d rising below found =
    ap (option_map (λ (l : Link). l.owner)) (cond-true (id_eq l.id i) (Some l) (find (λ (n : Link). id_eq n.id i) ls) ((id_eq_is_equal l.id i).1 found))
found_at (l ∷ ls) i (suc k) d rising below found =
    let before : IsBefore l.id (get_or ls k d).id = rising 0 (suc k) d (omega arith) (omega arith) in
    let other : id_eq l.id i ≡ false =
    false_from_ne_true (id_eq l.id i) (λ same. not_before_itself l.id (subst (IsBefore l.id) (found ∙ sym ((id_eq_is_equal l.id i).0 same)) before)) in
    ap (option_map (λ (l : Link). l.owner)) (cond-false (id_eq l.id i) (Some l) (find (λ (n : Link). id_eq n.id i) ls) other)
    ∙ found_at ls i k d (rest_rises l ls rising) (omega arith) found

pub owner_found : (ls : List Link) (i : BlockId) (k : ℕ) (d : Link) → AllPairs ComesBefore ls → IsSearchInRange (Ok k) (length ls) → IsBinarySearchResult (λ (l : Link). id_cmp l.id i) ls (Ok k)
    → Some (get_or ls k d).owner ≡ owner_of ls i
owner_found ls i k d rising within at =
    let is = searched (λ (l : Link). l.id) ls i (Ok k) rising within at in
    sym (found_at ls i k d rising is.0 (is.1 d))

pub owner_missed : (ls : List Link) (i : BlockId) (k : ℕ) → AllPairs ComesBefore ls → IsSearchInRange (Err k) (length ls) → IsBinarySearchResult (λ (l : Link). id_cmp l.id i) ls (Err k)
    → None ≡ owner_of ls i
owner_missed ls i k rising within at =
    sym (ap (option_map (λ (l : Link). l.owner)) (none_found ls i (searched (λ (l : Link). l.id) ls i (Err k) rising within at)))

-- ---- leaves with what stands beside them

-- the next of them
pub leaf_next : {L : Type 0} (linked : L → List Link) (leaves : List BlockId) (beside : List L) (k : ℕ) (i : BlockId) (b : L)
    → k < length leaves → k < length beside → i ≡ get_or leaves k i → b ≡ get_or beside k b
    → take (k + 1) (zip leaves (map linked beside)) ≡ take k (zip leaves (map linked beside)) ++ (i, linked b) ∷ []
leaf_next linked [] beside k i b in' in_b is is_b = absurd (omega arith)
leaf_next linked (j ∷ leaves) [] k i b in' in_b is is_b = absurd (omega arith)
leaf_next linked (j ∷ leaves) (c ∷ beside) zero i b in' in_b is is_b = λ k. (sym is k, linked (sym is_b k)) ∷ []
leaf_next linked (j ∷ leaves) (c ∷ beside) (suc k) i b in' in_b is is_b =
    let up : suc k + 1 ≡ suc (k + 1) = omega arith in
    ap (λ n. take n (zip (j ∷ leaves) (map linked (c ∷ beside)))) up
    ∙ ap (λ rest. (j, linked c) ∷ rest) (leaf_next linked leaves beside k i b (omega arith) (omega arith) is is_b)

-- it is among them
pub leaf_among : {L : Type 0} (linked : L → List Link) (leaves : List BlockId) (beside : List L) (k : ℕ) (i : BlockId) (b : L)
    → k < length leaves → k < length beside → i ≡ get_or leaves k i → b ≡ get_or beside k b → Contains (zip leaves (map linked beside)) (i, linked b)
leaf_among linked [] beside k i b in' in_b is is_b = absurd (omega arith)
leaf_among linked (j ∷ leaves) [] k i b in' in_b is is_b = absurd (omega arith)
leaf_among linked (j ∷ leaves) (c ∷ beside) zero i b in' in_b is is_b =
    subst (Contains ((j, linked c) ∷ zip leaves (map linked beside))) (λ k. (sym is k, linked (sym is_b k))) (Contains-head (j, linked c) (zip leaves (map linked beside)))
leaf_among linked (j ∷ leaves) (c ∷ beside) (suc k) i b in' in_b is is_b =
    Contains-tail (j, linked c) (zip leaves (map linked beside)) (i, linked b) (leaf_among linked leaves beside k i b (omega arith) (omega arith) is is_b)

-- all of them
pub leaves_all : {L : Type 0} (linked : L → List Link) (leaves : List BlockId) (beside : List L) (k : ℕ) → length leaves ≤ k → take k (zip leaves (map linked beside)) ≡ zip leaves (map linked beside)
leaves_all linked [] beside k end = take_all k (zip [] (map linked beside)) (omega arith)
leaves_all linked (i ∷ leaves) [] k end = take_all k [] (omega arith)
leaves_all linked (i ∷ leaves) (b ∷ beside) zero end = absurd (omega arith)
leaves_all linked (i ∷ leaves) (b ∷ beside) (suc k) end = ap (λ rest. (i, linked b) ∷ rest) (leaves_all linked leaves beside k (omega arith))

-- the same, where the leaves were taken from a list of them
module _ {L : Type 0} (linked : L → List Link) (leaves items : List BlockId) (beside : List L) (same : items ≡ leaves) (aligned : length beside ≡ length leaves) where
  abbrev all_leaves : List LinkedLeaf
  all_leaves = zip leaves (map linked beside)

  module _ (k : ℕ) (i : BlockId) (b : L) (below : k < length items) (is : i ≡ get_or items k i) (is_b : b ≡ get_or beside k b) where
    in' : k < length leaves
    in' = omega (arith, ap length same)

    here : i ≡ get_or leaves k i
    here = is ∙ ap (λ xs. get_or xs k i) same

    pub taken_next : take (k + 1) all_leaves ≡ take k all_leaves ++ (i, linked b) ∷ []
    taken_next = leaf_next linked leaves beside k i b in' (omega (arith, in', aligned)) here is_b

    pub taken_among : Contains all_leaves (i, linked b)
    taken_among = leaf_among linked leaves beside k i b in' (omega (arith, in', aligned)) here is_b

    pub taken_leaf : Contains leaves i
    taken_leaf = subst (Contains leaves) (sym here) (Contains-get_or leaves k i in')

  pub taken_all : (k : ℕ) → length items ≤ k → take k all_leaves ≡ all_leaves
  taken_all k end = leaves_all linked leaves beside k (omega (arith, ap length same))

-- ---- rising homes

-- what rises by an id rises when links to it are made
rises_mapped : {X : Type 0} (name : X → BlockId) (f : X → Link) (spare : Link → X) → ((x : X) → (f x).id ≡ name x) → (xs : List X) → AllPairs (λ a b. IsBefore (name a) (name b)) xs
    → AllPairs ComesBefore (map f xs)
rises_mapped name f spare named xs rising i j d before within =
    let long : length (map f xs) ≡ length xs = length-map xs f in
    let in_j : j < length xs = omega arith in
    let at : (k : ℕ) → k < length xs → (get_or (map f xs) k d).id ≡ name (get_or xs k (spare d)) =
    λ k below. ap (λ (l : Link). l.id) (get_or-map f xs k (spare d) d below) ∙ named (get_or xs k (spare d)) in
    subst (λ q. IsBefore (get_or (map f xs) i d).id q) (sym (at j in_j))
    (subst (λ q. IsBefore q (name (get_or xs j (spare d)))) (sym (at i (omega arith))) (rising i j (spare d) before in_j))

zip_rises : {Y : Type 0} (leaves : List BlockId) (beside : List Y) → AllPairs IsBefore leaves → AllPairs (λ (a b : BlockId × Y). IsBefore a.0 b.0) (zip leaves beside)
zip_rises leaves beside rising i j d before within =
    let long : length (zip leaves beside) ≡ min (length leaves) (length beside) = length-zip leaves beside in
    let in_j : (j < length leaves) × (j < length beside) = (omega arith, omega arith) in
    let in_i : (i < length leaves) × (i < length beside) = (omega (arith, in_j.0), omega (arith, in_j.1)) in
    subst (λ q. IsBefore (get_or (zip leaves beside) i d).0 q) (sym (λ k. (get_or-zip leaves beside j d in_j.0 in_j.1 k).0))
    (subst (λ q. IsBefore q (get_or leaves j d.0)) (sym (λ k. (get_or-zip leaves beside i d in_i.0 in_i.1 k).0)) (rising i j d.0 before in_j.0))

-- homes rise as the leaves do
pub homes_rise : (local : Proxying) → AllPairs IsBefore local.marking.marks.leaves → AllPairs ComesBefore (own_homes local)
homes_rise local rising =
    rises_mapped (λ (leaf : LinkedLeaf). leaf.0) (λ (leaf : LinkedLeaf). link_to (λ i. octet_home local i leaf.1) leaf.0) (λ (l : Link). (l.id, [])) (λ leaf. refl) (merging_leaves local)
    (AllPairs-filter (λ (a b : LinkedLeaf). IsBefore a.0 b.0) (λ (leaf : LinkedLeaf). is_merge (known_target local leaf.0)) (linked_leaves local)
    (zip_rises local.marking.marks.leaves local.marking.links rising))

-- ---- what is made of one more

append_empty : {X : Type 0} (xs : List X) → xs ++ [] ≡ xs
append_empty [] = refl
append_empty (x ∷ xs) = ap (λ ys. x ∷ ys) (append_empty xs)

pub flat_next : {X Y : Type 0} (f : X → List Y) (some more : List X) (x : X) → more ≡ some ++ x ∷ [] → flat_map f more ≡ flat_map f some ++ f x
flat_next {X = X} f some more x is = ap (flat_map f) is ∙ at some
  where
    at : (xs : List X) → flat_map f (xs ++ x ∷ []) ≡ flat_map f xs ++ f x
    at [] = append_empty (f x)
    at (y ∷ xs) = ap (λ ys. f y ++ ys) (at xs) ∙ sym (append_assoc (f y) (flat_map f xs) (f x))

pub kept_next : {X Y : Type 0} (p : X → Bool) (f : X → Y) (some more : List X) (x : X) → more ≡ some ++ x ∷ [] → p x ≡ true → map f (filter p more) ≡ map f (filter p some) ++ f x ∷ []
kept_next {X = X} p f some more x is passes = ap (λ xs. map f (filter p xs)) is ∙ at some
  where
    at : (xs : List X) → map f (filter p (xs ++ x ∷ [])) ≡ map f (filter p xs) ++ f x ∷ []
    at [] = ap (map f) (cond-true (p x) (x ∷ []) [] passes)
    at (y ∷ xs) = by (p y) (at xs)
      where
        by : (b : Bool) → map f (filter p (xs ++ x ∷ [])) ≡ map f (filter p xs) ++ f x ∷ []
            → map f (cond b (y ∷ filter p (xs ++ x ∷ [])) (filter p (xs ++ x ∷ []))) ≡ map f (cond b (y ∷ filter p xs) (filter p xs)) ++ f x ∷ []
        by true later = ap (λ ys. f y ∷ ys) later
        by false later = later

pub passed_next : {X Y : Type 0} (p : X → Bool) (f : X → Y) (some more : List X) (x : X) → more ≡ some ++ x ∷ [] → p x ≡ false → map f (filter p more) ≡ map f (filter p some)
passed_next {X = X} p f some more x is fails = ap (λ xs. map f (filter p xs)) is ∙ at some
  where
    at : (xs : List X) → map f (filter p (xs ++ x ∷ [])) ≡ map f (filter p xs)
    at [] = ap (map f) (cond-false (p x) (x ∷ []) [] fails)
    at (y ∷ xs) = by (p y) (at xs)
      where
        by : (b : Bool) → map f (filter p (xs ++ x ∷ [])) ≡ map f (filter p xs)
            → map f (cond b (y ∷ filter p (xs ++ x ∷ [])) (filter p (xs ++ x ∷ []))) ≡ map f (cond b (y ∷ filter p xs) (filter p xs))
        by true later = ap (λ ys. f y ∷ ys) later
        by false later = later

pub tested_next : {X Y : Type 0} (p : X → Bool) (f : X → Y) (some more : List X) (x : X) → more ≡ some ++ x ∷ []
    → map f (filter p more) ≡ cond (p x) (map f (filter p some) ++ f x ∷ []) (map f (filter p some))
tested_next {Y = Y} p f some more x is = by (p x) refl
  where
    by : (b : Bool) → p x ≡ b → map f (filter p more) ≡ cond b (map f (filter p some) ++ f x ∷ []) (map f (filter p some))
    by true passes = kept_next p f some more x is passes
    by false fails = passed_next p f some more x is fails

-- the next of a list
pub list_next : {X : Type 0} (xs : List X) (k : ℕ) (x : X) → k < length xs → x ≡ get_or xs k x → take (k + 1) xs ≡ take k xs ++ x ∷ []
list_next xs k x below is = take_more xs k x below ∙ ap (λ y. take k xs ++ y ∷ []) (sym is)
