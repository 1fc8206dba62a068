-- Looking for a leaf among links by rising id.
use Rattle.std.proofs.Common.{◌≡◌, ℕ, zero, suc, ◌+◌, ◌<◌, ◌≤◌, Bool, true, false, List, [], ◌∷◌, map, ◌++◌, take, drop, length, get_or, cond, refl, sym, ap, subst, ◌∙◌, arith, ◌⊎◌, inl, inr}
use Rattle.std.specs.Prelude.{Result, Ok, Err, Some, None, AllPairs, MatchResult, find, option_map}
use Rattle.std.specs.List.{AllWithin, refill}
use Rattle.std.proofs.Math.ListN.{set}
use Rattle.std.proofs.Math.Seq.{take-append_seam}
use Rattle.std.specs.List.Sorted.{IsSortedBy, IsBinarySearchResult, IsSearchInRange}
use Rattle.std.specs.Ordering.{is_lt, ordering_reverse}
use Rattle.std.specs.declared.cmp.Ordering.TheVariants.{Less, Equal, Greater}
use Rattle.std.proofs.lemmas.Bool.{false_from_ne_true, cases_lt, cond-true, cond-false}
use Rattle.std.proofs.lemmas.List.{ext_get_or, get_or-map, length-map, length-set}
use Rattle.std.proofs.lemmas.List.Sorted.{searchable_from_sorted}
use Rattle.bf_id.specs.Id.{BlockId, id_cmp, id_eq}
use Rattle.bf_id.specs.Walk.{IsBefore}
use Rattle.bf_id.proofs.Boxes.{id_eq_is_equal}
use Rattle.bf_id.proofs.Rising.{id_cmp_total, id_cmp-exact}
use Rattle.bf_case.proofs.SampleLemmas.{not_before_itself}
use Rattle.bf_links.specs.Links.{AreLinks, ComesBefore, IsPlaceOf, IsNoPlaceOf, with_owner}
use Rattle.bf_links.specs.declared.link.Link.{Link}

test_true : (l : Link) (id : BlockId) → l.id ≡ id → id_eq l.id id ≡ true
test_true l id same = (id_eq_is_equal l.id id).1 same

test_false : (l : Link) (id : BlockId) → (l.id ≡ id → ⊥) → id_eq l.id id ≡ false
test_false l id apart = false_from_ne_true (id_eq l.id id) (λ t. apart ((id_eq_is_equal l.id id).0 t))

rest_rising : (l : Link) (ls : List Link) → AllPairs ComesBefore (l ∷ ls) → AllPairs ComesBefore ls
rest_rising l ls rising i j d before within = rising (suc i) (suc j) d (omega arith) (omega arith)

-- a link before the one to a leaf is to another
earlier : (l : Link) (ls : List Link) (id : BlockId) (k : ℕ) (d : Link) → AllPairs ComesBefore (l ∷ ls) → k < length ls → (get_or ls k d).id ≡ id → l.id ≡ id → ⊥
earlier l ls id k d rising within found same =
    let before : IsBefore l.id (get_or ls k d).id = rising 0 (suc k) d (omega arith) (omega arith) in
    not_before_itself l.id (subst (IsBefore l.id) (found ∙ sym same) before)

found_at : (ls : List Link) (id : BlockId) (k : ℕ) (d : Link) → AllPairs ComesBefore ls → k < length ls → (get_or ls k d).id ≡ id
    → find (λ (l : Link). id_eq l.id id) ls ≡ Some (get_or ls k d)
found_at [] id k d rising within found = absurd (omega arith)
found_at (l ∷ ls) id zero d rising within found = cond-true (id_eq l.id id) (Some l) _ (test_true l id found)
found_at (l ∷ ls) id (suc k) d rising within found =
    let below : k < length ls = omega arith in
    cond-false (id_eq l.id id) (Some l) (find (λ (m : Link). id_eq m.id id) ls) (test_false l id (earlier l ls id k d rising below found))
    ∙ found_at ls id k d (rest_rising l ls rising) below found

pub none_found : (ls : List Link) (id : BlockId) → ((k : ℕ) (d : Link) → k < length ls → (get_or ls k d).id ≡ id → ⊥) → find (λ (l : Link). id_eq l.id id) ls ≡ None
none_found [] id none = refl
none_found (l ∷ ls) id none =
    cond-false (id_eq l.id id) (Some l) _ (test_false l id (none 0 l (omega arith))) ∙ none_found ls id (λ k d within. none (suc k) d (omega arith))

pub none_changed : (ls : List Link) (id : BlockId) (owner : ℕ) → ((k : ℕ) (d : Link) → k < length ls → (get_or ls k d).id ≡ id → ⊥) → ls ≡ with_owner id owner ls
none_changed [] id owner none = refl
none_changed (l ∷ ls) id owner none =
    ap (λ m. m ∷ ls) (sym (cond-false (id_eq l.id id) (record l { owner = owner }) l (test_false l id (none 0 l (omega arith)))))
    ∙ ap (λ rest. cond (id_eq l.id id) (record l { owner = owner }) l ∷ rest) (none_changed ls id owner (λ k d within. none (suc k) d (omega arith)))

one_changed : (ls : List Link) (id : BlockId) (owner k : ℕ) (d : Link) → AllPairs ComesBefore ls → k < length ls → (get_or ls k d).id ≡ id
    → set ls k (record { id = (get_or ls k d).id; owner = owner }) ≡ with_owner id owner ls
one_changed [] id owner k d rising within found = absurd (omega arith)
one_changed (l ∷ ls) id owner zero d rising within found =
    ap (λ m. m ∷ ls) (sym (cond-true (id_eq l.id id) (record l { owner = owner }) l (test_true l id found)))
    ∙ ap (λ rest. cond (id_eq l.id id) (record l { owner = owner }) l ∷ rest) (none_changed ls id owner (λ k e below same.
    let before : IsBefore l.id (get_or ls k e).id = rising 0 (suc k) e (omega arith) (omega arith) in
    not_before_itself l.id (subst (IsBefore l.id) (same ∙ sym found) before)))
one_changed (l ∷ ls) id owner (suc k) d rising within found =
    let below : k < length ls = omega arith in
    ap (λ m. m ∷ set ls k (record { id = (get_or ls k d).id; owner = owner }))
    (sym (cond-false (id_eq l.id id) (record l { owner = owner }) l (test_false l id (earlier l ls id k d rising below found))))
    ∙ ap (λ rest. cond (id_eq l.id id) (record l { owner = owner }) l ∷ rest) (one_changed ls id owner k d (rest_rising l ls rising) below found)

-- ---- what a search says

-- of anything that has an id, in rising order
pub searched : {X : Type 0} (name : X → BlockId) (xs : List X) (id : BlockId) (r : Result ℕ ℕ) → AllPairs (λ a b. IsBefore (name a) (name b)) xs → IsSearchInRange r (length xs)
    → IsBinarySearchResult (λ x. id_cmp (name x) id) xs r
    → MatchResult r (λ k. (k < length xs) × ((d : X) → name (get_or xs k d) ≡ id)) (λ _. (k : ℕ) (d : X) → k < length xs → name (get_or xs k d) ≡ id → ⊥)
searched name xs id (Ok k) rising within at = (within, λ d. (id_cmp-exact (name (get_or xs k d)) id).0 (at d))
searched {X = X} name xs id (Err k) rising within at = λ j d below same. by j d below same (cases_lt j k)
  where
    sorted : IsSortedBy (λ a b. is_lt (id_cmp (name a) (name b))) xs
    sorted = λ j d low below. ap is_lt (id_cmp_total.antisymm (name (get_or xs (j + 1) d)) (name (get_or xs j d)) ∙ ap ordering_reverse (rising j (j + 1) d (omega arith) below))

    parts : AllWithin (λ x. id_cmp (name x) id ≡ Less) xs 0 k × AllWithin (λ x. id_cmp (name x) id ≡ Greater) xs k (length xs)
    parts = at (searchable_from_sorted id_cmp_total name xs id sorted)

    by : (j : ℕ) (d : X) → j < length xs → name (get_or xs j d) ≡ id → (j < k) ⊎ (k ≤ j) → ⊥
    by j d below same (inl before) = let wrong : Equal ≡ Less = sym ((id_cmp-exact (name (get_or xs j d)) id).1 same) ∙ parts.0 j d (omega arith) before in cc
    by j d below same (inr after) = let wrong : Equal ≡ Greater = sym ((id_cmp-exact (name (get_or xs j d)) id).1 same) ∙ parts.1 j d after below in cc

pub place_of : (ls : List Link) (id : BlockId) (r : Result ℕ ℕ) → AreLinks ls → IsSearchInRange r (length ls) → IsBinarySearchResult (λ (l : Link). id_cmp l.id id) ls r
    → MatchResult r (IsPlaceOf ls id) (λ _. IsNoPlaceOf ls id)
place_of ls id (Ok k) are within at =
    let is = searched (λ (l : Link). l.id) ls id (Ok k) are.rising within at in
    record { within = is.0; found = is.1; owner = λ d. ap (option_map (λ (l : Link). l.owner)) (found_at ls id k d are.rising is.0 (is.1 d)) }
place_of ls id (Err k) are within at =
    let is = searched (λ (l : Link). l.id) ls id (Err k) are.rising within at in
    record { none = is; owner = ap (option_map (λ (l : Link). l.owner)) (none_found ls id is) }

-- ---- another owner

same_name : (t : Bool) (l : Link) (owner : ℕ) → (cond t (record l { owner = owner }) l).id ≡ l.id
same_name true l owner = refl
same_name false l owner = refl

-- links to the same leaves, with other owners
pub links_mapped : (ls : List Link) (f : Link → Link) → ((l : Link) → (f l).id ≡ l.id) → AreLinks ls → AreLinks (map f ls)
links_mapped ls f keeps are = record {
  rising = λ i j d before within.
      let long : length (map f ls) ≡ length ls = length-map ls f in
      let in_j : j < length ls = omega arith in
      subst (λ k. IsBefore (get_or (map f ls) i d).id k) (sym (name j d in_j)) (subst (λ k. IsBefore k (get_or ls j d).id) (sym (name i d (omega arith))) (are.rising i j d before in_j));
  few = subst (λ n. n ≤ 56) (sym (length-map ls f)) are.few;
}
  where
    name : (k : ℕ) (d : Link) → k < length ls → (get_or (map f ls) k d).id ≡ (get_or ls k d).id
    name k d within = ap (λ (l : Link). l.id) (get_or-map f ls k d d within) ∙ keeps (get_or ls k d)

pub links_with_owner : (ls : List Link) (id : BlockId) (owner : ℕ) → AreLinks ls → AreLinks (with_owner id owner ls)
links_with_owner ls id owner are = links_mapped ls (λ (l : Link). cond (id_eq l.id id) (record l { owner = owner }) l) (λ l. same_name (id_eq l.id id) l owner) are

-- a list written over another of its length
pub refilled : (ls new : List Link) → length new ≡ length ls → refill (length ls) ls new ≡ new
refilled ls new long = ap (λ n. take n (new ++ drop (length new) ls)) (sym long) ∙ take-append_seam new (drop (length new) ls)

-- the links after one was written through a slice
pub written : (ls before : List Link) (id : BlockId) (owner k : ℕ) (link : Link) → AreLinks ls → before ≡ ls → IsPlaceOf ls id k → link ≡ get_or before k link
    → refill (length ls) ls (set before k (record { id = (get_or before k link).id; owner = owner })) ≡ with_owner id owner ls
written ls before id owner k link are same at is =
    subst (λ (l : List Link). refill (length ls) ls (set l k (record { id = (get_or l k link).id; owner = owner })) ≡ with_owner id owner ls) (sym same)
    (let new = set ls k (record { id = (get_or ls k link).id; owner = owner }) in
    let long : length new ≡ length ls = length-set ls k (record { id = (get_or ls k link).id; owner = owner }) in
    refilled ls new long ∙ one_changed ls id owner k link are.rising at.within (at.found link))

pub all_mapped : (ls new : List Link) (f : Link → Link) (n : ℕ) → length new ≡ length ls → length ls ≤ n
    → ((k : ℕ) (d : Link) → k < n → k < length ls → get_or new k d ≡ f (get_or ls k d)) → new ≡ map f ls
all_mapped ls new f n long all done =
    let d : Link = record { id = record { root = 0; digits = [] }; owner = 0 } in
    ext_get_or d new (map f ls) (long ∙ sym (length-map ls f)) (λ k within. done k d (omega arith) (omega arith) ∙ sym (get_or-map f ls k d d (omega arith)))

pub all_remapped : (ls before new : List Link) (f : Link → Link) → ((l : Link) → (f l).id ≡ l.id) → AreLinks ls → before ≡ ls → new ≡ map f before
    → (refill (length ls) ls new ≡ map f ls) × AreLinks (refill (length ls) ls new)
all_remapped ls before new f keeps are same is =
    let mapped : new ≡ map f ls = is ∙ ap (map f) same in
    let whole : refill (length ls) ls new ≡ map f ls = refilled ls new (ap length mapped ∙ length-map ls f) ∙ mapped in
    (whole, subst AreLinks (sym whole) (links_mapped ls f keeps are))
