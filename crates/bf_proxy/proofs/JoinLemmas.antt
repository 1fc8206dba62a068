-- Links by rising id, put together: what they have, and that they rise.
use Rattle.std.proofs.Common.{◌≡◌, ◌↔◌, ℕ, zero, suc, ◌+◌, ◌<◌, ◌≤◌, List, [], ◌∷◌, ◌++◌, ◌⊎◌, inl, inr, Contains, get_or, length, take, drop, refl, sym, ap, ◌∙◌, subst, arith}
use Rattle.std.specs.Prelude.{AllPairs, Ok, Err}
use Rattle.std.specs.declared.cmp.Ordering.{Ordering}
use Rattle.std.specs.declared.cmp.Ordering.TheVariants.{Less, Equal, Greater}
use Rattle.std.specs.Ordering.{ordering_reverse, is_lt}
use Rattle.std.specs.List.{AllWithin}
use Rattle.std.specs.List.Sorted.{IsSortedBy, IsBinarySearchResult, IsSearchInRange}
use Rattle.std.proofs.lemmas.List.Sorted.{searchable_from_sorted}
use Rattle.std.proofs.lemmas.List.Kept.{AllPairs-cons}
use Rattle.bf_id.specs.Id.{BlockId, id_cmp}
use Rattle.bf_id.specs.Walk.{IsBefore}
use Rattle.bf_id.proofs.Rising.{AllPairs-nil, id_cmp_total, id_cmp-exact}
use Rattle.bf_id.proofs.Tilings.{Contains-head, Contains-tail, Contains-cons_cases, Contains-none}
use Rattle.bf_case.proofs.OrderLemmas.{not_both_before, before_trans}
use Rattle.bf_case.proofs.SampleLemmas.{not_before_itself}
use Rattle.bf_links.specs.Links.{ComesBefore}
use Rattle.bf_links.specs.declared.link.Link.{Link}
use Rattle.bf_proxy.specs.Joined.{put_by, put, joined, AgreeOnOwners}

-- the first of rising links stands before each later one
pub first_before : (x : Link) (xs : List Link) (z : Link) → AllPairs ComesBefore (x ∷ xs) → Contains xs z → ComesBefore x z
first_before x xs z rise (k, below, is) = subst (ComesBefore x) is (rise 0 (suc k) z (omega arith) (omega arith))

pub rest_rises : (x : Link) (xs : List Link) → AllPairs ComesBefore (x ∷ xs) → AllPairs ComesBefore xs
rest_rises x xs rise = λ i j d below within. rise (suc i) (suc j) d (omega arith) (omega arith)

-- rising links with the same elements are the same
pub same_links : (xs ys : List Link) → AllPairs ComesBefore xs → AllPairs ComesBefore ys → ((z : Link) → Contains xs z → Contains ys z) → ((z : Link) → Contains ys z → Contains xs z)
    → xs ≡ ys
same_links [] [] rise_x rise_y there back = refl
same_links [] (y ∷ ys) rise_x rise_y there back = absurd (Contains-none y (back y (Contains-head y ys)))
same_links (x ∷ xs) [] rise_x rise_y there back = absurd (Contains-none x (there x (Contains-head x xs)))
same_links (x ∷ xs) (y ∷ ys) rise_x rise_y there back =
    ap (λ z. z ∷ xs) same ∙ ap (λ zs. y ∷ zs) (same_links xs ys (rest_rises x xs rise_x) (rest_rises y ys rise_y) later_there later_back)
  where
    same : x ≡ y
    same = by (Contains-cons_cases y ys x (there x (Contains-head x xs))) (Contains-cons_cases x xs y (back y (Contains-head y ys)))
      where
        by : (x ≡ y) ⊎ Contains ys x → (y ≡ x) ⊎ Contains xs y → x ≡ y
        by (inl e) q = e
        by (inr in_ys) (inl e) = sym e
        by (inr in_ys) (inr in_xs) = absurd (not_both_before x.id y.id (first_before x xs y rise_x in_xs) (first_before y ys x rise_y in_ys))

    later_there : (z : Link) → Contains xs z → Contains ys z
    later_there z has = by (Contains-cons_cases y ys z (there z (Contains-tail x xs z has)))
      where
        by : (z ≡ y) ⊎ Contains ys z → Contains ys z
        by (inl e) = absurd (not_before_itself x.id (subst (ComesBefore x) (e ∙ sym same) (first_before x xs z rise_x has)))
        by (inr in_ys) = in_ys

    later_back : (z : Link) → Contains ys z → Contains xs z
    later_back z has = by (Contains-cons_cases x xs z (back z (Contains-tail y ys z has)))
      where
        by : (z ≡ x) ⊎ Contains xs z → Contains xs z
        by (inl e) = absurd (not_before_itself y.id (subst (ComesBefore y) (e ∙ same) (first_before y ys z rise_y has)))
        by (inr in_xs) = in_xs

-- ---- a link put at its place

pub put_cases : (x : Link) (ys : List Link) (z : Link) → Contains (put x ys) z → (z ≡ x) ⊎ Contains ys z
unfolding put
put_cases x [] z has = Contains-cons_cases x [] z has
put_cases x (y ∷ ys) z has = by (id_cmp x.id y.id) has (put_cases x ys z)
  where
    by : (o : Ordering) → Contains (put_by o x y ys (put x ys)) z → (Contains (put x ys) z → (z ≡ x) ⊎ Contains ys z) → (z ≡ x) ⊎ Contains (y ∷ ys) z
    by Less in' later = Contains-cons_cases x (y ∷ ys) z in'
    by Equal in' later = inr in'
    by Greater in' later = at (Contains-cons_cases y (put x ys) z in')
      where
        deeper : (z ≡ x) ⊎ Contains ys z → (z ≡ x) ⊎ Contains (y ∷ ys) z
        deeper (inl e) = inl e
        deeper (inr rest) = inr (Contains-tail y ys z rest)

        at : (z ≡ y) ⊎ Contains (put x ys) z → (z ≡ x) ⊎ Contains (y ∷ ys) z
        at (inl e) = inr (subst (Contains (y ∷ ys)) (sym e) (Contains-head y ys))
        at (inr rest) = deeper (later rest)

pub put_keeps : (x : Link) (ys : List Link) (z : Link) → Contains ys z → Contains (put x ys) z
unfolding put
put_keeps x [] z has = absurd (Contains-none z has)
put_keeps x (y ∷ ys) z has = by (id_cmp x.id y.id) (put_keeps x ys z)
  where
    by : (o : Ordering) → (Contains ys z → Contains (put x ys) z) → Contains (put_by o x y ys (put x ys)) z
    by Less later = Contains-tail x (y ∷ ys) z has
    by Equal later = has
    by Greater later = at (Contains-cons_cases y ys z has)
      where
        at : (z ≡ y) ⊎ Contains ys z → Contains (y ∷ put x ys) z
        at (inl e) = subst (Contains (y ∷ put x ys)) (sym e) (Contains-head y (put x ys))
        at (inr rest) = Contains-tail y (put x ys) z (later rest)

-- a link to the leaf stands there
abbrev pub Names : List Link → BlockId → Type 0
Names links i = (z : Link) × Contains links z × (z.id ≡ i)

pub put_names : (x : Link) (ys : List Link) → Names (put x ys) x.id
unfolding put
put_names x [] = (x, Contains-head x [], refl)
put_names x (y ∷ ys) = by (id_cmp x.id y.id) refl (put_names x ys)
  where
    by : (o : Ordering) → id_cmp x.id y.id ≡ o → Names (put x ys) x.id → Names (put_by o x y ys (put x ys)) x.id
    by Less is later = (x, Contains-head x (y ∷ ys), refl)
    by Equal is later = (y, Contains-head y ys, sym ((id_cmp-exact x.id y.id).0 is))
    by Greater is later = (later.0, Contains-tail y (put x ys) later.0 later.1, later.2)

-- what stands before all of some rising links
ahead : (x : Link) (ys : List Link) → AllPairs ComesBefore ys → ((z : Link) → Contains ys z → ComesBefore x z) → AllPairs ComesBefore (x ∷ ys)
ahead x ys rise before =
    AllPairs-cons ComesBefore x ys (λ k d below. before (get_or ys k d) (k, below, get_same ys k d below)) rise
  where
    get_same : (ys : List Link) (k : ℕ) (d : Link) → k < length ys → get_or ys k (get_or ys k d) ≡ get_or ys k d
    get_same [] k d below = absurd (omega arith)
    get_same (y ∷ ys) zero d below = refl
    get_same (y ∷ ys) (suc k) d below = get_same ys k d (omega arith)

turned : (a b : BlockId) → id_cmp a b ≡ Greater → id_cmp b a ≡ Less
turned a b is = id_cmp_total.antisymm b a ∙ ap ordering_reverse is

pub put_rises : (x : Link) (ys : List Link) → AllPairs ComesBefore ys → AllPairs ComesBefore (put x ys)
unfolding put
put_rises x [] rise = ahead x [] (AllPairs-nil ComesBefore) (λ z has. absurd (Contains-none z has))
put_rises x (y ∷ ys) rise = by (id_cmp x.id y.id) refl (put_rises x ys (rest_rises y ys rise))
  where
    by : (o : Ordering) → id_cmp x.id y.id ≡ o → AllPairs ComesBefore (put x ys) → AllPairs ComesBefore (put_by o x y ys (put x ys))
    by Less is later = ahead x (y ∷ ys) rise (λ z has. at z (Contains-cons_cases y ys z has))
      where
        at : (z : Link) → (z ≡ y) ⊎ Contains ys z → ComesBefore x z
        at z (inl e) = subst (ComesBefore x) (sym e) is
        at z (inr rest) = before_trans x.id y.id z.id is (first_before y ys z rise rest)
    by Equal is later = rise
    by Greater is later = ahead y (put x ys) later (λ z has. at z (put_cases x ys z has))
      where
        at : (z : Link) → (z ≡ x) ⊎ Contains ys z → ComesBefore y z
        at z (inl e) = subst (ComesBefore y) (sym e) (turned x.id y.id is)
        at z (inr rest) = first_before y ys z rise rest

-- ---- where a search leads

-- its place is behind all that stand before it, and before all others
placed : (x : Link) (ys : List Link) (k : ℕ) → k ≤ length ys
    → ((j : ℕ) (d : Link) → j < k → id_cmp (get_or ys j d).id x.id ≡ Less) → ((j : ℕ) (d : Link) → k ≤ j → j < length ys → id_cmp (get_or ys j d).id x.id ≡ Greater)
    → take k ys ++ x ∷ drop k ys ≡ put x ys
unfolding put
placed x [] k within front back = ap (λ n. take n [] ++ x ∷ drop n []) none
  where
    none : k ≡ 0
    none = omega arith
placed x (y ∷ ys) zero within front back =
    ap (λ o. put_by o x y ys (put x ys)) (sym (turned y.id x.id (back 0 y (omega arith) (omega arith))))
placed x (y ∷ ys) (suc k) within front back =
    ap (λ zs. y ∷ zs) (placed x ys k (omega arith) (λ j d below. front (suc j) d (omega arith)) (λ j d from below. back (suc j) d (omega arith) (omega arith)))
    ∙ ap (λ o. put_by o x y ys (put x ys)) (sym later)
  where
    later : id_cmp x.id y.id ≡ Greater
    later = id_cmp_total.antisymm x.id y.id ∙ ap ordering_reverse (front 0 y (omega arith))

-- nothing is put where its leaf has a link
pub put_again : (x : Link) (ys : List Link) → AllPairs ComesBefore ys → Names ys x.id → put x ys ≡ ys
unfolding put
put_again x [] rise (z, has, same) = absurd (Contains-none z has)
put_again x (y ∷ ys) rise (z, has, same) = by (Contains-cons_cases y ys z has) (λ rest. put_again x ys (rest_rises y ys rise) (z, rest, same))
  where
    by : (z ≡ y) ⊎ Contains ys z → (Contains ys z → put x ys ≡ ys) → put_by (id_cmp x.id y.id) x y ys (put x ys) ≡ y ∷ ys
    by (inl e) later = ap (λ o. put_by o x y ys (put x ys)) ((id_cmp-exact x.id y.id).1 (sym same ∙ ap (λ (l : Link). l.id) e))
    by (inr rest) later =
        let before : id_cmp y.id x.id ≡ Less = subst (IsBefore y.id) same (first_before y ys z rise rest) in
        let order : id_cmp x.id y.id ≡ Greater = id_cmp_total.antisymm x.id y.id ∙ ap ordering_reverse before in
        ap (λ o. put_by o x y ys (put x ys)) order ∙ ap (λ zs. y ∷ zs) (later rest)

pub put_found : (x : Link) (ys : List Link) (k : ℕ) → AllPairs ComesBefore ys → IsSearchInRange (Ok k) (length ys)
    → IsBinarySearchResult (λ (l : Link). id_cmp l.id x.id) ys (Ok k) → ys ≡ put x ys
put_found x ys k rise within at =
    sym (put_again x ys rise (get_or ys k x, (k, within, get_same ys k x within), (id_cmp-exact (get_or ys k x).id x.id).0 (at x)))
  where
    get_same : (ys : List Link) (k : ℕ) (d : Link) → k < length ys → get_or ys k (get_or ys k d) ≡ get_or ys k d
    get_same [] k d below = absurd (omega arith)
    get_same (y ∷ ys) zero d below = refl
    get_same (y ∷ ys) (suc k) d below = get_same ys k d (omega arith)

pub put_missed : (x : Link) (ys : List Link) (k : ℕ) → AllPairs ComesBefore ys → IsSearchInRange (Err k) (length ys)
    → IsBinarySearchResult (λ (l : Link). id_cmp l.id x.id) ys (Err k) → take k ys ++ x ∷ drop k ys ≡ put x ys
put_missed x ys k rise within at = placed x ys k within (λ j d below. parts.0 j d (omega arith) below) (λ j d from below. parts.1 j d from below)
  where
    sorted : IsSortedBy (λ (a b : Link). is_lt (id_cmp a.id b.id)) ys
    sorted = λ j d low below. ap is_lt (id_cmp_total.antisymm (get_or ys (j + 1) d).id (get_or ys j d).id ∙ ap ordering_reverse (rise j (j + 1) d (omega arith) below))

    parts : AllWithin (λ (l : Link). id_cmp l.id x.id ≡ Less) ys 0 k × AllWithin (λ (l : Link). id_cmp l.id x.id ≡ Greater) ys k (length ys)
    parts = at (searchable_from_sorted id_cmp_total (λ (l : Link). l.id) ys x.id sorted)

-- rising links have one to each leaf
pub one_link : (xs : List Link) (a b : Link) → AllPairs ComesBefore xs → Contains xs a → Contains xs b → a.id ≡ b.id → a ≡ b
one_link [] a b rise has_a has_b same = absurd (Contains-none a has_a)
one_link (x ∷ xs) a b rise has_a has_b same = by (Contains-cons_cases x xs a has_a) (Contains-cons_cases x xs b has_b) (one_link xs a b (rest_rises x xs rise))
  where
    by : (a ≡ x) ⊎ Contains xs a → (b ≡ x) ⊎ Contains xs b → (Contains xs a → Contains xs b → a.id ≡ b.id → a ≡ b) → a ≡ b
    by (inl e) (inl f) later = e ∙ sym f
    by (inl e) (inr rest) later =
        absurd (not_before_itself x.id (subst (IsBefore x.id) (sym same ∙ ap (λ (l : Link). l.id) e) (first_before x xs b rise rest)))
    by (inr rest) (inl f) later =
        absurd (not_before_itself x.id (subst (IsBefore x.id) (same ∙ ap (λ (l : Link). l.id) f) (first_before x xs a rise rest)))
    by (inr rest) (inr other) later = later rest other same

pub rising_agree : (xs : List Link) → AllPairs ComesBefore xs → AgreeOnOwners xs xs
rising_agree xs rise a b has_a has_b same = ap (λ (l : Link). l.owner) (one_link xs a b rise has_a has_b same)

-- ---- both lists

pub joined_rises : (xs ys : List Link) → AllPairs ComesBefore ys → AllPairs ComesBefore (joined xs ys)
unfolding joined
joined_rises [] ys rise = rise
joined_rises (x ∷ xs) ys rise = joined_rises xs (put x ys) (put_rises x ys rise)

pub joined_cases : (xs ys : List Link) (z : Link) → Contains (joined xs ys) z → Contains xs z ⊎ Contains ys z
unfolding joined
joined_cases [] ys z has = inr has
joined_cases (x ∷ xs) ys z has = by (joined_cases xs (put x ys) z has)
  where
    at : (z ≡ x) ⊎ Contains ys z → Contains (x ∷ xs) z ⊎ Contains ys z
    at (inl e) = inl (subst (Contains (x ∷ xs)) (sym e) (Contains-head x xs))
    at (inr later) = inr later

    by : Contains xs z ⊎ Contains (put x ys) z → Contains (x ∷ xs) z ⊎ Contains ys z
    by (inl first) = inl (Contains-tail x xs z first)
    by (inr later) = at (put_cases x ys z later)

pub joined_keeps : (xs ys : List Link) (z : Link) → Contains ys z → Contains (joined xs ys) z
unfolding joined
joined_keeps [] ys z has = has
joined_keeps (x ∷ xs) ys z has = joined_keeps xs (put x ys) z (put_keeps x ys z has)

pub joined_names : (xs ys : List Link) (z : Link) → Contains xs z → Names (joined xs ys) z.id
unfolding joined
joined_names [] ys z has = absurd (Contains-none z has)
joined_names (x ∷ xs) ys z has = by (Contains-cons_cases x xs z has) (joined_names xs (put x ys) z)
  where
    by : (z ≡ x) ⊎ Contains xs z → (Contains xs z → Names (joined xs (put x ys)) z.id) → Names (joined xs (put x ys)) z.id
    by (inl e) later =
        let first = put_names x ys in
        (first.0, joined_keeps xs (put x ys) first.0 first.1, first.2 ∙ sym (ap (λ (l : Link). l.id) e))
    by (inr rest) later = later rest

-- one link more, of those that are put in
pub joined_more : (xs ys : List Link) (k : ℕ) (x : Link) → k < length xs → x ≡ get_or xs k x → joined (drop (k + 1) xs) (put x ys) ≡ joined (drop k xs) ys
unfolding joined
joined_more [] ys k x below is = absurd (omega arith)
joined_more (z ∷ xs) ys zero x below is = ap (λ w. joined xs (put w ys)) is
joined_more (z ∷ xs) ys (suc k) x below is =
    let up : suc k + 1 ≡ suc (k + 1) = omega arith in
    ap (λ n. joined (drop n (z ∷ xs)) (put x ys)) up ∙ joined_more xs ys k x (omega arith) is

pub joined_end : (xs ys : List Link) (k : ℕ) → length xs ≤ k → joined (drop k xs) ys ≡ ys
unfolding joined
joined_end [] ys zero end = refl
joined_end [] ys (suc k) end = refl
joined_end (x ∷ xs) ys zero end = absurd (omega arith)
joined_end (x ∷ xs) ys (suc k) end = joined_end xs ys k (omega arith)

-- where links to one leaf are one, they have the links of both lists and no others
pub joined_both : (xs ys : List Link) → AgreeOnOwners xs xs → AgreeOnOwners xs ys → (z : Link) → Contains (joined xs ys) z ↔ (Contains ys z ⊎ Contains xs z)
joined_both xs ys one agree z = (λ has. turn (joined_cases xs ys z has), back)
  where
    turn : Contains xs z ⊎ Contains ys z → Contains ys z ⊎ Contains xs z
    turn (inl first) = inr first
    turn (inr later) = inl later

    same : (w : Link) → w.id ≡ z.id → w.owner ≡ z.owner → w ≡ z
    same w id owner = λ k. record { id = id k; owner = owner k }

    found : Contains xs z → (w : Link) → w.id ≡ z.id → Contains xs w ⊎ Contains ys w → w ≡ z
    found has w id (inl first) = same w id (one w z first has id)
    found has w id (inr later) = same w id (sym (agree z w has later (sym id)))

    back : Contains ys z ⊎ Contains xs z → Contains (joined xs ys) z
    back (inl later) = joined_keeps xs ys z later
    back (inr first) =
        let is = joined_names xs ys z first in
        subst (Contains (joined xs ys)) (found first is.0 is.2 (joined_cases xs ys is.0 is.1)) is.1
