-- Lists: what passes one of several tests, each element by one of them.
use Rattle.std.proofs.Common.{◌≡◌, ℕ, suc, ◌<◌, Bool, true, false, cond, ◌&&◌, ◌||◌, ◌==◌, List, [], ◌∷◌, ◌++◌, ◌⊎◌, inl, inr, get_or, length, map, filter, flat_map, Contains, refl, sym, ap, ◌∙◌, subst, arith, append_assoc}
use Rattle.std.specs.Prelude.{AllPairs, IsPermutation}
use Rattle.std.specs.List.{range_with_len}
use Rattle.std.proofs.lemmas.Bool.{cond-false, eqb-true, eq-eqb, false_from_ne_true}
use Rattle.std.proofs.lemmas.List.{map-append, append-nil, get_or-map, length-map}
use Rattle.std.proofs.lemmas.List.FromFn.{get_or-range_with_len, length-range_with_len}
use Rattle.std.proofs.lemmas.List.Elements.{filter-append, filter_agree, Contains-append_right}
use Rattle.std.proofs.lemmas.List.Sums.{length-filter}
use Rattle.std.proofs.lemmas.List.Sorted.{Contains-permutation, sum_by-IsPermutation, IsPermutation-refl, IsPermutation-trans, IsPermutation-cons, IsPermutation-append, IsPermutation-append_comm, IsPermutation-append_right}
use Rattle.bf_lemmas.proofs.Lists.{All-from_Contains, map_each, filter_twice}
use Rattle.bf_buddy.specs.Members.{is_member}
use Rattle.bf_id.specs.Id.{BlockId, id_eq}
use Rattle.bf_id.specs.Walk.{IsBefore}
use Rattle.bf_id.proofs.Boxes.{id_eq_is_equal}
use Rattle.bf_id.proofs.Tilings.{Contains-head, Contains-tail, Contains-cons_cases, Contains-none}
use Rattle.bf_case.proofs.SampleLemmas.{not_before_itself}
use Rattle.bf_case.proofs.TestLemmas.{Contains-filter, Contains-filter_cases}

pub map_where : {X Y : Type 0} (f g : X → Y) (xs : List X) → ((x : X) → Contains xs x → f x ≡ g x) → map f xs ≡ map g xs
map_where f g xs same = map_each f g xs (All-from_Contains (λ x. f x ≡ g x) xs same)

pub flat_map_where : {X Y : Type 0} (f g : X → List Y) (xs : List X) → ((x : X) → Contains xs x → f x ≡ g x) → flat_map f xs ≡ flat_map g xs
flat_map_where f g [] same = refl
flat_map_where f g (x ∷ xs) same =
    ap (λ ys. ys ++ flat_map f xs) (same x (Contains-head x xs)) ∙ ap (λ ys. g x ++ ys) (flat_map_where f g xs (λ y has. same y (Contains-tail x xs y has)))

-- eight values
pub eight_alike : {Y : Type 0} (f g : ℕ → Y) → ((k : ℕ) → k < 8 → f k ≡ g k) → map f (range_with_len 0 8) ≡ map g (range_with_len 0 8)
eight_alike f g same =
    map_each f g (range_with_len 0 8) (λ k d within.
    let below : k < 8 = omega (arith, length-range_with_len 0 8, within) in
    let at : get_or (range_with_len 0 8) k d ≡ k = omega (arith, get_or-range_with_len 0 8 k d below) in
    subst (λ n. f n ≡ g n) (sym at) (same k below))

pub flat_map_of_maps : {K X Y : Type 0} (value : X → Y) (f : K → List X) (ks : List K) → flat_map (λ k. map value (f k)) ks ≡ map value (flat_map f ks)
flat_map_of_maps value f [] = refl
flat_map_of_maps value f (k ∷ ks) = ap (λ xs. map value (f k) ++ xs) (flat_map_of_maps value f ks) ∙ sym (map-append value (f k) (flat_map f ks))

filter_joined : {K X : Type 0} (p : X → Bool) (f : K → List X) (ks : List K) → filter p (flat_map f ks) ≡ flat_map (λ k. filter p (f k)) ks
filter_joined p f [] = refl
filter_joined p f (k ∷ ks) = filter-append p (f k) (flat_map f ks) ∙ ap (λ xs. filter p (f k) ++ xs) (filter_joined p f ks)

-- an element, if a test holds
abbrev pub if_so : {X : Type 0} → Bool → X → List X
if_so b x = cond b (x ∷ []) []

-- one of the tests holds of an element, once, or none does, as a last one says
abbrev pub IsOnce : {K X : Type 0} → (K → X → Bool) → List K → (X → Bool) → X → Type 0
IsOnce passes ks test x = flat_map (λ k. if_so (passes k x) x) ks ≡ if_so (test x) x

module _ {K X : Type 0} (passes : K → X → Bool) (ks : List K) where
  -- an element before what passes each test
  one_before : (x : X) (xs : List X) (some : List K)
      → IsPermutation (flat_map (λ k. filter (passes k) (x ∷ xs)) some) (flat_map (λ k. if_so (passes k x) x) some ++ flat_map (λ k. filter (passes k) xs) some)
  one_before x xs [] = IsPermutation-refl []
  one_before x xs (k ∷ some) = by (passes k x) (one_before x xs some)
    where
      ones : List X
      ones = flat_map (λ k. if_so (passes k x) x) some

      rest : List X
      rest = flat_map (λ k. filter (passes k) xs) some

      -- what passes this test goes behind the ones
      moved : (kept : List X) → IsPermutation (flat_map (λ k. filter (passes k) (x ∷ xs)) some) (ones ++ rest)
          → IsPermutation (kept ++ flat_map (λ k. filter (passes k) (x ∷ xs)) some) (ones ++ (kept ++ rest))
      moved kept later =
          IsPermutation-trans _ _ _ (IsPermutation-append_right kept _ _ later)
          (subst (λ l. IsPermutation l (ones ++ (kept ++ rest))) (append_assoc kept ones rest)
          (subst (IsPermutation ((kept ++ ones) ++ rest)) (append_assoc ones kept rest)
          (IsPermutation-append (kept ++ ones) (ones ++ kept) rest rest (IsPermutation-append_comm kept ones) (IsPermutation-refl rest))))

      by : (b : Bool) → IsPermutation (flat_map (λ k. filter (passes k) (x ∷ xs)) some) (ones ++ rest)
          → IsPermutation (cond b (x ∷ filter (passes k) xs) (filter (passes k) xs) ++ flat_map (λ k. filter (passes k) (x ∷ xs)) some)
          ((if_so b x ++ ones) ++ (filter (passes k) xs ++ rest))
      by true later = IsPermutation-cons x _ _ (moved (filter (passes k) xs) later)
      by false later = moved (filter (passes k) xs) later

  -- so what passes the tests, one test after another, is what passes the last one, in another order
  pub once_each : (test : X → Bool) (xs : List X) → ((x : X) → Contains xs x → IsOnce passes ks test x)
      → IsPermutation (flat_map (λ k. filter (passes k) xs) ks) (filter test xs)
  once_each test [] once = subst (λ l. IsPermutation l []) (sym (nothing ks)) (IsPermutation-refl [])
    where
      nothing : (some : List K) → flat_map (λ k. filter (passes k) []) some ≡ []
      nothing [] = refl
      nothing (k ∷ some) = nothing some
  once_each test (x ∷ xs) once =
      IsPermutation-trans _ _ _ (one_before x xs ks)
      (subst (λ l. IsPermutation (l ++ flat_map (λ k. filter (passes k) xs) ks) (filter test (x ∷ xs))) (sym (once x (Contains-head x xs)))
      (by (test x) (once_each test xs (λ y has. once y (Contains-tail x xs y has)))))
    where
      by : (b : Bool) → IsPermutation (flat_map (λ k. filter (passes k) xs) ks) (filter test xs)
          → IsPermutation (if_so b x ++ flat_map (λ k. filter (passes k) xs) ks) (cond b (x ∷ filter test xs) (filter test xs))
      by true later = IsPermutation-cons x _ _ later
      by false later = later

  -- and of one element it is that one, if it passes
  pub only_once : (p test : X → Bool) (xs : List X) (x : X) → filter p xs ≡ x ∷ [] → IsOnce passes ks test x
      → filter p (flat_map (λ k. filter (passes k) xs) ks) ≡ if_so (test x) x
  only_once p test xs x only once =
      filter_joined p (λ k. filter (passes k) xs) ks
      ∙ alike ks
      ∙ once
    where
      turned : (a b : Bool) → (a && b) ≡ (b && a)
      turned true true = refl
      turned true false = refl
      turned false true = refl
      turned false false = refl

      one : (k : K) → filter p (filter (passes k) xs) ≡ if_so (passes k x) x
      one k =
          filter_twice p (passes k) xs
          ∙ filter_agree (λ y. passes k y && p y) (λ y. p y && passes k y) (λ y. turned (passes k y) (p y)) xs
          ∙ sym (filter_twice (passes k) p xs)
          ∙ ap (filter (passes k)) only

      alike : (some : List K) → flat_map (λ k. filter p (filter (passes k) xs)) some ≡ flat_map (λ k. if_so (passes k x) x) some
      alike [] = refl
      alike (k ∷ some) = ap (λ ys. ys ++ flat_map (λ k. filter p (filter (passes k) xs)) some) (one k) ∙ ap (λ ys. if_so (passes k x) x ++ ys) (alike some)

-- ---- by ranks

pub member_more : (done : List ℕ) (to n : ℕ) → is_member (done ++ to ∷ []) n ≡ (is_member done n || to == n)
member_more [] to n = or_none (to == n)
  where
    or_none : (b : Bool) → (b || false) ≡ b
    or_none true = refl
    or_none false = refl
member_more (d ∷ done) to n = ap (λ b. d == n || b) (member_more done to n) ∙ assoc (d == n) (is_member done n) (to == n)
  where
    assoc : (a b c : Bool) → (a || (b || c)) ≡ ((a || b) || c)
    assoc true b c = refl
    assoc false b c = refl

-- in a rising list an element is not among those before it
pub not_before : (done rest : List ℕ) (x : ℕ) → AllPairs (λ a b. a < b) (done ++ x ∷ rest) → is_member done x ≡ false
not_before [] rest x up = refl
not_before (d ∷ done) rest x up = by (d == x) refl (not_before done rest x (λ i j e below within. up (suc i) (suc j) e (omega arith) (omega arith)))
  where
    at_end : (front : List ℕ) → Contains (front ++ x ∷ rest) x
    at_end front = Contains-append_right front (x ∷ rest) x (Contains-head x rest)

    below : d < x
    below = first_below (at_end done)
      where
        first_below : Contains (done ++ x ∷ rest) x → d < x
        first_below (k, within, is) = subst (λ n. d < n) is (up 0 (suc k) x (omega arith) (omega arith))

    by : (b : Bool) → (d == x) ≡ b → is_member done x ≡ false → (b || is_member done x) ≡ false
    by true same later = absurd (let e : d ≡ x = eqb-true d x same in omega (arith, below, e))
    by false other later = later

pub nobody : {X : Type 0} (x : X) (n : ℕ) (ks : List ℕ) → flat_map (λ k. if_so (n == k && false) x) ks ≡ []
nobody x n [] = refl
nobody x n (k ∷ ks) = ap (λ b. if_so b x ++ flat_map (λ k. if_so (n == k && false) x) ks) (and_none (n == k)) ∙ nobody x n ks
  where
    and_none : (b : Bool) → (b && false) ≡ false
    and_none true = refl
    and_none false = refl

module _ {X : Type 0} (x : X) (n : ℕ) (b : Bool) where
  pub none_of : (ks : List ℕ) → is_member ks n ≡ false → flat_map (λ k. if_so (n == k && b) x) ks ≡ []
  none_of [] none = refl
  none_of (k ∷ ks) none = by (k == n) refl none (none_of ks)
    where
      by : (s : Bool) → (k == n) ≡ s → (s || is_member ks n) ≡ false → (is_member ks n ≡ false → flat_map (λ k. if_so (n == k && b) x) ks ≡ [])
          → (if_so (n == k && b) x ++ flat_map (λ k. if_so (n == k && b) x) ks) ≡ []
      by true same wrong later = absurd (cc)
      by false other rest later =
          let apart : (n == k) ≡ false = false_from_ne_true (n == k) (λ e. let wrong : true ≡ false = sym (eq-eqb k n (sym (eqb-true n k e))) ∙ other in cc) in
          ap (λ s. if_so (s && b) x ++ flat_map (λ k. if_so (n == k && b) x) ks) apart ∙ later rest

  pub one_of : (ks : List ℕ) → AllPairs (λ a b. a < b) ks → is_member ks n ≡ true → flat_map (λ k. if_so (n == k && b) x) ks ≡ if_so b x
  one_of [] rise is_in = absurd (cc)
  one_of (k ∷ ks) rise is_in = by (k == n) refl is_in (one_of ks (λ i j d below within. rise (suc i) (suc j) d (omega arith) (omega arith)))
    where
      later_not : k ≡ n → is_member ks n ≡ false
      later_not same =
          false_from_ne_true (is_member ks n) (λ again. let up = above ks n
          (λ j d within. rise 0 (suc j) d (omega arith) (omega arith)) again in omega (arith, same, up))
        where
          above : (js : List ℕ) (m : ℕ) → ((j d : ℕ) → j < length js → k < get_or js j d) → is_member js m ≡ true → k < m
          above [] m each again = absurd (cc)
          above (j ∷ js) m each again = at (j == m) refl again (above js m (λ l d within. each (suc l) d (omega arith)))
            where
              at : (s : Bool) → (j == m) ≡ s → (s || is_member js m) ≡ true → (is_member js m ≡ true → k < m) → k < m
              at true e in' later = subst (λ q. k < q) (eqb-true j m e) (each 0 j (omega arith))
              at false e in' later = later in'

      by : (s : Bool) → (k == n) ≡ s → (s || is_member ks n) ≡ true → (is_member ks n ≡ true → flat_map (λ k. if_so (n == k && b) x) ks ≡ if_so b x)
          → (if_so (n == k && b) x ++ flat_map (λ k. if_so (n == k && b) x) ks) ≡ if_so b x
      by true same in' later =
          let e : k ≡ n = eqb-true k n same in
          ap (λ s. if_so (s && b) x ++ flat_map (λ k. if_so (n == k && b) x) ks) (eq-eqb n k (sym e))
          ∙ ap (λ xs. if_so b x ++ xs) (none_of ks (later_not e)) ∙ append-nil (if_so b x)
      by false other in' later =
          let apart : (n == k) ≡ false = false_from_ne_true (n == k) (λ e. let wrong : true ≡ false = sym (eq-eqb k n (sym (eqb-true n k e))) ∙ other in cc) in
          ap (λ s. if_so (s && b) x ++ flat_map (λ k. if_so (n == k && b) x) ks) apart ∙ later in'

-- ---- by ids

-- of what rises by id one alone has its own id
module _ {X : Type 0} (name : X → BlockId) where
  pub only_named : (xs : List X) (x : X) → AllPairs (λ a b. IsBefore (name a) (name b)) xs → Contains xs x → filter (λ y. id_eq (name y) (name x)) xs ≡ x ∷ []
  only_named [] x rise has = absurd (Contains-none x has)
  only_named (y ∷ ys) x rise has =
      by (id_eq (name y) (name x)) refl (Contains-cons_cases y ys x has) (only_named ys x (λ k l d below within. rise (suc k) (suc l) d (omega arith) (omega arith)))
    where
      none : (zs : List X) → ((z : X) → Contains zs z → name z ≡ name x → ⊥) → filter (λ z. id_eq (name z) (name x)) zs ≡ []
      none [] apart = refl
      none (z ∷ zs) apart =
          cond-false (id_eq (name z) (name x)) (z ∷ filter (λ w. id_eq (name w) (name x)) zs) (filter (λ w. id_eq (name w) (name x)) zs)
          (false_from_ne_true (id_eq (name z) (name x)) (λ e. apart z (Contains-head z zs) ((id_eq_is_equal (name z) (name x)).0 e)))
          ∙ none zs (λ w has. apart w (Contains-tail z zs w has))

      later : (z : X) → Contains ys z → IsBefore (name y) (name z)
      later z (l, below, is) = subst (λ (w : X). IsBefore (name y) (name w)) is (rise 0 (suc l) z (omega arith) (omega arith))

      first : name y ≡ name x → (x ≡ y) ⊎ Contains ys x → y ≡ x
      first e (inl same) = sym same
      first e (inr rest) = absurd (not_before_itself (name y) (subst (IsBefore (name y)) (sym e) (later x rest)))

      by : (b : Bool) → id_eq (name y) (name x) ≡ b → (x ≡ y) ⊎ Contains ys x → (Contains ys x → filter (λ z. id_eq (name z) (name x)) ys ≡ x ∷ [])
          → cond b (y ∷ filter (λ z. id_eq (name z) (name x)) ys) (filter (λ z. id_eq (name z) (name x)) ys) ≡ x ∷ []
      by true same cases rest_is =
          let e : name y ≡ name x = (id_eq_is_equal (name y) (name x)).0 same in
          ap (λ zs. y ∷ zs) (none ys (λ z has e'. not_before_itself (name y) (subst (IsBefore (name y)) (e' ∙ sym e) (later z has)))) ∙ ap (λ z. z ∷ []) (first e cases)
      by false other (inl e) rest_is = let wrong : true ≡ false = sym ((id_eq_is_equal (name y) (name x)).1 (ap name (sym e))) ∙ other in absurd (cc)
      by false other (inr rest) rest_is = rest_is rest

-- of rising ids one is itself
pub only_itself : (ids : List BlockId) (i : BlockId) → AllPairs IsBefore ids → Contains ids i → filter (λ j. id_eq j i) ids ≡ i ∷ []
only_itself ids i rise has = only_named (λ j. j) ids i rise has

-- what alone passes a test does so in another order too
pub permuted_one : {X : Type 0} (p : X → Bool) (xs ys : List X) (x : X) → IsPermutation xs ys → filter p ys ≡ x ∷ [] → filter p xs ≡ x ∷ []
permuted_one {X = X} p xs ys x moved one = by (filter p xs) refl
  where
    long : length (filter p xs) ≡ 1
    long = length-filter p xs ∙ sym (sum_by-IsPermutation (λ z. cond (p z) 1 0) xs ys moved) ∙ sym (length-filter p ys) ∙ ap length one

    only : (z : X) → (z ≡ x) ⊎ Contains [] z → z ≡ x
    only z (inl e) = e
    only z (inr none) = absurd (Contains-none z none)

    by : (zs : List X) → filter p xs ≡ zs → filter p xs ≡ x ∷ []
    by [] e = absurd (let none : 0 ≡ 1 = sym (ap length e) ∙ long in omega arith)
    by (z ∷ []) e =
        let its = Contains-filter_cases p xs z (subst (λ zs. Contains zs z) (sym e) (Contains-head z [])) in
        let there : Contains (filter p ys) z = Contains-filter p ys z (Contains-permutation xs ys z moved its.0) its.1 in
        e ∙ ap (λ w. w ∷ []) (only z (Contains-cons_cases x [] z (subst (λ zs. Contains zs z) one there)))
    by (z ∷ w ∷ zs) e = absurd (let more : length (z ∷ w ∷ zs) ≡ 1 = sym (ap length e) ∙ long in omega arith)

-- values of rising ids rise
pub rise_mapped : {X : Type 0} (key : X → BlockId) (value : BlockId → X) → ((i : BlockId) → key (value i) ≡ i) → (ids : List BlockId) → AllPairs IsBefore ids
    → AllPairs (λ x y. IsBefore (key x) (key y)) (map value ids)
rise_mapped key value back ids rise = λ j k d below within.
    let in_k : k < length ids = omega (arith, length-map ids value, within) in
    let in_j : j < length ids = omega (arith, below, in_k) in
    subst (λ a. IsBefore a (key (get_or (map value ids) k d))) (sym (ap key (get_or-map value ids j (key d) d in_j) ∙ back (get_or ids j (key d))))
    (subst (IsBefore (get_or ids j (key d))) (sym (ap key (get_or-map value ids k (key d) d in_k) ∙ back (get_or ids k (key d)))) (rise j k (key d) below in_k))
