-- Cargo that was sorted by its ids is the one rising list of it.
use Rattle.std.proofs.Common.{◌≡◌, ℕ, suc, ◌+◌, ◌<◌, ◌∙◌, true, false, cond, List, [], ◌∷◌, ◌⊎◌, inl, inr, Contains, get_or, refl, sym, ap, subst, arith}
use Rattle.std.specs.Prelude.{AllPairs, IsPermutation}
use Rattle.std.specs.List.{sum_by}
use Rattle.std.specs.List.Sorted.{IsSortedBy}
use Rattle.std.specs.Ordering.{is_lt, ordering_reverse}
use Rattle.std.specs.declared.cmp.Ordering.{Ordering}
use Rattle.std.specs.declared.cmp.Ordering.TheVariants.{Less, Equal, Greater}
use Rattle.std.proofs.lemmas.List.Sorted.{Contains-permutation, IsPermutation-sym, sum_by-IsPermutation}
use Rattle.std.proofs.lemmas.Bool.{false_from_ne_true}
use Rattle.std.proofs.lemmas.List.Sums.{sum_by-cons}
use Rattle.bf_id.specs.Id.{BlockId, id_cmp, id_eq}
use Rattle.bf_id.specs.Walk.{IsBefore}
use Rattle.bf_id.proofs.Boxes.{id_eq_is_equal}
use Rattle.bf_id.proofs.Rising.{id_cmp_total, id_cmp-exact}
use Rattle.bf_id.proofs.Tilings.{Contains-head, Contains-tail, Contains-cons_cases, Contains-none}
use Rattle.bf_case.proofs.OrderLemmas.{before_trans}
use Rattle.bf_case.proofs.SampleLemmas.{not_before_itself}

one_more : (n : ℕ) → 1 + n ≡ suc n
one_more n = omega arith

none_more : (n : ℕ) → 0 + n ≡ n
none_more n = omega arith

cancel : (a b m n : ℕ) → a ≡ b → a + m ≡ b + n → m ≡ n
cancel a b m n e f = omega arith

module _ {X : Type 0} (name : X → BlockId) where
  abbrev pub Rise : List X → Type 0
  Rise xs = AllPairs (λ x y. IsBefore (name x) (name y)) xs

  abbrev pub Ascend : List X → Type 0
  Ascend xs = IsSortedBy (λ x y. is_lt (id_cmp (name x) (name y))) xs

  head_rises : (x : X) (xs : List X) (z : X) → Rise (x ∷ xs) → Contains xs z → IsBefore (name x) (name z)
  head_rises x xs z rise (k, below, is) = subst (λ (y : X). IsBefore (name x) (name y)) is (rise 0 (suc k) z (omega arith) (omega arith))

  tail_rises : (x : X) (xs : List X) → Rise (x ∷ xs) → Rise xs
  tail_rises x xs rise = λ i j d below within. rise (suc i) (suc j) d (omega arith) (omega arith)

  tail_ascends : (x : X) (xs : List X) → Ascend (x ∷ xs) → Ascend xs
  tail_ascends x xs sorted = λ k d low below.
      let next : suc k + 1 ≡ suc (k + 1) = omega arith in
      subst (λ n. is_lt (id_cmp (name (get_or (x ∷ xs) n d)) (name (get_or xs k d))) ≡ false) next (sorted (suc k) d (omega arith) (omega arith))

  -- nothing behind the first of an ascending list stands before it
  head_ascends : (x : X) (xs : List X) (z : X) → Ascend (x ∷ xs) → Contains xs z → IsBefore (name z) (name x) → ⊥
  head_ascends x [] z sorted has before = Contains-none z has
  head_ascends x (y ∷ ys) z sorted has before = by (Contains-cons_cases y ys z has) (head_ascends y ys z (tail_ascends x (y ∷ ys) sorted))
    where
      next : IsBefore (name y) (name x) → ⊥
      next wrong = let e : true ≡ false = sym (ap is_lt wrong) ∙ sorted 0 x (omega arith) (omega arith) in cc

      at : (o : Ordering) → id_cmp (name x) (name y) ≡ o → (IsBefore (name z) (name y) → ⊥) → ⊥
      at Less e none = none (before_trans (name z) (name x) (name y) before e)
      at Equal e none = none (subst (IsBefore (name z)) ((id_cmp-exact (name x) (name y)).0 e) before)
      at Greater e none = next (id_cmp_total.antisymm (name y) (name x) ∙ ap ordering_reverse e)

      by : (z ≡ y) ⊎ Contains ys z → (Contains ys z → IsBefore (name z) (name y) → ⊥) → ⊥
      by (inl e) later = next (subst (λ (w : X). IsBefore (name w) (name x)) e before)
      by (inr rest) later = at (id_cmp (name x) (name y)) refl (later rest)

  -- how often an id is among items
  times : List X → BlockId → ℕ
  times xs q = sum_by (λ x. cond (id_eq (name x) q) 1 0) xs

  times_head : (x : X) (xs : List X) → times (x ∷ xs) (name x) ≡ suc (times xs (name x))
  unfolding times
  times_head x xs = sum_by-cons (λ x'. cond (id_eq (name x') (name x)) 1 0) x xs ∙ ap (λ b. cond b 1 0 + times xs (name x)) ((id_eq_is_equal (name x) (name x)).1 refl) ∙ one_more (times xs (name x))

  times_cons : (x : X) (xs : List X) (q : BlockId) → times (x ∷ xs) q ≡ cond (id_eq (name x) q) 1 0 + times xs q
  unfolding times
  times_cons x xs q = sum_by-cons (λ x'. cond (id_eq (name x') q) 1 0) x xs

  times_none : (q : BlockId) → times [] q ≡ 0
  unfolding times
  times_none q = refl

  -- what is among items is counted
  times_some : (xs : List X) (z : X) → Contains xs z → 0 < times xs (name z)
  times_some [] z has = absurd (Contains-none z has)
  times_some (x ∷ xs) z has = by (Contains-cons_cases x xs z has) (times_some xs z)
    where
      by : (z ≡ x) ⊎ Contains xs z → (Contains xs z → 0 < times xs (name z)) → 0 < times (x ∷ xs) (name z)
      by (inl e) later = let n : times (x ∷ xs) (name z) ≡ suc (times xs (name z)) = subst (λ (w : X). times (x ∷ xs) (name w) ≡ suc (times xs (name w))) (sym e) (times_head x xs) in omega arith
      by (inr rest) later = let n = times_cons x xs (name z) in let some = later rest in omega arith

  -- what stands before all items is not
  times_before : (q : BlockId) (xs : List X) → ((z : X) → Contains xs z → IsBefore q (name z)) → times xs q ≡ 0
  times_before q [] before = times_none q
  times_before q (x ∷ xs) before =
      let other : id_eq (name x) q ≡ false = false_from_ne_true (id_eq (name x) q) (λ same. not_before_itself q (subst (IsBefore q) ((id_eq_is_equal (name x) q).0 same) (before x (Contains-head x xs)))) in
      times_cons x xs q ∙ ap (λ b. cond b 1 0 + times xs q) other ∙ none_more (times xs q) ∙ times_before q xs (λ z has. before z (Contains-tail x xs z has))

  -- an ascending list with the items of a rising one is that one
  same_items : (xs ys : List X) → Ascend xs → Rise ys → ((z : X) → Contains xs z → Contains ys z) → ((z : X) → Contains ys z → Contains xs z)
      → ((q : BlockId) → times xs q ≡ times ys q) → xs ≡ ys
  same_items [] [] up rise there back counts = refl
  same_items [] (y ∷ ys) up rise there back counts = absurd (Contains-none y (back y (Contains-head y ys)))
  same_items (x ∷ xs) [] up rise there back counts = absurd (Contains-none x (there x (Contains-head x xs)))
  same_items (x ∷ xs) (y ∷ ys) up rise there back counts =
      ap (λ z. z ∷ xs) same ∙ ap (λ zs. y ∷ zs) (same_items xs ys (tail_ascends x xs up) (tail_rises y ys rise) later_there later_back later_counts)
    where
      same : x ≡ y
      same = by (Contains-cons_cases y ys x (there x (Contains-head x xs))) (Contains-cons_cases x xs y (back y (Contains-head y ys)))
        where
          by : (x ≡ y) ⊎ Contains ys x → (y ≡ x) ⊎ Contains xs y → x ≡ y
          by (inl e) q = e
          by (inr in_ys) (inl e) = sym e
          by (inr in_ys) (inr in_xs) = absurd (head_ascends x xs y up in_xs (head_rises y ys x rise in_ys))

      later_counts : (q : BlockId) → times xs q ≡ times ys q
      later_counts q =
          cancel (cond (id_eq (name x) q) 1 0) (cond (id_eq (name y) q) 1 0) (times xs q) (times ys q) (ap (λ (w : X). cond (id_eq (name w) q) 1 0) same)
          (sym (times_cons x xs q) ∙ counts q ∙ times_cons y ys q)

      -- the first isn't met again
      no_more : (z : X) → Contains xs z → z ≡ y → ⊥
      no_more z has e =
          let some : 0 < times xs (name z) = times_some xs z has in
          let none : times ys (name y) ≡ 0 = times_before (name y) ys (λ w in_ys. head_rises y ys w rise in_ys) in
          let zero' : times xs (name z) ≡ 0 = ap (λ (w : X). times xs (name w)) e ∙ later_counts (name y) ∙ none in
          omega arith

      later_there : (z : X) → Contains xs z → Contains ys z
      later_there z has = by (Contains-cons_cases y ys z (there z (Contains-tail x xs z has)))
        where
          by : (z ≡ y) ⊎ Contains ys z → Contains ys z
          by (inl e) = absurd (no_more z has e)
          by (inr in_ys) = in_ys

      later_back : (z : X) → Contains ys z → Contains xs z
      later_back z has = by (Contains-cons_cases x xs z (back z (Contains-tail y ys z has)))
        where
          by : (z ≡ x) ⊎ Contains xs z → Contains xs z
          by (inl e) = absurd (not_before_itself (name y) (subst (λ (w : X). IsBefore (name y) (name w)) (e ∙ same) (head_rises y ys z rise has)))
          by (inr in_xs) = in_xs

  -- so a list that was sorted is the one rising list in another order
  pub sorted_is : (xs sorted ordered : List X) → IsPermutation xs sorted → Ascend sorted → IsPermutation xs ordered → Rise ordered → sorted ≡ ordered
  unfolding times
  sorted_is xs sorted ordered moved up same rise =
      same_items sorted ordered up rise
      (λ z has. Contains-permutation xs ordered z same (Contains-permutation sorted xs z (IsPermutation-sym xs sorted moved) has))
      (λ z has. Contains-permutation xs sorted z moved (Contains-permutation ordered xs z (IsPermutation-sym xs ordered same) has))
      (λ q. sum_by-IsPermutation (λ x. cond (id_eq (name x) q) 1 0) xs sorted moved ∙ sym (sum_by-IsPermutation (λ x. cond (id_eq (name x) q) 1 0) xs ordered same))
