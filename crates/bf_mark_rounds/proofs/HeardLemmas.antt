-- Flags that are heard, one after the other, stand by rising id.
use Rattle.std.proofs.Common.{◌≡◌, ℕ, zero, suc, ◌<◌, Bool, true, false, ◌&&◌, ◌||◌, List, [], ◌∷◌, ◌⊎◌, inl, inr, filter, Contains, get_or, length, refl, sym, ap, ◌∙◌, subst, arith}
use Rattle.std.specs.Prelude.{AllPairs}
use Rattle.std.specs.List.{fold}
use Rattle.std.specs.BTreeSet.{insert_key}
use Rattle.std.specs.Ordering.{match_ordering, ordering_reverse}
use Rattle.std.specs.declared.cmp.Ordering.{Ordering}
use Rattle.std.specs.declared.cmp.Ordering.TheVariants.{Less, Equal, Greater}
use Rattle.std.proofs.lemmas.Bool.{and_from, and_parts, or_cases}
use Rattle.std.proofs.lemmas.List.Kept.{AllPairs-cons}
use Rattle.bf_lemmas.proofs.Tests.{same_tests}
use Rattle.bf_id.specs.Id.{BlockId, id_cmp, id_eq}
use Rattle.bf_id.specs.Walk.{IsBefore}
use Rattle.bf_id.proofs.Boxes.{id_eq_is_equal}
use Rattle.bf_id.proofs.Rising.{id_cmp_total}
use Rattle.bf_id.proofs.Tilings.{Contains-head, Contains-tail, Contains-cons_cases, Contains-none}
use Rattle.bf_case.specs.Refinement.{is_among}
use Rattle.bf_case.proofs.ListLemmas.{AllPairs-one}
use Rattle.bf_case.proofs.OrderLemmas.{not_both_before, before_trans}
use Rattle.bf_case.proofs.SampleLemmas.{not_before_itself}
use Rattle.bf_case.proofs.TestLemmas.{Contains-filter, Contains-filter_cases}
use Rattle.bf_marks.specs.Marks.{MarksValue}
use Rattle.bf_marks.specs.declared.flag.Flag.TheVariants.{Refined, May, Merges}
use Rattle.bf_marks.proofs.ChosenLemmas.{among_has, among_is, first_before, rest_rises}
use Rattle.bf_marks.proofs.TargetLemmas.{among_more}
use Rattle.bf_mark_rounds.specs.Plays.{hear_all}

-- rising lists with the same elements are one
pub rising_same : (xs ys : List BlockId) → AllPairs IsBefore xs → AllPairs IsBefore ys → ((z : BlockId) → Contains xs z → Contains ys z) → ((z : BlockId) → Contains ys z → Contains xs z)
    → xs ≡ ys
rising_same [] [] rise_x rise_y there back = refl
rising_same [] (y ∷ ys) rise_x rise_y there back = absurd (Contains-none y (back y (Contains-head y ys)))
rising_same (x ∷ xs) [] rise_x rise_y there back = absurd (Contains-none x (there x (Contains-head x xs)))
rising_same (x ∷ xs) (y ∷ ys) rise_x rise_y there back =
    ap (λ z. z ∷ xs) same ∙ ap (λ zs. y ∷ zs) (rising_same xs ys (rest_rises x xs rise_x) (rest_rises y ys rise_y) later_there later_back)
  where
    same : x ≡ y
    same = by (Contains-cons_cases y ys x (there x (Contains-head x xs))) (Contains-cons_cases x xs y (back y (Contains-head y ys)))
      where
        by : (x ≡ y) ⊎ Contains ys x → (y ≡ x) ⊎ Contains xs y → x ≡ y
        by (inl e) q = e
        by (inr in_ys) (inl e) = sym e
        by (inr in_ys) (inr in_xs) = absurd (not_both_before x y (first_before x xs y rise_x in_xs) (first_before y ys x rise_y in_ys))

    later_there : (z : BlockId) → Contains xs z → Contains ys z
    later_there z has = by (Contains-cons_cases y ys z (there z (Contains-tail x xs z has)))
      where
        by : (z ≡ y) ⊎ Contains ys z → Contains ys z
        by (inl e) = absurd (not_before_itself x (subst (IsBefore x) (e ∙ sym same) (first_before x xs z rise_x has)))
        by (inr in_ys) = in_ys

    later_back : (z : BlockId) → Contains ys z → Contains xs z
    later_back z has = by (Contains-cons_cases x xs z (back z (Contains-tail y ys z has)))
      where
        by : (z ≡ x) ⊎ Contains xs z → Contains xs z
        by (inl e) = absurd (not_before_itself y (subst (IsBefore y) (e ∙ same) (first_before y ys z rise_y has)))
        by (inr in_xs) = in_xs

-- ---- an id at its place

ahead : (x : BlockId) (ys : List BlockId) → AllPairs IsBefore ys → ((z : BlockId) → Contains ys z → IsBefore x z) → AllPairs IsBefore (x ∷ ys)
ahead x ys rise before =
    AllPairs-cons IsBefore x ys (λ k d below. before (get_or ys k d) (k, below, get_same ys k d below)) rise
  where
    get_same : (ys : List BlockId) (k : ℕ) (d : BlockId) → k < length ys → get_or ys k (get_or ys k d) ≡ get_or ys k d
    get_same [] k d below = absurd (omega arith)
    get_same (y ∷ ys) zero d below = refl
    get_same (y ∷ ys) (suc k) d below = get_same ys k d (omega arith)

put_cases : (ys : List BlockId) (x z : BlockId) → Contains (insert_key id_cmp ys x) z → (z ≡ x) ⊎ Contains ys z
put_cases ys x z has = by (or_cases (id_eq z x) (is_among ys z) (sym (among_more ys x z) ∙ among_is (insert_key id_cmp ys x) z has))
  where
    by : (id_eq z x ≡ true) ⊎ (is_among ys z ≡ true) → (z ≡ x) ⊎ Contains ys z
    by (inl same) = inl ((id_eq_is_equal z x).0 same)
    by (inr among) = inr (among_has ys z among)

put_rises : (ys : List BlockId) (x : BlockId) → AllPairs IsBefore ys → AllPairs IsBefore (insert_key id_cmp ys x)
put_rises [] x rise = AllPairs-one IsBefore x
put_rises (y ∷ ys) x rise = by (id_cmp x y) refl (put_rises ys x (rest_rises y ys rise))
  where
    by : (o : Ordering) → id_cmp x y ≡ o → AllPairs IsBefore (insert_key id_cmp ys x) → AllPairs IsBefore (match_ordering o (x ∷ y ∷ ys) (y ∷ ys) (y ∷ insert_key id_cmp ys x))
    by Less is later = ahead x (y ∷ ys) rise (λ z has. at z (Contains-cons_cases y ys z has))
      where
        at : (z : BlockId) → (z ≡ y) ⊎ Contains ys z → IsBefore x z
        at z (inl e) = subst (IsBefore x) (sym e) is
        at z (inr rest) = before_trans x y z is (first_before y ys z rise rest)
    by Equal is later = rise
    by Greater is later = ahead y (insert_key id_cmp ys x) later (λ z has. at z (put_cases ys x z has))
      where
        turned : IsBefore y x
        turned = id_cmp_total.antisymm y x ∙ ap ordering_reverse is

        at : (z : BlockId) → (z ≡ x) ⊎ Contains ys z → IsBefore y z
        at z (inl e) = subst (IsBefore y) (sym e) turned
        at z (inr rest) = first_before y ys z rise rest

-- ---- several ids

abbrev pub put_all : (keys ids : List BlockId) → List BlockId
put_all keys ids = fold (insert_key id_cmp) keys ids

all_rise : (ids keys : List BlockId) → AllPairs IsBefore keys → AllPairs IsBefore (put_all keys ids)
all_rise [] keys rise = rise
all_rise (i ∷ ids) keys rise = all_rise ids (insert_key id_cmp keys i) (put_rises keys i rise)

among_all : (ids keys : List BlockId) (j : BlockId) → is_among (put_all keys ids) j ≡ (is_among ids j || is_among keys j)
among_all [] keys j = refl
among_all (i ∷ ids) keys j = among_all ids (insert_key id_cmp keys i) j ∙ ap (λ b. is_among ids j || b) (among_more keys i j) ∙ swapped (is_among ids j) (id_eq j i) (is_among keys j)
  where
    swapped : (a b c : Bool) → (a || (b || c)) ≡ ((b || a) || c)
    swapped true true c = refl
    swapped true false c = refl
    swapped false true c = refl
    swapped false false c = refl

-- what is put to rising ids makes any rising list that has the same
pub put_all_is : (ids keys all : List BlockId) → AllPairs IsBefore keys → AllPairs IsBefore all → ((j : BlockId) → (is_among ids j || is_among keys j) ≡ is_among all j) → put_all keys ids ≡ all
put_all_is ids keys all rise rises same =
    rising_same (put_all keys ids) all (all_rise ids keys rise) rises
    (λ z has. among_has all z (sym (same z) ∙ sym (among_all ids keys z) ∙ among_is (put_all keys ids) z has))
    (λ z has. among_has (put_all keys ids) z (among_all ids keys z ∙ same z ∙ among_is all z has))

-- ids among those that a test keeps
pub among_filtered : (p : BlockId → Bool) (ids : List BlockId) (i : BlockId) → is_among (filter p ids) i ≡ (is_among ids i && p i)
among_filtered p ids i = same_tests (is_among (filter p ids) i) (is_among ids i && p i)
    (λ among. let has = Contains-filter_cases p ids i (among_has (filter p ids) i among) in and_from (is_among ids i) (p i) (among_is ids i has.0) has.1)
    (λ both. let parts = and_parts (is_among ids i) (p i) both in among_is (filter p ids) i (Contains-filter p ids i (among_has ids i parts.0) parts.1))

-- ---- marks that hear a flag of several leaves

pub refined_heard : (ids : List BlockId) (m : MarksValue) → hear_all Refined ids m ≡ record m { refined = record m.refined { heard = put_all m.refined.heard ids } }
refined_heard [] m = refl
refined_heard (i ∷ ids) m = refined_heard ids (record m { refined = record m.refined { heard = insert_key id_cmp m.refined.heard i } })

pub may_heard : (ids : List BlockId) (m : MarksValue) → hear_all May ids m ≡ record m { may = record m.may { heard = put_all m.may.heard ids } }
may_heard [] m = refl
may_heard (i ∷ ids) m = may_heard ids (record m { may = record m.may { heard = insert_key id_cmp m.may.heard i } })

pub merging_heard : (ids : List BlockId) (m : MarksValue) → hear_all Merges ids m ≡ record m { merging = record m.merging { heard = put_all m.merging.heard ids } }
merging_heard [] m = refl
merging_heard (i ∷ ids) m = merging_heard ids (record m { merging = record m.merging { heard = insert_key id_cmp m.merging.heard i } })
