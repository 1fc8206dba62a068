-- Which parties are in a list.
use Rattle.std.proofs.Common.{◌≡◌, ℕ, ◌<◌, ◌≢◌, Bool, true, false, cond, List, [], ◌∷◌, arith, refl, ap, sym, ◌∙◌, subst, ⊎_elim, ne_eqb, eq-eqb, zero-add, true≢false}
use Rattle.std.specs.Prelude.{◌==◌, not, Contains, filter}
use Rattle.std.specs.List.{range_with_len}
use Rattle.std.proofs.lemmas.List.Elements.{All-nil, All-cons, All-contains, All-contains_itself, All-filter, filter_passes, Contains-append_left, Contains-append_right, Contains-append_cases}
use Rattle.std.proofs.lemmas.List.FromFn.{length-range_with_len, get_or-range_with_len}

-- nobody is in the empty list, and one in a list of one
pub none_there : (party : ℕ) → Contains [] party → ⊥
none_there party has = omega (arith, has.1)

pub one_there : (party : ℕ) → Contains (party ∷ []) party
one_there party = (0, omega arith, refl)

pub only_there : (other party : ℕ) → Contains (other ∷ []) party → party ≡ other
only_there other party has = All-contains (λ p. p ≡ other) (other ∷ []) party (All-cons (λ p. p ≡ other) other [] refl (All-nil (λ p. p ≡ other))) has

-- a list that isn't empty has somebody
pub some_there : (parties : List ℕ) → parties ≢ [] → (party : ℕ) × Contains parties party
some_there [] some = absurd (some refl)
some_there (p ∷ ps) some = (p, (0, omega arith, refl))

-- the numbers below a bound
pub below_there : (parties party : ℕ) → party < parties → Contains (range_with_len 0 parties) party
below_there parties party less =
    (party, subst (λ n. party < n) (sym (length-range_with_len 0 parties)) less, get_or-range_with_len 0 parties party party less ∙ zero-add party)

pub there_below : (parties party : ℕ) → Contains (range_with_len 0 parties) party → party < parties
there_below parties party has =
    let less : has.0 < parties = subst (λ n. has.0 < n) (length-range_with_len 0 parties) has.1 in
    let is : has.0 ≡ party = sym (get_or-range_with_len 0 parties has.0 party less ∙ zero-add has.0) ∙ has.2 in
    subst (λ k. k < parties) is less

-- those that pass a test
passing : (test : ℕ → Bool) (ps : List ℕ) (party : ℕ) → Contains (filter test ps) party → Contains ps party × (test party ≡ true)
passing test ps party has = (
  All-contains (Contains ps) (filter test ps) party (All-filter test (Contains ps) ps (All-contains_itself ps)) has,
  All-contains (λ p. test p ≡ true) (filter test ps) party (filter_passes test ps) has,
)

passes : (test : ℕ → Bool) (ps : List ℕ) (party : ℕ) → Contains ps party → test party ≡ true → Contains (filter test ps) party
passes test [] party has ok = absurd (none_there party has)
passes test (p ∷ ps) party has ok = ⊎_elim
    (λ here. let is : party ≡ p = only_there p party here in
    subst (λ b. Contains (cond b (p ∷ filter test ps) (filter test ps)) party) (sym (ap test (sym is) ∙ ok))
    (subst (λ q. Contains (p ∷ filter test ps) q) (sym is) (Contains-append_left (p ∷ []) (filter test ps) p (one_there p))))
    (λ later. with_more (test p) (passes test ps party later ok))
    (Contains-append_cases (p ∷ []) ps party has)
  where
    with_more : (b : Bool) → Contains (filter test ps) party → Contains (cond b (p ∷ filter test ps) (filter test ps)) party
    with_more true there = Contains-append_right (p ∷ []) (filter test ps) party there
    with_more false there = there

-- where one is left out
pub others_there : (party : ℕ) (ps : List ℕ) (other : ℕ) → Contains (filter (λ p. not (p == party)) ps) other → Contains ps other × (other ≢ party)
others_there party ps other has =
    let found = passing (λ p. not (p == party)) ps other has in
    (found.0, λ is. same is found.1)
  where
    same : other ≡ party → not (other == party) ≡ true → ⊥
    same is left = true≢false (sym left ∙ ap not (eq-eqb other party is))

pub others_stay : (party : ℕ) (ps : List ℕ) (other : ℕ) → Contains ps other → other ≢ party → Contains (filter (λ p. not (p == party)) ps) other
others_stay party ps other has ne = passes (λ p. not (p == party)) ps other has (ap not (ne_eqb other party ne))
