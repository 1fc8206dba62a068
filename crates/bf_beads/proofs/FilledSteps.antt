-- Which ranks have a bead at the opening.
use Rattle.std.proofs.Common.{◌≡◌, ℕ, suc, zero, ◌+◌, ◌%◌, ◌<◌, ◌≤◌, min, true, false, [], ◌∷◌, arith, refl, ap, sym, ◌∙◌}
use Rattle.std.specs.Prelude.{◌==◌, nat_lt, filter}
use Rattle.std.specs.List.{range_with_len}
use Rattle.std.proofs.lemmas.Bool.{cases_lt, eq-eqb}
use Rattle.std.proofs.lemmas.Bool.Decides.{nat_tests}
use Rattle.std.proofs.Math.Nat.{mod-eq_of_lt}
use Rattle.std.proofs.lemmas.List.Folds.{list_any_none}
use Rattle.std.proofs.Common.{inl, inr}
use Rattle.bf_parts.specs.Leaves.{is_filled}
use Rattle.bf_lemmas.proofs.Lists.{filter_alike}
use Rattle.bf_buddy.proofs.MemberLemmas.{all_members, range_any, range_within}
use Rattle.bf_beads.specs.declared.setup.BeadSetup.{BeadSetup}
use Rattle.bf_beads.specs.Meanings.{beads}
use Rattle.bf_beads.specs.Row.{row, beads_at, home_in}

-- a rank is filled that is below the number of beads
filled_is : (count ranks rank : ℕ) → rank < ranks → is_filled (beads_at count 0) (home_in ranks) rank ≡ nat_lt rank (min count ranks)
unfolding is_filled row
filled_is count ranks rank below =
    elim (cases_lt rank count) [
      | inl few ↦ range_any (λ k. k % ranks == rank) 0 count rank (omega arith) (omega (arith, few)) (eq-eqb (rank % ranks) rank (mod-eq_of_lt below)) ∙ sym (yes few)
      | inr many ↦ list_any_none (λ k. k % ranks == rank) (range_with_len 0 count)
          (all_members (λ k. (k % ranks == rank) ≡ false) (range_with_len 0 count) (λ k is_in. let low : k < 0 + count = range_within 0 count k is_in in other k (omega (arith, low, many, below)) (omega (arith, low, many)))) ∙ sym (no many)
    ]
  where
    yes : rank < count → nat_lt rank (min count ranks) ≡ true
    yes few = let least : rank < min count ranks = omega (arith, few, below) in grind (arith, nat_tests, least)

    no : count ≤ rank → nat_lt rank (min count ranks) ≡ false
    no many = let least : min count ranks ≤ rank = omega (arith, many) in grind (arith, nat_tests, least)

    other : (k : ℕ) → k < ranks → k < rank → (k % ranks == rank) ≡ false
    other k in_ranks low = let same : k % ranks ≡ k = mod-eq_of_lt in_ranks in rw same (grind (arith, nat_tests))

-- the ranks below a bound
lower_none : (bound first count : ℕ) → bound ≤ first → filter (λ rank. nat_lt rank bound) (range_with_len first count) ≡ []
lower_none bound first zero low = refl
lower_none bound first (suc count) low =
    let here : nat_lt first bound ≡ false = grind (arith, nat_tests) in
    let later : filter (λ rank. nat_lt rank bound) (range_with_len (first + 1) count) ≡ [] = lower_none bound (first + 1) count (omega arith) in
    rw (here, later) refl

lower_part : (bound first few count : ℕ) → bound ≡ first + few → few ≤ count → filter (λ rank. nat_lt rank bound) (range_with_len first count) ≡ range_with_len first few
lower_part bound first zero count is within = lower_none bound first count (omega arith)
lower_part bound first (suc few) zero is within = absurd (omega arith)
lower_part bound first (suc few) (suc count) is within =
    let here : nat_lt first bound ≡ true = grind (arith, nat_tests) in
    let later : filter (λ rank. nat_lt rank bound) (range_with_len (first + 1) count) ≡ range_with_len (first + 1) few = lower_part bound (first + 1) few count (omega arith) (omega arith) in
    rw here (ap (λ rest. first ∷ rest) later)

pub laid_is : (setup : BeadSetup) → range_with_len 0 (min setup.beads setup.ranks) ≡ beads.laid setup
laid_is setup =
    sym (filter_alike (λ rank. rank < setup.ranks) (is_filled (beads_at setup.beads 0) (home_in setup.ranks)) (λ rank. nat_lt rank (min setup.beads setup.ranks))
    (λ rank below. filled_is setup.beads setup.ranks rank below) (range_with_len 0 setup.ranks)
    (all_members (λ rank. rank < setup.ranks) (range_with_len 0 setup.ranks) (λ rank is_in. let low : rank < 0 + setup.ranks = range_within 0 setup.ranks rank is_in in omega (arith, low)))
    ∙ lower_part (min setup.beads setup.ranks) 0 (min setup.beads setup.ranks) setup.ranks (omega arith) (omega arith))
