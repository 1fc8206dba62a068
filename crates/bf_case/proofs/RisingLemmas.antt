-- The ranks of a list of deaths.
use Rattle.std.proofs.Common.{◌≡◌, ℕ, ◌+◌, ◌-◌, ◌<◌, ◌≤◌, List, length, map, get_or, slice_index, arith, inl, inr, subst}
use Rattle.std.proofs.lemmas.List.{get_or-map}
use Rattle.std.specs.List.Sorted.{IsStrictlyIncreasing}
use Rattle.std.proofs.lemmas.Bool.{cases_lt}

abbrev pub ranks_of : List (ℕ × ℕ) → List ℕ
ranks_of deaths = map (λ (death : ℕ × ℕ). death.0) deaths

-- the rank of a death
pub rank_at : (deaths : List (ℕ × ℕ)) (k : ℕ) → k < length deaths → slice_index (ranks_of deaths) k ≡ (get_or deaths k (0, 0)).0
rank_at deaths k h = get_or-map (λ (death : ℕ × ℕ). death.0) deaths k (0, 0) 0 h

-- a list that rises has no rank that is at most the one before
pub not_rising : (deaths : List (ℕ × ℕ)) (i : ℕ) → 1 ≤ i → i < length deaths
    → (get_or deaths i (0, 0)).0 ≤ (get_or deaths (i - 1) (0, 0)).0 → length (ranks_of deaths) ≡ length deaths
    → IsStrictlyIncreasing (ranks_of deaths) → ⊥
not_rising deaths i some within falls lengths rising =
    let next : i - 1 + 1 ≡ i = omega arith in
    let here = rank_at deaths i within in
    let before = rank_at deaths (i - 1) (omega arith) in
    let up : slice_index (ranks_of deaths) (i - 1) < slice_index (ranks_of deaths) i =
    subst (λ n. slice_index (ranks_of deaths) (i - 1) < slice_index (ranks_of deaths) n) next (rising (i - 1) (omega arith)) in
    omega (arith, here, before, up)

-- one more rank that is above the one before
pub rising_more : (deaths : List (ℕ × ℕ)) (i : ℕ) → 1 ≤ i → i < length deaths
    → (get_or deaths (i - 1) (0, 0)).0 < (get_or deaths i (0, 0)).0
    → ((k : ℕ) → k + 1 < i → slice_index (ranks_of deaths) k < slice_index (ranks_of deaths) (k + 1))
    → (k : ℕ) → k + 1 < i + 1 → slice_index (ranks_of deaths) k < slice_index (ranks_of deaths) (k + 1)
rising_more deaths i some within up below k h =
    elim (cases_lt (k + 1) i) [
      | inl less ↦ below k less
      | inr past ↦
          let last : i - 1 ≡ k = omega arith in
          let next : i ≡ k + 1 = omega arith in
          let here = rank_at deaths i within in
          let before = rank_at deaths (i - 1) (omega arith) in
          let step : slice_index (ranks_of deaths) (i - 1) < slice_index (ranks_of deaths) i = omega (arith, here, before) in
          subst (λ n. slice_index (ranks_of deaths) k < slice_index (ranks_of deaths) n) next
          (subst (λ n. slice_index (ranks_of deaths) n < slice_index (ranks_of deaths) i) last step)
    ]
