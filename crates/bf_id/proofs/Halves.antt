-- Halves of a stretch along one axis.
use Rattle.std.proofs.Common.{◌≡◌, ℕ, zero, suc, ◌+◌, ◌*◌, ◌/◌, ◌<◌, ◌≤◌, ◌⊎◌, inl, inr, refl, arith}
use Rattle.std.proofs.lemmas.Bool.{cases_lt}
use Rattle.bf_id.specs.Cube.{Spans, Meets}

-- a step of 0 or 1 halves stays within the whole
pub half_within : (low edge step : ℕ) → step < 2 → (low ≤ low + step * (edge / 2)) × (low + step * (edge / 2) + edge / 2 ≤ low + edge)
half_within low edge zero h = omega arith
half_within low edge (suc zero) h = omega arith
half_within low edge (suc (suc step)) h = absurd (omega arith)

-- each unit of an even stretch is in one of its halves
pub half_of : (low edge u : ℕ) → edge / 2 + edge / 2 ≡ edge → Spans low edge u → (step : ℕ) × (step < 2) × Spans (low + step * (edge / 2)) (edge / 2) u
half_of low edge u even spans = at (cases_lt u (low + edge / 2))
  where
    at : (u < low + edge / 2) ⊎ (low + edge / 2 ≤ u) → (step : ℕ) × (step < 2) × Spans (low + step * (edge / 2)) (edge / 2) u
    at (inl below) = (0, omega arith, omega arith)
    at (inr above) = (1, omega arith, omega arith)

-- a stretch that an even stretch meets meets one of its halves
pub half_meeting : (low edge other length : ℕ) → edge / 2 + edge / 2 ≡ edge → Meets low edge other length → (step : ℕ) × (step < 2) × Meets (low + step * (edge / 2)) (edge / 2) other length
half_meeting low edge other length even meets = at (cases_lt other (low + edge / 2))
  where
    at : (other < low + edge / 2) ⊎ (low + edge / 2 ≤ other) → (step : ℕ) × (step < 2) × Meets (low + step * (edge / 2)) (edge / 2) other length
    at (inl below) = (0, omega arith, omega arith)
    at (inr above) = (1, omega arith, omega arith)

-- a unit is in one half at most
pub half_is_one : (low half u a b : ℕ) → a < 2 → b < 2 → Spans (low + a * half) half u → Spans (low + b * half) half u → a ≡ b
half_is_one low half u zero zero p q s t = refl
half_is_one low half u zero (suc zero) p q s t = absurd (omega arith)
half_is_one low half u (suc zero) zero p q s t = absurd (omega arith)
half_is_one low half u (suc zero) (suc zero) p q s t = refl
half_is_one low half u (suc (suc a)) b p q s t = absurd (omega arith)
half_is_one low half u zero (suc (suc b)) p q s t = absurd (omega arith)
half_is_one low half u (suc zero) (suc (suc b)) p q s t = absurd (omega arith)
