use Rattle.std.proofs.Common.{ℕ, ◌+◌, ◌<◌, slice_index, map}
use Rattle.bf_case.proofs.validity.are_rising.Given as goal

abbrev pub invariant-loop-i : goal.invariant-loop-i
invariant-loop-i l = (k : ℕ) → k + 1 < l.i → slice_index (map (λ (death : ℕ × ℕ). death.0) l.deaths) k < slice_index (map (λ (death : ℕ × ℕ). death.0) l.deaths) (k + 1)
