-- Peers in tests.
use Rattle.std.proofs.Common.{ℕ, zero, suc, ◌+◌, ◌≤◌, ◌<◌, Bool, true, false, cond, not, ◌∷◌, arith}
use Rattle.std.specs.Prelude.{All, ◌==◌, filter}
use Rattle.std.specs.List.{range_with_len}
use Rattle.std.proofs.lemmas.List.Elements.{All-nil, All-cons, All-filter}
use Rattle.bf_buddy.specs.Members.{without}

kept_below : (test : ℕ → Bool) (ranks a n : ℕ) → a + n ≤ ranks → All (λ r. r < ranks) (filter test (range_with_len a n))
kept_below test ranks a zero within = All-nil (λ r. r < ranks)
kept_below test ranks a (suc n) within = by_first (test a) (kept_below test ranks (a + 1) n (omega arith))
  where
    by_first : (b : Bool) → All (λ r. r < ranks) (filter test (range_with_len (a + 1) n))
        → All (λ r. r < ranks) (cond b (a ∷ filter test (range_with_len (a + 1) n)) (filter test (range_with_len (a + 1) n)))
    by_first true rest = All-cons (λ r. r < ranks) a (filter test (range_with_len (a + 1) n)) (omega arith) rest
    by_first false rest = rest

pub others_below : (ranks rank : ℕ) → All (λ r. r < ranks) (without (range_with_len 0 ranks) rank)
others_below ranks rank = kept_below (λ member. not (member == rank)) ranks 0 ranks (omega arith)

pub two_without_below : (ranks rank gone : ℕ) → All (λ r. r < ranks) (without (without (range_with_len 0 ranks) rank) gone)
two_without_below ranks rank gone =
    All-filter (λ member. not (member == gone)) (λ r. r < ranks) (without (range_with_len 0 ranks) rank) (others_below ranks rank)
