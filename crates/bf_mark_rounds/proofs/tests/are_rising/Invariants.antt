use Rattle.std.proofs.Common.{ℕ, ◌<◌, get_or}
use Rattle.bf_id.specs.Walk.{IsBefore}
use Rattle.bf_id.specs.Id.{BlockId}
use Rattle.bf_mark_rounds.proofs.tests.are_rising.Given as goal

abbrev pub invariant-loop-place : goal.invariant-loop-place
invariant-loop-place l = (i j : ℕ) (d : BlockId) → i < j → j < l.place → IsBefore (get_or l.ids i d) (get_or l.ids j d)
