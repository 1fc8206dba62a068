use Rattle.std.proofs.Common.{◌≡◌}
use Rattle.bf_turn.specs.Views.{IsAtRest}
use Rattle.bf_turn.proofs.turns.Turns.take.Given as goal

abbrev pub invariant-loop : goal.invariant-loop
invariant-loop g l = IsAtRest l.inner.me × (l.inner.me.0.known ≡ l.fn.seat.known) × (l.inner.table_id ≡ l.fn.seat.lock)
