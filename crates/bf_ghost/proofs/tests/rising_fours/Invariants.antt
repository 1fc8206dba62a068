use Rattle.std.proofs.Common.{◌≡◌}
use Rattle.bf_ghost.proofs.tests.rising_fours.Given as goal

abbrev pub invariant-loop-k : goal.invariant-loop-k
invariant-loop-k l = l.cells.side ≡ 4
