use Rattle.std.proofs.Common.{◌≡◌}
use Rattle.bf_ghost.proofs.tests.tilings.jumping.Given as goal

abbrev pub invariant-loop-k : goal.invariant-loop-k
invariant-loop-k g l = l.cells.side ≡ l.side
