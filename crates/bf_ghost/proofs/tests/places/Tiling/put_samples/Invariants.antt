use Rattle.std.proofs.Common.{◌≡◌}
use Rattle.bf_ghost.proofs.tests.places.Tiling.put_samples.Given as goal

abbrev pub invariant-loop-k : goal.invariant-loop-k
invariant-loop-k g l = l.shell.side ≡ l.side
