use Rattle.std.proofs.Common.{◌≡◌}
use Rattle.bf_cells.proofs.tests.mirror.Given as goal

abbrev pub invariant-loop-face : goal.invariant-loop-face
invariant-loop-face l = l.shell.side ≡ l.fn.cells.side
