use Rattle.std.proofs.Common.{◌≡◌}
use Rattle.bf_block.specs.Setup.{case_of}
use Rattle.bf_ghost.proofs.tests.blocks.told.Given as goal

abbrev pub invariant-loop-face : goal.invariant-loop-face
invariant-loop-face l = l.shell.side ≡ (case_of l.setup).side
