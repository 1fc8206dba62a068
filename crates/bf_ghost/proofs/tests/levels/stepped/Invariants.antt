use Rattle.std.proofs.Common.{◌≡◌, All}
use Rattle.bf_block.specs.Block.{BlockValue, before_regrid}
use Rattle.bf_block.specs.Setup.{case_of}
use Rattle.bf_ghost.proofs.tests.levels.stepped.Given as goal

abbrev pub invariant-loop-block : goal.invariant-loop-block
invariant-loop-block l = record {
  side : l.shell.side ≡ (case_of l.setup).side;
  cases : All (λ (b : BlockValue). b.case ≡ case_of l.setup) l.next.items;
  points : All (λ (b : BlockValue). b.point ≡ before_regrid 1) l.next.items;
}
