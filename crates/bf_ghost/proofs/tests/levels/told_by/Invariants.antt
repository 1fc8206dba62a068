use Rattle.std.proofs.Common.{◌≡◌, take}
use Rattle.bf_ghost.specs.Telling.{strips_by}
use Rattle.bf_ghost.proofs.tests.levels.told_by.Given as goal

abbrev pub invariant-loop-block : goal.invariant-loop-block
invariant-loop-block l = l.strips.items ≡ strips_by (take l.block-index l.blocks) l.target
