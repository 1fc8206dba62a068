use Rattle.std.proofs.Common.{◌≡◌, map, take}
use Rattle.bf_block.specs.Eighth.{eighth_of}
use Rattle.bf_ghost.proofs.tests.levels.eighths.Given as goal

abbrev pub invariant-loop-block : goal.invariant-loop-block
invariant-loop-block l = l.parts.items ≡ map eighth_of (take l.block-index l.blocks)
