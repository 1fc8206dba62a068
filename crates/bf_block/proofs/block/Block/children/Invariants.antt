use Rattle.std.proofs.Common.{◌≡◌, map}
use Rattle.std.specs.List.{range_with_len}
use Rattle.bf_block.specs.Block.{child_block}
use Rattle.bf_block.proofs.block.Block.children.Given as goal

abbrev pub invariant-loop-octant : goal.invariant-loop-octant
invariant-loop-octant l = l.blocks.items ≡ map (child_block l.self) (range_with_len 0 l.octant)
