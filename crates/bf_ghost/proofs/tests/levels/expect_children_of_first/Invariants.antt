use Rattle.std.proofs.Common.{◌≡◌, map, take}
use Rattle.std.specs.List.{range_with_len}
use Rattle.bf_id.specs.Id.{child_of, root_id}
use Rattle.bf_block.specs.Block.{BlockValue}
use Rattle.bf_ghost.proofs.tests.levels.expect_children_of_first.Given as goal

abbrev pub invariant-loop-octant : goal.invariant-loop-octant
invariant-loop-octant g l = map (λ (b : BlockValue). b.id) (take l.octant l.blocks) ≡ map (child_of (root_id 0)) (range_with_len 0 l.octant)
