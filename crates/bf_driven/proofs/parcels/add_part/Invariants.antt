use Rattle.std.proofs.Common.{◌≡◌, ◌++◌, map, take}
use Rattle.bf_forest.specs.Leaves.{bare_blocks}
use Rattle.bf_driven.proofs.parcels.add_part.Given as goal

abbrev pub invariant-loop-linked : goal.invariant-loop-linked
invariant-loop-linked l = map (λ block. block.now) l.blocks.items ≡ map (λ block. block.now) l.initial.blocks.items ++ bare_blocks (take l.linked-index l.part)
