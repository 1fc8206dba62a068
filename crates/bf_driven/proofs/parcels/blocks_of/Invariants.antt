use Rattle.std.proofs.Common.{◌≡◌, map, take}
use Rattle.bf_driven.specs.Parcels.{blocks_of}
use Rattle.bf_driven.proofs.parcels.blocks_of.Given as goal

abbrev pub invariant-loop-rank : goal.invariant-loop-rank
invariant-loop-rank l = map (λ block. block.now) l.blocks.items ≡ blocks_of (take l._rank-index l.parcels)
