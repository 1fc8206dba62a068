use Rattle.std.proofs.Common.{◌≡◌}
use Rattle.bf_block.specs.Eighth.{means_in}
use Rattle.bf_block.proofs.JoinedLemmas.{AreJoined}
use Rattle.bf_block.proofs.merging.joined.Given as goal

abbrev pub invariant-loop-octant : goal.invariant-loop-octant
invariant-loop-octant l = record { side : l.cells.side ≡ l.side; joined : AreJoined (means_in l.parts) l.octant l.cells }
