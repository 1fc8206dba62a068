use Rattle.std.proofs.Common.{◌≡◌}
use Rattle.bf_beads.proofs.PeerSteps.{peers_below}
use Rattle.bf_beads.proofs.peers.peers_of.Given as goal

abbrev pub invariant-loop-other : goal.invariant-loop-other
invariant-loop-other l = l.peers ≡ peers_below l.stage l.members l.shift l.local l.other
