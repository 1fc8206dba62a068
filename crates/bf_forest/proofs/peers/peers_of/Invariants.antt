use Rattle.std.proofs.Common.{◌≡◌}
use Rattle.bf_lemmas.proofs.Passes.{passed_below}
use Rattle.bf_forest.specs.Peers.{is_peer}
use Rattle.bf_forest.proofs.PeerSteps.{stays}
use Rattle.bf_forest.proofs.peers.peers_of.Given as goal

abbrev pub invariant-loop-other : goal.invariant-loop-other
invariant-loop-other l = l.peers ≡ passed_below (stays (is_peer l.stage l.members l.shift l.local) l.members) l.members l.other
