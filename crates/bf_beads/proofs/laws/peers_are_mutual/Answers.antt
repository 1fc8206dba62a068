use Rattle.bf_beads.specs.BeadsLaws.{lawful_beads}
use Rattle.bf_beads.proofs.laws.peers_are_mutual.Goals as goal

pub returns : goal.returns
returns c = λ setup. (lawful_beads setup).peers.symmetric
