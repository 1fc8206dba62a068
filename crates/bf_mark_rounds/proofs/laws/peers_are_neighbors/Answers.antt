use Rattle.bf_mark_rounds.proofs.NeighborLemmas.{peers_are}
use Rattle.bf_mark_rounds.specs.Shares.{share}
use Rattle.bf_mark_rounds.proofs.laws.peers_are_neighbors.Goals as goal

pub returns : goal.returns
returns c = λ shape ids w owner told all members rank. peers_are shape ids owner members rank (share shape ids w owner told all rank)
