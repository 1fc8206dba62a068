use Rattle.bf_stages.proofs.SnapshotLemmas.{paired_sight}
use Rattle.bf_stages.proofs.laws.buddies_and_predecessors_are_a_sight.Goals as goal

pub returns : goal.returns
returns c = λ shift members. paired_sight shift members
