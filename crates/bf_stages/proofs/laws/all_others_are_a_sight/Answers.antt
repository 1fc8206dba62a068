use Rattle.bf_stages.proofs.SnapshotLemmas.{others_sight}
use Rattle.bf_stages.proofs.laws.all_others_are_a_sight.Goals as goal

pub returns : goal.returns
returns c = λ shift members. others_sight shift members
