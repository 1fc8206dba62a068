use Rattle.bf_stages.proofs.SnapshotLemmas.{snapshot_weighs}
use Rattle.bf_stages.proofs.laws.copies_are_no_items.Goals as goal

pub returns : goal.returns
returns g c = λ sees shift epoch test. snapshot_weighs sees shift epoch test
