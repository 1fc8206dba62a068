use Rattle.bf_world.proofs.SnapshotLemmas.{snapshot_stays}
use Rattle.bf_world.proofs.snapshots.commits_alone_change_the_agreed_snapshot.Goals as goal

pub returns : goal.returns
returns g c = λ setup journal event other. snapshot_stays _ setup journal event other
