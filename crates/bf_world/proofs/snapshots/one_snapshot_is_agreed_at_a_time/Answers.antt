use Rattle.bf_world.proofs.SnapshotLemmas.{stays_told}
use Rattle.bf_world.proofs.snapshots.one_snapshot_is_agreed_at_a_time.Goals as goal

pub returns : goal.returns
returns g c = λ setup journal event quiet. stays_told _ setup journal event quiet
