use Rattle.bf_forest.specs.SnapshotLaws.{snapshot_peers}
use Rattle.bf_forest.proofs.laws.a_snapshots_peers_are_partners.Goals as goal

pub returns : goal.returns
returns c = snapshot_peers
