use Rattle.bf_forest.specs.SnapshotLaws.{all_copied_after}
use Rattle.bf_forest.proofs.laws.a_snapshot_leaves_copies_at_buddies.Goals as goal

pub returns : goal.returns
returns c = all_copied_after
