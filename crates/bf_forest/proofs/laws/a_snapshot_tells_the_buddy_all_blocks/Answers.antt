use Rattle.bf_forest.specs.SnapshotLaws.{told_buddy, told_others}
use Rattle.bf_forest.proofs.laws.a_snapshot_tells_the_buddy_all_blocks.Goals as goal

pub returns : goal.returns
returns c = record { to_buddy = told_buddy; to_others = told_others }
