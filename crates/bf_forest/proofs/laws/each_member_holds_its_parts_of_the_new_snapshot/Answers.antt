use Rattle.bf_forest.specs.SnapshotLaws.{all_have_new}
use Rattle.bf_forest.proofs.laws.each_member_holds_its_parts_of_the_new_snapshot.Goals as goal

pub returns : goal.returns
returns c = all_have_new
