use Rattle.bf_stages.proofs.SnapshotLemmas.{snapshot_by}
use Rattle.bf_stages.proofs.laws.the_snapshot_round_fills_the_spare_sides.Goals as goal

pub returns : goal.returns
returns g c = λ sees shift epoch sight leaves same owner home_of rise. snapshot_by sees shift epoch sight leaves same owner home_of rise
