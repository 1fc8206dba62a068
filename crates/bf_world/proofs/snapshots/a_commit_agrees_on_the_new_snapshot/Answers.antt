use Rattle.bf_world.proofs.SnapshotLemmas.{all_live, agrees}
use Rattle.bf_world.proofs.snapshots.a_commit_agrees_on_the_new_snapshot.Goals as goal

pub returns-clause-all_live : goal.returns-clause-all_live
returns-clause-all_live g c = λ setup journal event legal commits. let laws = g.met.P.RankProgram.lawful setup in
    all_live _ _ setup laws.goods laws.stores laws.limits journal event legal commits

pub returns-clause-agreed : goal.returns-clause-agreed
returns-clause-agreed g c = λ setup journal event legal commits goes_on. let laws = g.met.P.RankProgram.lawful setup in
    agrees _ _ setup laws.goods laws.stores laws.limits journal event legal commits goes_on
