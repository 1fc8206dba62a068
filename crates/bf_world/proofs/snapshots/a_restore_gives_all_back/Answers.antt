use Rattle.bf_world.proofs.SnapshotLemmas.{restores_all}
use Rattle.bf_world.proofs.snapshots.a_restore_gives_all_back.Goals as goal

pub returns : goal.returns
returns g c = λ setup journal event legal restores. let laws = g.met.P.RankProgram.lawful setup in
    restores_all _ _ setup laws.goods laws.stores laws.limits journal event legal laws.parts (c.a_restore_gives_each_part_once.ensures setup) restores
