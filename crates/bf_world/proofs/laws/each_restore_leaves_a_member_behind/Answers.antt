use Rattle.bf_world.proofs.WeightLemmas.{restores_few}
use Rattle.bf_world.proofs.laws.each_restore_leaves_a_member_behind.Goals as goal

pub returns : goal.returns
returns g c = λ setup journal legal. let laws = g.met.P.RankProgram.lawful setup in
    restores_few _ _ setup laws.goods laws.stores laws.peers laws.limits journal legal
