use Rattle.bf_world.proofs.PeaceLemmas.{restores_nothing}
use Rattle.bf_world.proofs.laws.a_run_without_deaths_has_no_restore.Goals as goal

pub returns : goal.returns
returns g c = λ setup journal nobody_dies legal. let laws = g.met.P.RankProgram.lawful setup in
    restores_nothing _ _ setup laws.goods laws.stores c.nothing_is_lost_where_holders_live.ensures laws.limits nobody_dies journal legal
