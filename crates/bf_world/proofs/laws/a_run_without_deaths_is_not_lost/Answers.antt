use Rattle.bf_world.proofs.EndLemmas.{stays_peaceful}
use Rattle.bf_world.proofs.laws.a_run_without_deaths_is_not_lost.Goals as goal

pub returns : goal.returns
returns g c = λ setup journal time home buddy nobody_dies legal loses. let laws = g.met.P.RankProgram.lawful setup in
    (stays_peaceful _ _ setup laws.goods laws.stores laws.limits c.nothing_is_lost_where_holders_live.ensures nobody_dies journal legal).unlost time home buddy loses
