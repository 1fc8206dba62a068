use Rattle.bf_world.proofs.FateLemmas.{lost_exactly, lost_named}
use Rattle.bf_world.proofs.losses.a_run_is_lost_exactly_where_both_holders_died.Goals as goal

pub returns-clause-lost : goal.returns-clause-lost
returns-clause-lost g c = λ setup journal last legal. let laws = g.met.P.RankProgram.lawful setup in
    lost_exactly _ _ setup laws.goods laws.stores laws.limits journal legal last c.nothing_is_lost_where_holders_live.ensures

pub returns-clause-named : goal.returns-clause-named
returns-clause-named g c = λ setup journal last time home buddy legal. let laws = g.met.P.RankProgram.lawful setup in
    lost_named _ _ setup laws.goods laws.stores laws.limits journal legal last c.nothing_is_lost_where_holders_live.ensures time home buddy
