use Rattle.bf_world.proofs.FateLemmas.{only_lost, decides_lost}
use Rattle.bf_world.proofs.losses.nothing_but_a_loss_follows_where_both_holders_died.Goals as goal

pub returns-clause-ends : goal.returns-clause-ends
returns-clause-ends g c = λ setup journal more home legal none died. let laws = g.met.P.RankProgram.lawful setup in
    only_lost _ _ setup laws.goods laws.stores laws.limits c.nothing_is_lost_where_holders_live.ensures journal more home legal none died

pub returns-clause-decides : goal.returns-clause-decides
returns-clause-decides g c = λ setup journal more event home legal none died decides. let laws = g.met.P.RankProgram.lawful setup in
    decides_lost _ _ setup laws.goods laws.stores laws.limits c.nothing_is_lost_where_holders_live.ensures journal more event home legal none died decides
