use Rattle.bf_world.proofs.EndLemmas.{peaceful_end}
use Rattle.bf_world.proofs.laws.a_complete_run_without_deaths_ends.Goals as goal

pub returns : goal.returns
returns g c = λ setup journal nobody_dies legal complete. let laws = g.met.P.RankProgram.lawful setup in
    peaceful_end _ _ setup laws.goods laws.stores laws.limits c.nothing_is_lost_where_holders_live.ensures nobody_dies journal legal complete
