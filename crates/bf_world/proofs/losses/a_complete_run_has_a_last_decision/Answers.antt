use Rattle.bf_world.proofs.FateLemmas.{has_last}
use Rattle.bf_world.proofs.losses.a_complete_run_has_a_last_decision.Goals as goal

pub returns : goal.returns
returns g c = λ setup journal home legal complete stored. let laws = g.met.P.RankProgram.lawful setup in
    has_last _ _ setup laws.goods laws.stores laws.limits journal (c.a_complete_run_has_an_end.ensures setup journal home legal complete stored)
