use Rattle.bf_world.proofs.ReachedLemmas.{after_reached}
use Rattle.bf_world.proofs.laws.a_journal_leads_the_state_machine.Goals as goal

pub returns : goal.returns
returns g c = λ setup journal legal. let laws = g.met.P.RankProgram.lawful setup in
    after_reached _ _ setup laws.goods laws.stores laws.limits journal legal
