use Rattle.bf_world.proofs.EndLemmas.{nothing_waits_at_end}
use Rattle.bf_world.proofs.laws.an_ended_run_has_no_messages.Goals as goal

pub returns : goal.returns
returns g c = λ view outcome is ends. let laws = g.met.P.RankProgram.lawful view.setup in
    nothing_waits_at_end _ _ view.setup laws.goods laws.stores laws.limits view.journal view.waiting outcome is.legal is.queues ends
