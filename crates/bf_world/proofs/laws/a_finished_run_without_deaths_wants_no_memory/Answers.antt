use Rattle.bf_world.proofs.WantLemmas.{finished_fits}
use Rattle.bf_world.proofs.laws.a_finished_run_without_deaths_wants_no_memory.Goals as goal

pub returns : goal.returns
returns g c = λ setup journal legal ends lives. let laws = g.met.P.RankProgram.lawful setup in
    finished_fits _ _ setup laws.goods laws.stores laws.limits journal legal ends lives
