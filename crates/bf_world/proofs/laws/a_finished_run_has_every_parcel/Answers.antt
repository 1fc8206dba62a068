use Rattle.bf_world.proofs.ResultLemmas.{after_result}
use Rattle.bf_world.proofs.laws.a_finished_run_has_every_parcel.Goals as goal

pub returns : goal.returns
returns g c = λ setup journal legal ends. let laws = g.met.P.RankProgram.lawful setup in
    (after_result _ _ setup laws.goods laws.stores laws.limits journal legal).finished ends
