use Rattle.std.proofs.Common.{◌∙◌}
use Rattle.bf_world.proofs.LawfulLemmas.{after_lawful}
use Rattle.bf_world.proofs.ResultLemmas.{after_result}
use Rattle.bf_world.proofs.laws.a_finished_run_is_at_its_end.Goals as goal

pub returns : goal.returns
returns g c = λ setup journal legal ends. let laws = g.met.P.RankProgram.lawful setup in
    (after_result _ _ setup laws.goods laws.stores laws.limits journal legal).at_end ends
    ∙ (after_lawful _ _ setup laws.goods laws.stores laws.limits journal legal).steady.steps
