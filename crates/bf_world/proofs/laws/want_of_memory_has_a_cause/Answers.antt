use Rattle.bf_world.proofs.EndLemmas.{memory_caused}
use Rattle.bf_world.proofs.laws.want_of_memory_has_a_cause.Goals as goal

pub returns : goal.returns
returns g c = λ setup journal legal ends. let laws = g.met.P.RankProgram.lawful setup in
    memory_caused _ _ setup laws.goods laws.stores journal legal ends
