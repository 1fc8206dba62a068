use Rattle.bf_world.proofs.WeightLemmas.{journal_short}
use Rattle.bf_world.proofs.laws.a_journal_is_bounded.Goals as goal

pub returns : goal.returns
returns g c = λ setup journal rounds few legal. let laws = g.met.P.RankProgram.lawful setup in
    journal_short _ _ setup laws.goods laws.stores laws.peers laws.limits rounds few journal legal
