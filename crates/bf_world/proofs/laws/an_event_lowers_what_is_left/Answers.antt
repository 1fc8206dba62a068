use Rattle.bf_world.proofs.WeightLemmas.{journal_falls}
use Rattle.bf_world.proofs.laws.an_event_lowers_what_is_left.Goals as goal

pub returns : goal.returns
returns g c = λ setup journal event told legal. let laws = g.met.P.RankProgram.lawful setup in
    journal_falls _ _ setup laws.goods laws.stores laws.peers laws.limits journal event told legal
