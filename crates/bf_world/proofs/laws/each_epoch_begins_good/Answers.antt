use Rattle.bf_world.proofs.LawfulLemmas.{after_lawful}
use Rattle.bf_world.proofs.laws.each_epoch_begins_good.Goals as goal

pub returns : goal.returns
returns g c = λ setup journal legal. let laws = g.met.P.RankProgram.lawful setup in
    (after_lawful _ _ setup laws.goods laws.stores laws.limits journal legal).steady.good_start
