use Rattle.bf_world.proofs.LawfulLemmas.{after_lawful}
use Rattle.bf_world.proofs.snapshots.what_is_stored_is_in_the_first_locals.Goals as goal

pub returns : goal.returns
returns g c = λ setup journal legal. let laws = g.met.P.RankProgram.lawful setup in
    (after_lawful _ _ setup laws.goods laws.stores laws.limits journal legal).steady.stored
