use Rattle.bf_world.proofs.LawfulLemmas.{after_lawful, last_good}
use Rattle.bf_world.specs.Runs.{run_after}
use Rattle.bf_world.proofs.laws.the_last_locals_are_good.Goals as goal

pub returns : goal.returns
returns g c = λ setup journal legal. let laws = g.met.P.RankProgram.lawful setup in
    last_good _ _ setup laws.goods laws.stores (run_after _ setup journal) (after_lawful _ _ setup laws.goods laws.stores laws.limits journal legal).steady
