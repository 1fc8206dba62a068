use Rattle.bf_world.proofs.DeathLemmas.{after_lives}
use Rattle.bf_world.proofs.losses.a_rank_lives_until_its_death_is_told.Goals as goal

pub returns : goal.returns
returns g c = λ setup journal rank legal below. let laws = g.met.P.RankProgram.lawful setup in
    after_lives _ _ setup laws.goods laws.stores journal legal rank below
