use Rattle.bf_rank.proofs.OwnLemmas.{staying_has_own}
use Rattle.bf_rank.proofs.laws.a_rank_has_what_it_owns.Goals as goal

pub returns : goal.returns
returns g c = λ world view unit seen at goes stays unfailed.
    staying_has_own _ _ _ world (g.met.P.RankProgram.lawful world.setup) seen view at unit goes stays unfailed
