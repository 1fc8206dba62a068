use Rattle.bf_rank.proofs.OwnLemmas.{leaving_has_own}
use Rattle.bf_rank.proofs.laws.a_rank_that_must_leave_after_a_commit_has_what_it_owns.Goals as goal

pub returns : goal.returns
returns g c = λ world view unit seen at leaves none commits.
    leaving_has_own _ _ _ world (g.met.P.RankProgram.lawful world.setup) seen view at unit leaves none commits
