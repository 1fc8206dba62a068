use Rattle.bf_rank.proofs.OwnLemmas.{finished_has_nothing}
use Rattle.bf_rank.proofs.laws.a_rank_that_must_leave_a_finished_run_has_no_piece.Goals as goal

pub returns : goal.returns
returns g c = λ world view unit seen at leaves ends.
    finished_has_nothing _ _ _ world (g.met.P.RankProgram.lawful world.setup) seen view at unit leaves ends
