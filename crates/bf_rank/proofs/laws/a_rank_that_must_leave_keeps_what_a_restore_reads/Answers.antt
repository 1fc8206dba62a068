use Rattle.bf_core.specs.States.{stage}
use Rattle.bf_rank.specs.Ranks.{sight, last_decided}
use Rattle.bf_rank.proofs.ArriveLemmas.{arrived_saves}
use Rattle.bf_rank.proofs.laws.a_rank_that_must_leave_keeps_what_a_restore_reads.Goals as goal

pub returns : goal.returns
returns g c = λ setup journal view at leaving fits. let laws = g.met.P.RankProgram.lawful setup in
    arrived_saves g.P.RankProgram.meanings g.P.RankProgram.good setup laws.saves (sight (last_decided g.P.RankProgram.meanings setup journal) view.rank) view
    (stage (last_decided g.P.RankProgram.meanings setup journal).core view.rank) fits (at.decided leaving)
