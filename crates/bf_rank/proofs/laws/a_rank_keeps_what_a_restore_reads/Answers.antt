use Rattle.bf_world.specs.Runs.{run_after}
use Rattle.bf_rank.specs.Ranks.{sight}
use Rattle.bf_rank.proofs.ArriveLemmas.{stand_saves}
use Rattle.bf_rank.proofs.laws.a_rank_keeps_what_a_restore_reads.Goals as goal

pub returns : goal.returns
returns g c = λ setup journal view at goes stays fits unfailed. let laws = g.met.P.RankProgram.lawful setup in
    stand_saves g.P.RankProgram.meanings g.P.RankProgram.good setup laws.saves (sight (run_after g.P.RankProgram.meanings setup journal) view.rank) view view.stand goes stays fits unfailed at.agrees
