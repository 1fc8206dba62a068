use Rattle.std.proofs.Common.{ap, subst}
use Rattle.bf_core.specs.States.{stage}
use Rattle.bf_world.specs.Runs.{run_after}
use Rattle.bf_world.specs.Worlds.{core_after}
use Rattle.bf_rank.specs.Ranks.{sight, last_decided, Agrees}
use Rattle.bf_rank.proofs.ArriveLemmas.{short_has_none, short_stand_has_none}
use Rattle.bf_rank.proofs.laws.a_rank_without_memory_has_no_local.Goals as goal

pub returns-clause-failed : goal.returns-clause-failed
returns-clause-failed g c = λ setup journal view at fails.
    (subst (Agrees g.P.RankProgram.meanings g.P.RankProgram.good setup (sight (run_after g.P.RankProgram.meanings setup journal) view.rank) view) fails at.agrees).1

pub returns-clause-arrived : goal.returns-clause-arrived
returns-clause-arrived g c = λ setup journal view at short.
    short_stand_has_none g.P.RankProgram.meanings g.P.RankProgram.good setup (sight (run_after g.P.RankProgram.meanings setup journal) view.rank) view view.stand short at.agrees

pub returns-clause-leaves : goal.returns-clause-leaves
returns-clause-leaves g c = λ setup journal view at leaves short.
    short_has_none g.P.RankProgram.meanings g.P.RankProgram.good setup (sight (last_decided g.P.RankProgram.meanings setup journal) view.rank) view
    (stage (last_decided g.P.RankProgram.meanings setup journal).core view.rank) short (at.decided leaves)
