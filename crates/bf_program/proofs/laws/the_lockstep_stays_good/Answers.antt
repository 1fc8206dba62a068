use Rattle.bf_program.proofs.LockstepLemmas.{stays_good}
use Rattle.bf_program.proofs.laws.the_lockstep_stays_good.Goals as goal

pub returns : goal.returns
returns g c = λ setup. stays_good _ _ setup (g.met.P.RankProgram.lawful setup).goods
