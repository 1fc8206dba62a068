use Rattle.bf_program.proofs.LockstepLemmas.{keeps_stored}
use Rattle.bf_program.proofs.laws.the_lockstep_keeps_what_is_stored.Goals as goal

pub returns : goal.returns
returns g c = λ setup. keeps_stored _ _ setup (g.met.P.RankProgram.lawful setup).goods (g.met.P.RankProgram.lawful setup).stores
