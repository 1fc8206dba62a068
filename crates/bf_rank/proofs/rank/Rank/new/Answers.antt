use Rattle.bf_rank.proofs.OpenLemmas.{opens_at}
use Rattle.bf_rank.proofs.rank.Rank.new.Goals as goal

pub returns-clause-at : goal.returns-clause-at
returns-clause-at g c = λ setup ranked is its. opens_at _ _ setup (g.met.P.RankProgram.lawful setup).saves _ _ _ ranked is its
