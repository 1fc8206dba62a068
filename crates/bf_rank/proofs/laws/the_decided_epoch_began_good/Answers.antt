use Rattle.bf_rank.proofs.BeganLemmas.{decided_good}
use Rattle.bf_rank.proofs.laws.the_decided_epoch_began_good.Goals as goal

pub returns : goal.returns
returns g c = λ setup journal legal.
    decided_good g.P.RankProgram.meanings g.P.RankProgram.good setup (c.each_epoch_begins_good.ensures setup) journal legal
