use Rattle.bf_rank.proofs.PassLemmas.{goes_past}
use Rattle.std.proofs.Common.{arith}
use Rattle.bf_rank.proofs.rounds.pass_rounds.Goals as goal

pub returns : goal.returns
returns g c = λ seen rank begins.
    goes_past _ _ _ seen _ rank _ _ _ (c.loop-round.invariant.all seen rank begins) (omega (arith, c.rounds-rounds.ensures, c.loop-round-test.false))
