use Rattle.std.proofs.Common.{arith}
use Rattle.bf_core.proofs.RollLemmas.{dissolve_step}
use Rattle.bf_core.proofs.roll.dissolve_each.Goals as goal

pub loop-standing-preserved : goal.loop-standing-preserved
loop-standing-preserved c =
    dissolve_step _ _ _ _ _ (omega arith) c.loop-standing.invariant c.loop-standing.auto.standings c.after_decision-standing.ensures
