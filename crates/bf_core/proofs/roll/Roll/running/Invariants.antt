use Rattle.std.proofs.Common.{◌≡◌}
use Rattle.bf_core.specs.Rolls.{opening_in}
use Rattle.bf_core.proofs.roll.Roll.running.Given as goal

abbrev pub invariant-loop-rank : goal.invariant-loop-rank
invariant-loop-rank l = l.standings.items ≡ opening_in l.rank l.dies
