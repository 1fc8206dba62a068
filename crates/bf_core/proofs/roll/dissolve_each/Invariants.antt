use Rattle.std.proofs.Common.{◌≡◌, ◌++◌, take, drop}
use Rattle.bf_core.specs.Rolls.{dissolved_in}
use Rattle.bf_core.proofs.roll.dissolve_each.Given as goal

abbrev pub invariant-loop-standing : goal.invariant-loop-standing
invariant-loop-standing l = l.standings ≡ dissolved_in (take l.standing-index l.fn.standings) ++ drop l.standing-index l.fn.standings
