use Rattle.std.proofs.Common.{◌≡◌, take}
use Rattle.bf_plain.specs.Beginning.{roots_after}
use Rattle.bf_plain.proofs.beginning.paint_fills.Given as goal

abbrev pub invariant-loop-fill : goal.invariant-loop-fill
invariant-loop-fill l = l.leaves ≡ roots_after l.case (take l.fill-index l.case.fills)
