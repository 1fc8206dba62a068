use Rattle.std.proofs.Common.{◌≡◌}
use Rattle.bf_plain.specs.Rebuild.{rebuilt}
use Rattle.bf_plain.proofs.rebuild.rebuild.Given as goal

abbrev pub invariant-loop-leaf : goal.invariant-loop-leaf
invariant-loop-leaf l = l.new.items ≡ rebuilt l.case.side l.yielded
