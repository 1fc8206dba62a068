use Rattle.std.proofs.Common.{◌≡◌}
use Rattle.bf_migrate_rounds.specs.Holdings.{loads}
use Rattle.bf_migrate_rounds.proofs.unpacking.on_hand.Given as goal

abbrev pub invariant-loop-part : goal.invariant-loop-part
invariant-loop-part l = l.parts.items ≡ loads l.yielded
