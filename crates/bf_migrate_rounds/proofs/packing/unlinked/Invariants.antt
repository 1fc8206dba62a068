use Rattle.std.proofs.Common.{◌≡◌}
use Rattle.bf_migrate_rounds.specs.Holdings.{blocks_in}
use Rattle.bf_migrate_rounds.proofs.packing.unlinked.Given as goal

abbrev pub invariant-loop-block : goal.invariant-loop-block
invariant-loop-block l = l.bare.items ≡ blocks_in l.yielded
