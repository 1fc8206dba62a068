use Rattle.std.proofs.Common.{◌≡◌}
use Rattle.bf_migrate_rounds.specs.Plays.{cargo_for, cargo_without}
use Rattle.bf_migrate_rounds.proofs.packing.take_for.Given as goal

abbrev pub invariant-loop-rank : goal.invariant-loop-rank
invariant-loop-rank l = record { taken : l.taken.items ≡ cargo_for l.to l.yielded; left : l.left.items ≡ cargo_without l.to l.yielded }
