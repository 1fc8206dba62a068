use Rattle.std.proofs.Common.{◌≡◌, ℕ}
use Rattle.bf_id.specs.Id.{BlockId}
use Rattle.bf_migrate.specs.Giving.{all_sent}
use Rattle.bf_migrate.specs.Targets.{AreRanked}
use Rattle.bf_migrate.proofs.giving.outgoing.Given as goal

abbrev pub invariant-loop-block : goal.invariant-loop-block
invariant-loop-block l = (rank : BlockId → ℕ) → AreRanked rank l.targets → l.cargo.items ≡ all_sent rank l.yielded
