use Rattle.std.proofs.Common.{◌≡◌, ℕ, ◌++◌, map}
use Rattle.bf_id.specs.Id.{BlockId}
use Rattle.bf_migrate.specs.Giving.{sent_to, whole}
use Rattle.bf_migrate.specs.Targets.{AreRanked}
use Rattle.bf_migrate.proofs.giving.give_children.Given as goal

abbrev pub invariant-loop-child : goal.invariant-loop-child
invariant-loop-child l = (rank : BlockId → ℕ) → AreRanked rank l.targets
    → l.cargo.items ≡ l.fn.cargo.items ++ map (λ b. sent_to rank (whole b)) l.yielded
