use Rattle.std.proofs.Common.{◌≡◌, ℕ, ◌<◌, take}
use Rattle.std.specs.Prelude.{◌==◌, ◌||◌}
use Rattle.std.specs.List.{list_any}
use Rattle.bf_buddy.specs.Members.{is_member}
use Rattle.bf_id.specs.Id.{BlockId}
use Rattle.bf_migrate_rounds.proofs.peers.with_targets.Given as goal

abbrev pub invariant-loop-target : goal.invariant-loop-target
invariant-loop-target l = (other : ℕ) → other < 32
    → is_member l.found other ≡ (is_member l.fn.ranks other || list_any (λ (target : BlockId × ℕ). target.1 == other) (take l.target-index l.targets))
