use Rattle.std.proofs.Common.{◌≡◌, ℕ, ◌<◌, take}
use Rattle.std.specs.Prelude.{◌||◌}
use Rattle.bf_buddy.specs.Members.{is_member}
use Rattle.bf_links.specs.Links.{is_owner}
use Rattle.bf_migrate_rounds.proofs.peers.with_owners.Given as goal

abbrev pub invariant-loop-source : goal.invariant-loop-source
invariant-loop-source l = (other : ℕ) → other < 32 → is_member l.found other ≡ (is_member l.fn.ranks other || is_owner (take l.source-index l.sources) other)
