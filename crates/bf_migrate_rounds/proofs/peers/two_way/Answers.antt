use Rattle.std.proofs.Common.{◌≡◌, ℕ, ◌<◌, ◌∙◌, List, [], filter, ap, subst}
use Rattle.std.specs.Prelude.{◌||◌, ◌==◌}
use Rattle.std.specs.List.{list_any}
use Rattle.bf_buddy.specs.Members.{is_member}
use Rattle.bf_id.specs.Id.{BlockId}
use Rattle.bf_migrate_rounds.specs.Calls.{plan_of}
use Rattle.bf_migrate_rounds.proofs.CommonLemmas.{two_way_are}
use Rattle.bf_migrate_rounds.proofs.peers.two_way.Goals as goal

pub returns : goal.returns
returns c =
    let members : List ℕ = c.args.members in
    let targets : List (BlockId × ℕ) = c.args.targets.now in
    let targeted : (other : ℕ) → other < 32 → is_member c.with_targets.result other ≡ (is_member [] other || list_any (λ (target : BlockId × ℕ). target.1 == other) targets) =
    subst (λ (ranks : List ℕ). (other : ℕ) → other < 32
    → is_member c.with_targets.result other ≡ (is_member ranks other || list_any (λ (target : BlockId × ℕ). target.1 == other) targets)) c.all.ensures c.with_targets.ensures in
    c.among.ensures ∙ ap (λ (ranks : List ℕ). filter (is_member ranks) members) c.without.ensures
    ∙ two_way_are (plan_of c.args.rank targets c.args.proxies.now) members c.with_targets.result c.with_sources-found.result c.count.ensures.below targeted c.with_sources-found.ensures
