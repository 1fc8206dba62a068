-- Ranks that are found one by one, and members that are among them.
use Rattle.std.proofs.Common.{◌≡◌, ℕ, ◌<◌, Bool, true, false, List, [], filter, refl, ap, ◌∙◌, All}
use Rattle.std.specs.Prelude.{◌||◌, ◌&&◌, ◌==◌, not}
use Rattle.std.specs.List.{list_any, range_with_len}
use Rattle.bf_lemmas.proofs.Passes.{passed_start, passed_stays, passed_goes, passed_end}
use Rattle.bf_lemmas.proofs.Tests.{eqb_swap}
use Rattle.bf_buddy.specs.Members.{is_member, with_member, without}
use Rattle.bf_buddy.proofs.MemberLemmas.{all_member, filter_members, member_filter, range_has}
use Rattle.bf_id.specs.Id.{BlockId}
use Rattle.bf_links.specs.Links.{is_owner}
use Rattle.bf_proxy.specs.declared.proxy.Proxy.{Proxy}
use Rattle.bf_migrate_rounds.specs.Holdings.{Plan}
use Rattle.bf_migrate_rounds.specs.Plays.{is_two_way}

-- one more rank
pub member_with : (ranks : List ℕ) (rank other : ℕ) → other < 32 → is_member (with_member ranks rank) other ≡ (is_member ranks other || rank == other)
unfolding with_member
member_with ranks rank other below =
    member_filter (λ member. is_member ranks member || member == rank) (range_with_len 0 32) other
    ∙ ap (λ b. b && (is_member ranks other || other == rank)) (range_has 32 other below)
    ∙ ap (λ b. is_member ranks other || b) (eqb_swap other rank)

-- whether a rank isn't taken out: it is no member, or among the ranks
abbrev pub stays : (ranks members : List ℕ) → (rank : ℕ) → Bool
stays ranks members rank = not (is_member members rank) || is_member ranks rank

pub common_stay : (ranks members : List ℕ) → filter (stays ranks members) members ≡ filter (is_member ranks) members
common_stay ranks members = filter_members (stays ranks members) (is_member ranks) members (λ rank is_in. rw is_in refl)

pub ruleset common_steps = (passed_start, passed_stays, passed_goes, passed_end, common_stay)

-- ---- whom ranks talk to

others_first : (same : Bool) (a b : Bool) → ((a || b) && not same) ≡ (not same && (a || b))
others_first true true b = refl
others_first true false true = refl
others_first true false false = refl
others_first false true b = refl
others_first false false true = refl
others_first false false false = refl

pub two_way_are : (plan : Plan) (members targeted found : List ℕ) → All (λ rank. rank < 32) members
    → ((other : ℕ) → other < 32 → is_member targeted other ≡ (is_member [] other || list_any (λ (target : BlockId × ℕ). target.1 == other) plan.targets))
    → ((other : ℕ) → other < 32 → is_member found other ≡ (is_member targeted other || list_any (λ (proxy : Proxy). is_owner proxy.sources other) plan.proxies))
    → filter (is_member (without found plan.rank)) members ≡ filter (is_two_way plan) members
two_way_are plan members targeted found below by_targets by_sources =
    filter_members (is_member (without found plan.rank)) (is_two_way plan) members (λ other is_in.
    let small : other < 32 = all_member (λ rank. rank < 32) members other below is_in in
    let has_target : Bool = list_any (λ (target : BlockId × ℕ). target.1 == other) plan.targets in
    let has_source : Bool = list_any (λ (proxy : Proxy). is_owner proxy.sources other) plan.proxies in
    member_filter (λ member. not (member == plan.rank)) found other
    ∙ ap (λ b. b && not (other == plan.rank)) (by_sources other small ∙ ap (λ b. b || has_source) (by_targets other small))
    ∙ others_first (other == plan.rank) has_target has_source)
