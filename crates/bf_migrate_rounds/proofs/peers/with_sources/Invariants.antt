use Rattle.std.proofs.Common.{◌≡◌, ℕ, ◌<◌, take}
use Rattle.std.specs.Prelude.{◌||◌}
use Rattle.std.specs.List.{list_any}
use Rattle.bf_buddy.specs.Members.{is_member}
use Rattle.bf_links.specs.Links.{is_owner}
use Rattle.bf_proxy.specs.declared.proxy.Proxy.{Proxy}
use Rattle.bf_migrate_rounds.proofs.peers.with_sources.Given as goal

abbrev pub invariant-loop-proxy : goal.invariant-loop-proxy
invariant-loop-proxy l = (other : ℕ) → other < 32
    → is_member l.found other ≡ (is_member l.fn.ranks other || list_any (λ (proxy : Proxy). is_owner proxy.sources other) (take l.proxy-index l.proxies))
