use Rattle.std.proofs.Common.{◌≡◌, map}
use Rattle.bf_block.specs.Block.{BlockValue}
use Rattle.bf_proxy.specs.declared.proxy.Proxy.{Proxy}
use Rattle.bf_migrate_rounds.specs.Plays.{with_links}
use Rattle.bf_migrate_rounds.proofs.unpacking.linked.Given as goal

abbrev pub invariant-loop-proxy : goal.invariant-loop-proxy
invariant-loop-proxy l = l.made.items ≡ map (λ (x : Proxy × BlockValue). with_links x.0 x.1) l.yielded
