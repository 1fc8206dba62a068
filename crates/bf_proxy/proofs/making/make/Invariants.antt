use Rattle.std.proofs.Common.{◌≡◌, map, take}
use Rattle.bf_links.specs.declared.link.Link.{Link}
use Rattle.bf_proxy.specs.Proxies.{proxy_at}
use Rattle.bf_proxy.proofs.making.make.Given as goal

abbrev pub invariant-loop-link : goal.invariant-loop-link
invariant-loop-link l = l.proxies.items ≡ map (λ (link : Link). proxy_at l.shape l.target l.sources l.known.items link.id) (take l.link-index l.link-items)
