use Rattle.std.proofs.Common.{◌∙◌, map, ap, sym}
use Rattle.std.proofs.lemmas.Iterator.{YieldsList-from_zip}
use Rattle.std.proofs.lemmas.Iterator.Adapters.{YieldsList-from_vec}
use Rattle.std.proofs.lemmas.Iterator.Consumers.{YieldsList-end}
use Rattle.std.proofs.lemmas.Simd.{map-map}
use Rattle.bf_block.specs.Block.{BlockValue}
use Rattle.bf_proxy.specs.declared.proxy.Proxy.{Proxy}
use Rattle.bf_migrate_rounds.specs.Plays.{with_links}
use Rattle.bf_migrate_rounds.proofs.unpacking.linked.Goals as goal

pub returns : goal.returns
returns c =
    let proxies = c.args.proxies.items in
    let blocks = c.args.blocks.items in
    let gives = c.into_iter-proxy-iterator.ensures.into_iter_gives in
    let left = ap (λ z. z.a) gives ∙ c.zip-proxy-items.ensures.first in
    let right = ap (λ z. z.b) gives in
    let road =
    YieldsList-from_zip (YieldsList-from_vec proxies (ap (λ v. v.rest.items) left ∙ c.into_iter.ensures.rest) (ap (λ v. v.rest.len) left ∙ c.into_iter.ensures.len ∙ c.args.proxies.ok.0))
    (YieldsList-from_vec blocks (ap (λ v. v.rest.items) right ∙ c.zip-proxy-items.ensures.second.0) (ap (λ v. v.rest.len) right ∙ c.zip-proxy-items.ensures.second.1 ∙ c.args.blocks.ok.0)) in
    let end = YieldsList-end road c.loop-proxy.yielded c.loop-proxy.proxy-iterator c.loop-proxy.yielded_by c.next.result c.next.new.self c.in-None.is c.next.ensures.steps in
    let link = λ (x : Proxy × BlockValue). with_links x.0 x.1 in
    let pair : Proxy × BlockValue → Proxy × BlockValue = λ x. (x.0, x.1) in
    c.loop-proxy.invariant ∙ sym (map-map link pair c.loop-proxy.yielded) ∙ ap (map link) end.0
