use Rattle.std.proofs.Common.{◌≡◌, ◌∙◌, ◌+◌, List, ap, arith, drop, length, map, subst, sym, take}
use Rattle.std.proofs.lemmas.List.{map-id, take_all}
use Rattle.bf_proxy.specs.declared.proxy.Proxy.{Proxy}
use Rattle.bf_proxy_rounds.specs.Calls.{IsGatherable, ProxiesRise}
use Rattle.bf_proxy_rounds.specs.Plays.{all_gathered, gathered_at, Outer}
use Rattle.bf_proxy_rounds.proofs.GatherLemmas.{gathered_more, gathered_rise, split_at}
use Rattle.bf_proxy_rounds.proofs.gathering.gather_all.Goals as goal

pub loop-outer-init : goal.loop-outer-init
loop-outer-init c = sym (map-id c.args.proxies.now)

pub gather_one-requires-clause-rising : goal.gather_one-requires-clause-rising
gather_one-requires-clause-rising c =
    subst ProxiesRise (sym c.loop-outer.invariant) (gathered_rise (take c.loop-outer.outer-index c.args.outers.now) c.args.proxies.now c.requires.rising)

pub gather_one-requires-clause-gatherable : goal.gather_one-requires-clause-gatherable
gather_one-requires-clause-gatherable c =
    let k = c.loop-outer.outer-index in
    let outer : Outer = c.outer-item.result in
    subst (IsGatherable outer) (sym c.loop-outer.invariant)
    (c.requires.each (take k c.args.outers.now) (drop (k + 1) c.args.outers.now) outer (split_at c.args.outers.now k outer c.loop-outer-test.true c.outer-item.is))

pub loop-outer-preserved : goal.loop-outer-preserved
loop-outer-preserved c =
    let outer : Outer = c.outer-item.result in
    c.in_ok-gather_one.ensures
    ∙ ap (map (λ (proxy : Proxy). gathered_at proxy outer)) c.loop-outer.invariant
    ∙ gathered_more c.args.outers.now c.args.proxies.now c.loop-outer.outer-index outer c.loop-outer-test.true c.outer-item.is
