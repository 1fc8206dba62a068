use Rattle.std.proofs.Common.{◌≡◌, ◌≤◌, ◌<◌, ◌∙◌, Contains, List, ap, get_or, length, rules, subst, sym}
use Rattle.std.specs.Prelude.{Ok, Err}
use Rattle.std.proofs.lemmas.List.Elements.{All-contains, Contains-get_or}
use Rattle.std.proofs.lemmas.List.Sorted.{answers_always}
use Rattle.std.proofs.lemmas.Result.{IfOk-weaker}
use Rattle.bf_links.specs.declared.link.Link.{Link}
use Rattle.bf_links.proofs.SearchLemmas.{searched}
use Rattle.bf_proxy.specs.Joined.{joined, AgreeOnOwners}
use Rattle.bf_proxy.specs.Proxies.{gathered}
use Rattle.bf_proxy.specs.declared.proxy.Proxy.{Proxy}
use Rattle.bf_proxy_rounds.proofs.GatherLemmas.{none_gathered, one_gathered}
use Rattle.bf_proxy_rounds.proofs.gathering.gather_one.Goals as goal

pub gather-requires-clause-few : goal.gather-requires-clause-few
gather-requires-clause-few c =
    let by_key = c.in-Ok.ensures.position (λ (proxy : Proxy). proxy.id) (answers_always _ _ _ (λ f a r g called. search rules)) in
    let found = searched (λ (proxy : Proxy). proxy.id) c.args.proxies.now c.parent.result (Ok c.in-Ok.place) c.requires.rising c.in-Ok.ensures.bound by_key in
    let d : Proxy = c.index-proxies-place.result in
    let proxy : Proxy = get_or c.args.proxies.now c.in-Ok.place d in
    subst (λ (ls : List Link). length (joined ls proxy.links) ≤ 56) (sym c.links.ensures)
    (All-contains (λ (p : Proxy). c.args.outer.now.0 ≡ p.id → length (joined c.args.outer.now.1 p.links) ≤ 56) c.args.proxies.now proxy c.requires.gatherable.few
    (Contains-get_or c.args.proxies.now c.in-Ok.place d found.0) (sym (found.1 d ∙ c.parent.ensures)))

pub gather-requires-clause-agree : goal.gather-requires-clause-agree
gather-requires-clause-agree c =
    let by_key = c.in-Ok.ensures.position (λ (proxy : Proxy). proxy.id) (answers_always _ _ _ (λ f a r g called. search rules)) in
    let found = searched (λ (proxy : Proxy). proxy.id) c.args.proxies.now c.parent.result (Ok c.in-Ok.place) c.requires.rising c.in-Ok.ensures.bound by_key in
    let d : Proxy = c.index-proxies-place.result in
    let proxy : Proxy = get_or c.args.proxies.now c.in-Ok.place d in
    subst (λ (ls : List Link). AgreeOnOwners ls proxy.links) (sym c.links.ensures)
    (All-contains (λ (p : Proxy). c.args.outer.now.0 ≡ p.id → AgreeOnOwners c.args.outer.now.1 p.links) c.args.proxies.now proxy c.requires.gatherable.agree
    (Contains-get_or c.args.proxies.now c.in-Ok.place d found.0) (sym (found.1 d ∙ c.parent.ensures)))

pub returns-in-Ok : goal.returns-in-Ok
returns-in-Ok c =
    let by_key = c.in-Ok.ensures.position (λ (proxy : Proxy). proxy.id) (answers_always _ _ _ (λ f a r g called. search rules)) in
    let found = searched (λ (proxy : Proxy). proxy.id) c.args.proxies.now c.parent.result (Ok c.in-Ok.place) c.requires.rising c.in-Ok.ensures.bound by_key in
    let d : Proxy = c.index-proxies-place.result in
    IfOk-weaker c.gather.result _ _
    (λ x is. one_gathered c.args.proxies.now c.args.outer.now c.in-Ok.place d c.gather.new.proxy c.requires.rising found.0 (found.1 d ∙ c.parent.ensures)
    (is ∙ ap (λ (ls : List Link). gathered ls (get_or c.args.proxies.now c.in-Ok.place d)) c.links.ensures))
    c.gather.ensures.ok

pub returns-in-Err : goal.returns-in-Err
returns-in-Err c =
    let by_key = c.in-Err.ensures.position (λ (proxy : Proxy). proxy.id) (answers_always _ _ _ (λ f a r g called. search rules)) in
    let missed = searched (λ (proxy : Proxy). proxy.id) c.args.proxies.now c.parent.result (Err c.in-Err.field-0) c.requires.rising c.in-Err.ensures.bound by_key in
    none_gathered c.args.proxies.now c.args.outer.now (λ k d within same. missed k d within (same ∙ sym c.parent.ensures))
