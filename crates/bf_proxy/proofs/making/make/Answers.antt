use Rattle.std.proofs.Common.{◌≡◌, ◌≤◌, ℕ, List, length, map, All, Contains, ◌∙◌, ap, arith, sym, subst}
use Rattle.std.proofs.lemmas.List.Elements.{All-contains, Contains-get_or}
use Rattle.bf_id.specs.Id.{InShape}
use Rattle.bf_case.specs.Regrid.{heirs_by}
use Rattle.bf_links.specs.Links.{touching}
use Rattle.bf_links.specs.declared.link.Link.{Link}
use Rattle.bf_proxy.specs.Joined.{joined}
use Rattle.bf_proxy.specs.Proxies.{first_rank, known_links, made_links, proxies_of, proxy_at, IsLinked}
use Rattle.bf_proxy.proofs.MakeLemmas.{all_made, known_inside, made_link, one_made, proxies_linked}
use Rattle.bf_proxy.proofs.making.make.Goals as goal

pub build-requires-clause-leaves_inside : goal.build-requires-clause-leaves_inside
build-requires-clause-leaves_inside c =
    let known_is : c.as_slice-in-loop-link.result.now ≡ joined (made_links c.first_rank.result c.args.target c.args.id) c.args.near.now =
    c.as_slice-in-loop-link.ensures.value ∙ c.in_ok-known.ensures.joined ∙ ap (λ (ls : List Link). joined ls c.args.near.now) (c.as_slice.ensures.value ∙ c.in_ok-made.ensures) in
    subst (All (λ (link : Link). InShape c.args.shape link.id)) (sym known_is)
    (known_inside c.args.shape c.first_rank.result c.args.target c.args.id c.args.near.now c.requires.inside c.requires.near_inside)

pub build-requires-clause-few : goal.build-requires-clause-few
build-requires-clause-few c =
    let known_is : c.as_slice-in-loop-link.result.now ≡ known_links c.args.target c.args.id c.args.sources.now c.args.near.now =
    c.as_slice-in-loop-link.ensures.value ∙ c.in_ok-known.ensures.joined ∙ ap (λ (ls : List Link). joined ls c.args.near.now) (c.as_slice.ensures.value ∙ c.in_ok-made.ensures)
    ∙ ap (λ (n : ℕ). joined (made_links n c.args.target c.args.id) c.args.near.now) c.first_rank.ensures in
    let made_is : c.as_slice-link-items.result.now ≡ made_links c.first_rank.result c.args.target c.args.id = c.as_slice-link-items.ensures.value ∙ c.in_ok-made.ensures in
    let here : Contains c.as_slice-link-items.result.now c.link-item.result =
    subst (Contains c.as_slice-link-items.result.now) (sym c.link-item.is) (Contains-get_or c.as_slice-link-items.result.now c.loop-link.link-index c.link-item.result c.loop-link-test.true) in
    let heir : Contains (heirs_by c.args.target c.args.id) c.link-item.result.id =
    (made_link c.first_rank.result c.args.target c.args.id c.link-item.result (subst (λ (ls : List Link). Contains ls c.link-item.result) made_is here)).0 in
    subst (λ (ls : List Link). length (touching c.args.shape c.link-item.result.id ls) ≤ 56) (sym known_is)
    (All-contains (λ q. length (touching c.args.shape q (known_links c.args.target c.args.id c.args.sources.now c.args.near.now)) ≤ 56) (heirs_by c.args.target c.args.id) c.link-item.result.id
    c.requires.few heir)

pub loop-link-preserved : goal.loop-link-preserved
loop-link-preserved c =
    let sources : c.in_ok-of.field-0 ≡ c.args.sources.now = c.in_ok-of.ensures in
    let links : c.in_ok-build.field-0 ≡ touching c.args.shape c.link-item.result.id c.in_ok-known.known.items =
    c.in_ok-build.ensures ∙ ap (touching c.args.shape c.link-item.result.id) c.as_slice-in-loop-link.ensures.value in
    one_made (λ (link : Link). proxy_at c.args.shape c.args.target c.args.sources.now c.in_ok-known.known.items link.id) c.as_slice-link-items.result.now c.loop-link.link-index c.link-item.result
    c.loop-link.proxies.items c.push-in-loop-link.new.self.items _ c.loop-link-test.true c.link-item.is c.in_ok-push.ensures.items
    (λ k. record { id = c.link-item.result.id; origin = c.args.target; sources = sources k; links = links k }) c.loop-link.invariant

pub returns : goal.returns
returns c =
    let known_is : c.in_ok-known.known.items ≡ known_links c.args.target c.args.id c.args.sources.now c.args.near.now =
    c.in_ok-known.ensures.joined ∙ ap (λ (ls : List Link). joined ls c.args.near.now) (c.as_slice.ensures.value ∙ c.in_ok-made.ensures)
    ∙ ap (λ (n : ℕ). joined (made_links n c.args.target c.args.id) c.args.near.now) c.first_rank.ensures in
    let all : c.loop-link.proxies.items ≡ proxies_of c.args.shape c.args.id c.args.target c.args.sources.now c.args.near.now =
    c.loop-link.invariant
    ∙ all_made c.args.shape c.args.target c.args.sources.now c.in_ok-known.known.items c.as_slice-link-items.result.now c.first_rank.result c.loop-link.link-index c.args.id
    (omega (arith, c.loop-link-test.false, c.loop-link.auto.link-index-end)) (c.as_slice-link-items.ensures.value ∙ c.in_ok-made.ensures)
    ∙ ap (λ (ls : List Link). map (proxy_at c.args.shape c.args.target c.args.sources.now ls) (heirs_by c.args.target c.args.id)) known_is in
    record {
      proxies = all;
      linked = subst (All (IsLinked c.args.shape c.args.near.now (made_links (first_rank c.args.sources.now) c.args.target c.args.id))) (sym all)
          (proxies_linked c.args.shape c.args.id c.args.target c.args.sources.now c.args.near.now c.requires.others);
    }
