use Rattle.std.proofs.Common.{◌≡◌, ◌≤◌, ◌∙◌, ◌++◌, List, All, Contains, ap, length, subst, sym}
use Rattle.bf_case.specs.Regrid.{heirs_by}
use Rattle.bf_case.specs.declared.target.Target.{Target}
use Rattle.bf_links.specs.Links.{touching}
use Rattle.bf_links.specs.declared.link.Link.{Link}
use Rattle.bf_marks.specs.Marks.{target_by}
use Rattle.bf_proxy.specs.Proxies.{known_links}
use Rattle.bf_proxy_rounds.specs.Calls.{near_by, sources_of}
use Rattle.bf_proxy_rounds.proofs.making.make_of.Goals as goal

pub make-requires-clause-others : goal.make-requires-clause-others
make-requires-clause-others c =
    let homes : List Link = c.args.own.now ++ c.args.heard.now in
    let near : c.as_slice-2.result.now ≡ near_by c.args.marks.now homes c.args.id c.args.links.now = c.as_slice-2.ensures.value ∙ c.in_ok-near.ensures.near in
    subst (λ (t : Target). All (λ (link : Link). Contains (heirs_by t c.args.id) link.id → ⊥) c.as_slice-2.result.now) (sym c.target-target.ensures)
    (subst (All (λ (link : Link). Contains (heirs_by (target_by c.args.marks.now c.args.id) c.args.id) link.id → ⊥)) (sym near) c.requires.makable.others)

pub make-requires-clause-few : goal.make-requires-clause-few
make-requires-clause-few c =
    let homes : List Link = c.args.own.now ++ c.args.heard.now in
    let i = c.args.id in
    let near : c.as_slice-2.result.now ≡ near_by c.args.marks.now homes i c.args.links.now = c.as_slice-2.ensures.value ∙ c.in_ok-near.ensures.near in
    let sources : c.as_slice.result.now ≡ sources_of (c.args.rank) (target_by c.args.marks.now i) i c.args.links.now =
    c.as_slice.ensures.value ∙ c.in_ok-sources.ensures ∙ ap (λ (t : Target). sources_of c.args.rank t i c.args.links.now) c.target-target.ensures in
    subst (λ (t : Target). All (λ q. length (touching c.args.shape q (known_links t i c.as_slice.result.now c.as_slice-2.result.now)) ≤ 56) (heirs_by t i)) (sym c.target-target.ensures)
    (subst (λ (ls : List Link). All (λ q. length (touching c.args.shape q (known_links (target_by c.args.marks.now i) i ls c.as_slice-2.result.now)) ≤ 56) (heirs_by (target_by c.args.marks.now i) i)) (sym sources)
    (subst (λ (ls : List Link). All (λ q. length (touching c.args.shape q (known_links (target_by c.args.marks.now i) i (sources_of c.args.rank (target_by c.args.marks.now i) i c.args.links.now) ls)) ≤ 56)
    (heirs_by (target_by c.args.marks.now i) i)) (sym near) c.requires.makable.few))
