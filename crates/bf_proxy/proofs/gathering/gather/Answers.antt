use Rattle.std.proofs.Common.{◌≡◌, ◌⊎◌, ◌↔◌, ◌∙◌, Contains, List, ap, subst, sym}
use Rattle.bf_links.specs.declared.link.Link.{Link}
use Rattle.bf_proxy.specs.Joined.{joined}
use Rattle.bf_proxy.proofs.JoinLemmas.{joined_both, rising_agree}
use Rattle.bf_proxy.proofs.gathering.gather.Goals as goal

pub returns-clause-both : goal.returns-clause-both
returns-clause-both c =
    let whole : c.in_ok-proxy.field-0 ≡ joined c.args.links.now c.args.proxy.now.links =
    c.in_ok-proxy.ensures ∙ c.as_slice-3.ensures.value ∙ c.in_ok-all.ensures.joined
    ∙ ap (λ (ls : List Link). joined ls c.as_slice-2.result.now) c.as_slice.ensures.items ∙ ap (joined c.args.links.now) c.as_slice-2.ensures.items in
    λ link. subst (λ (ls : List Link). Contains ls link ↔ (Contains c.args.proxy.now.links link ⊎ Contains c.args.links.now link)) (sym whole)
    (joined_both c.args.links.now c.args.proxy.now.links (rising_agree c.args.links.now c.as_slice.ensures.valid.rising) c.requires.agree link)
