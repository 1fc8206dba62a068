use Rattle.std.proofs.Common.{List, [], refl}
use Rattle.bf_links.specs.declared.link.Link.{Link}
use Rattle.bf_proxy.specs.Joined.{joined}
use Rattle.bf_proxy_rounds.specs.Making.{made_proxying, proxying_of, unmade_proxying}
use Rattle.bf_proxy_rounds.specs.Plays.{homes_play, siblings_play, with_outer, Outer}
use Rattle.bf_proxy_rounds.proofs.ViewLemmas.{view_leads}
use Rattle.bf_proxy_rounds.proofs.laws.proxies_in_a_larger_local_lead_on.Goals as goal

pub returns : goal.returns
returns g c = record {
  homes = λ view shape ids w owner with is_view members after leads.
      view_leads view shape ids w owner with is_view
      (homes_play shape) (λ peer (msg : List Link). msg) (λ rank homes. proxying_of shape ids w owner (joined homes []) [] rank) members (unmade_proxying shape ids w owner) after
      (λ rank. refl) (λ rank heard. refl) leads;
  siblings = λ view shape ids w owner with is_view members after leads.
      view_leads view shape ids w owner with is_view
      (siblings_play shape) (λ peer (msg : List Outer). msg) (λ rank outers. with_outer outers (made_proxying shape ids w owner rank)) members (made_proxying shape ids w owner) after
      (λ rank. refl) (λ rank heard. refl) leads;
}
