-- What the rounds lead to, they lead to within a larger local.
use Rattle.std.proofs.Common.{◌≡◌, ℕ, List, refl, sym, ap, ◌∙◌}
use Rattle.bf_id.specs.declared.shape.Shape.{Shape}
use Rattle.bf_id.specs.Id.{BlockId}
use Rattle.bf_case.specs.Wishes.{Wishes}
use Rattle.bf_links.specs.declared.link.Link.{Link}
use Rattle.bf_mark_rounds.specs.Shares.{Marking}
use Rattle.bf_proxy.specs.declared.proxy.Proxy.{Proxy}
use Rattle.bf_rounds.specs.Delivering.{as_delivery}
use Rattle.bf_rounds.specs.Gathering.{gathering, Play}
use Rattle.bf_rounds.specs.Leading.{LeadsBy}
use Rattle.bf_proxy_rounds.specs.Making.{settled_marking}
use Rattle.bf_proxy_rounds.specs.Plays.{Proxying}
use Rattle.bf_proxy_rounds.specs.Views.{in_larger, proxying_in, viewed, viewed_course, with_proxying, IsProxyView, ProxyView}

-- a round that gathers, in which each rank's marking stays
module _ {L : Type 0} (view : ProxyView L) (shape : Shape) (ids : List BlockId) (w : Wishes) (owner : BlockId → ℕ) (with : ℕ → List Link → List Proxy → L)
    (is_view : IsProxyView view shape ids w owner with) where
  abbrev marking : ℕ → Marking
  marking = settled_marking shape ids w owner

  -- what a rank's part of the larger local is seen as
  seen : (rank : ℕ) (local : Proxying) → local.marking ≡ marking rank → proxying_in view (with rank local.homes local.proxies) ≡ local
  seen rank local is = λ k. record {
    marking = (is_view.marking rank local.homes local.proxies ∙ sym is) k;
    homes = is_view.homes rank local.homes local.proxies k;
    proxies = is_view.proxies rank local.homes local.proxies k;
  }

  pub view_leads : {M I : Type 0} (play : Play Proxying M) (items : ℕ → M → List I) (holding : ℕ → List I → Proxying) (members : List ℕ) (before after : ℕ → Proxying)
      → ((rank : ℕ) → (before rank).marking ≡ marking rank) → ((rank : ℕ) (heard : List I) → (holding rank heard).marking ≡ marking rank)
      → LeadsBy (as_delivery play) members (gathering play items holding members before) before after
      → LeadsBy (viewed view play) members (viewed_course with (gathering play items holding members before)) (in_larger with before) (in_larger with after)
  view_leads play items holding members before after begins_is holding_is leads = record {
    peers = λ rank member. ap (play.peers members) (seen rank (before rank) (begins_is rank)) ∙ leads.peers rank member;
    rising = leads.rising;
    others = leads.others;
    symmetric = leads.symmetric;
    begins = λ rank member. refl;
    out = λ rank to done rest member is. λ k. (
      in_larger with before rank,
      play.tell (seen rank (before rank) (begins_is rank) k) to,
    );
    turns = λ rank member. ap (λ (l : Proxying). with rank l.homes l.proxies) (leads.turns rank member);
    take = λ rank peer done rest member is.
        let course = gathering play items holding members before in
        let here : Proxying = course.heard rank done in
        let next : Proxying = play.hear here peer (course.told peer rank) in
        ap (λ (l : Proxying). with_proxying view (with rank here.homes here.proxies) (play.hear l peer (course.told peer rank))) (seen rank here (holding_is rank _))
        ∙ is_view.put rank here.homes next.homes here.proxies next.proxies
        ∙ ap (λ (l : Proxying). with rank l.homes l.proxies) (leads.take rank peer done rest member is);
    finish = λ rank member.
        let course = gathering play items holding members before in
        let here : Proxying = course.heard rank (course.peers rank) in
        let next : Proxying = play.finish here in
        ap (λ (l : Proxying). with_proxying view (with rank here.homes here.proxies) (play.finish l)) (seen rank here (holding_is rank _))
        ∙ is_view.put rank here.homes next.homes here.proxies next.proxies
        ∙ ap (λ (l : Proxying). with rank l.homes l.proxies) (leads.finish rank member);
  }
