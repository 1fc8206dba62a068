-- Proxies within a larger local, which has the rank, the links and the marks elsewhere.
use Rattle.std.specs.Prelude.{◌≡◌, ℕ, List}
use Rattle.bf_id.specs.declared.shape.Shape.{Shape}
use Rattle.bf_id.specs.Id.{BlockId}
use Rattle.bf_case.specs.Wishes.{Wishes}
use Rattle.bf_links.specs.declared.link.Link.{Link}
use Rattle.bf_mark_rounds.specs.Views.{marking_in, MarkView}
use Rattle.bf_proxy.specs.declared.proxy.Proxy.{Proxy}
use Rattle.bf_rounds.specs.Courses.{Course}
use Rattle.bf_rounds.specs.Delivering.{Delivery}
use Rattle.bf_rounds.specs.Gathering.{Play}
use Rattle.bf_proxy_rounds.specs.Making.{settled_marking}
use Rattle.bf_proxy_rounds.specs.Plays.{Proxying}

-- how a local's marks, homes and proxies are read, and how its homes and proxies are replaced
pub record ProxyView (L : Type 0) : Type 0 where
  pub marks : MarkView L
  pub homes : L → List Link
  pub proxies : L → List Proxy
  pub put : L → (homes : List Link) → (proxies : List Proxy) → L

abbrev pub proxying_in : {L : Type 0} → ProxyView L → L → Proxying
proxying_in view local = record { marking = marking_in view.marks local; homes = view.homes local; proxies = view.proxies local }

abbrev pub with_proxying : {L : Type 0} → ProxyView L → L → Proxying → L
with_proxying view local now = view.put local now.homes now.proxies

-- a play of proxies, by the larger local
abbrev pub viewed : {L M : Type 0} → ProxyView L → Play Proxying M → Delivery L M
viewed view play = record {
  peers = λ members local. play.peers members (proxying_in view local);
  out = λ local to. (local, play.tell (proxying_in view local) to);
  hear = λ local peer msg. with_proxying view local (play.hear (proxying_in view local) peer msg);
  finish = λ local. with_proxying view local (play.finish (proxying_in view local));
}

-- the locals of ranks with these homes and proxies have the ranks' numbers, links and marks
pub record IsProxyView {L : Type 0} (view : ProxyView L) (shape : Shape) (ids : List BlockId) (w : Wishes) (owner : BlockId → ℕ) (with : ℕ → List Link → List Proxy → L) : Type 0 where
  pub marking : (rank : ℕ) (homes : List Link) (proxies : List Proxy) → marking_in view.marks (with rank homes proxies) ≡ settled_marking shape ids w owner rank
  pub homes : (rank : ℕ) (homes : List Link) (proxies : List Proxy) → view.homes (with rank homes proxies) ≡ homes
  pub proxies : (rank : ℕ) (homes : List Link) (proxies : List Proxy) → view.proxies (with rank homes proxies) ≡ proxies
  pub put : (rank : ℕ) (homes now : List Link) (proxies made : List Proxy) → view.put (with rank homes proxies) now made ≡ with rank now made

-- what a rank has, in the larger local
abbrev pub in_larger : {L : Type 0} → (with : ℕ → List Link → List Proxy → L) → (local : ℕ → Proxying) → (rank : ℕ) → L
in_larger with local rank = with rank (local rank).homes (local rank).proxies

abbrev pub viewed_course : {L M : Type 0} → (with : ℕ → List Link → List Proxy → L) → Course Proxying M → Course L M
viewed_course with course = record {
  peers = course.peers;
  told = course.told;
  sent = λ rank done. with rank (course.sent rank done).homes (course.sent rank done).proxies;
  heard = λ rank done. with rank (course.heard rank done).homes (course.heard rank done).proxies;
}
