-- What the proxies are after both rounds.
use Rattle.std.proofs.Common.{◌≡◌, ◌↔◌, ℕ, ◌==◌, List, map, filter, Contains, All, IsTrue, refl, sym, ap, ◌∙◌, subst}
use Rattle.std.proofs.lemmas.List.{map-id}
use Rattle.std.proofs.lemmas.List.Elements.{All-map}
use Rattle.bf_lemmas.proofs.Lists.{All-from_Contains, map_twice}
use Rattle.bf_id.specs.declared.shape.Shape.{Shape}
use Rattle.bf_id.specs.Id.{BlockId}
use Rattle.bf_id.proofs.Tilings.{Contains-flat_map_cases}
use Rattle.bf_case.specs.Regrid.{heirs_by, regridded_ids, target_of}
use Rattle.bf_case.specs.Wishes.{Wishes}
use Rattle.bf_case.specs.declared.target.Target.{Target}
use Rattle.bf_case.proofs.ListLemmas.{Contains-map, Contains-map_cases}
use Rattle.bf_case.proofs.TestLemmas.{Contains-filter_cases}
use Rattle.bf_buddy.specs.Members.{is_member}
use Rattle.bf_links.specs.Links.{link_to, IsLinkOf}
use Rattle.bf_links.specs.declared.link.Link.{Link}
use Rattle.bf_links.proofs.LinkLemmas.{links_exact}
use Rattle.bf_mark_rounds.specs.Neighbors.{AreOwned}
use Rattle.bf_proxy.specs.Homes.{home_of, origin_of, CanRegrid, ShareUnit}
use Rattle.bf_proxy.specs.Proxies.{sources_by}
use Rattle.bf_proxy.specs.declared.proxy.Proxy.{Proxy}
use Rattle.bf_proxy.proofs.LawLemmas.{share_unit}
use Rattle.bf_proxy_rounds.specs.Making.{linked_proxies, linked_proxy, IsSourceOf}
use Rattle.bf_proxy_rounds.proofs.KnownLemmas.{origin_is, regrid_is}

module _ (shape : Shape) (ids : List BlockId) (w : Wishes) (owner : BlockId → ℕ) (rank : ℕ) where
  abbrev here : List BlockId
  here = filter (λ q. home_of ids owner q == rank) (regridded_ids shape ids w)

  pub new_ids : map (λ (proxy : Proxy). proxy.id) (linked_proxies shape ids w owner rank) ≡ here
  new_ids = map_twice (λ (proxy : Proxy). proxy.id) (linked_proxy shape ids w owner) (λ q. q) (λ q. refl) here ∙ map-id here

  pub all_touching : All (λ (proxy : Proxy). (link : Link) → Contains proxy.links link ↔ IsLinkOf shape (regridded_ids shape ids w) (home_of ids owner) proxy.id link)
      (linked_proxies shape ids w owner rank)
  all_touching =
      All-map (λ (proxy : Proxy). (link : Link) → Contains proxy.links link ↔ IsLinkOf shape (regridded_ids shape ids w) (home_of ids owner) proxy.id link)
      (linked_proxy shape ids w owner) here
      (All-from_Contains (λ q. (link : Link) → Contains (linked_proxy shape ids w owner q).links link ↔ IsLinkOf shape (regridded_ids shape ids w) (home_of ids owner) q link) here
      (λ q has link. links_exact shape (regridded_ids shape ids w) (home_of ids owner) q link))

module _ (shape : Shape) (levels : ℕ) (ids : List BlockId) (w : Wishes) (can : CanRegrid shape levels ids w) (owner : BlockId → ℕ) where
  abbrev target : BlockId → Target
  target = target_of shape ids w

  -- who has a new leaf's proxy has the leaf of which that comes
  pub homes_owned : (members : List ℕ) → AreOwned ids owner members → AreOwned (regridded_ids shape ids w) (home_of ids owner) members
  unfolding regridded_ids
  homes_owned members owned q new =
      let from = Contains-flat_map_cases (λ i. heirs_by (target i) i) ids q new in
      subst (λ i. IsTrue (is_member members (owner i))) (sym (origin_is shape levels ids w can from.0 q from.1 from.2)) (owned from.0 from.1)

  -- the sources of a proxy, by the leaf that is its origin
  source_exact : (q : BlockId) → Contains (regridded_ids shape ids w) q → (source : Link) → Contains (linked_proxy shape ids w owner q).sources source ↔ IsSourceOf shape ids owner q source
  unfolding regridded_ids
  source_exact q new source = (there, back)
    where
      from : (i : BlockId) × Contains ids i × Contains (heirs_by (target i) i) q
      from = Contains-flat_map_cases (λ i. heirs_by (target i) i) ids q new

      sources : List BlockId
      sources = sources_by (target (origin_of ids q)) (origin_of ids q)

      exact : (j : BlockId) → Contains (sources_by (target (origin_of ids q)) (origin_of ids q)) j ↔ (Contains ids j × ShareUnit shape j q)
      exact j =
          subst (λ i. Contains (sources_by (target i) i) j ↔ (Contains ids j × ShareUnit shape j q)) (sym (origin_is shape levels ids w can from.0 q from.1 from.2))
          (share_unit shape levels ids target (regrid_is shape levels ids w can) from.0 j q from.1 from.2)

      there : Contains (linked_proxy shape ids w owner q).sources source → IsSourceOf shape ids owner q source
      there has =
          let of = Contains-map_cases (link_to owner) sources source has in
          let named : source.id ≡ of.0 = ap (λ (l : Link). l.id) of.2 in
          let both = (exact source.id).0 (subst (Contains sources) (sym named) of.1) in
          record { leaf = both.0; shares = both.1; owned = ap (λ (l : Link). l.owner) of.2 ∙ ap owner (sym named) }

      back : IsSourceOf shape ids owner q source → Contains (linked_proxy shape ids w owner q).sources source
      back is =
          subst (Contains (map (link_to owner) sources)) (λ k. record { id = source.id; owner = sym is.owned k })
          (Contains-map (link_to owner) sources source.id ((exact source.id).1 (is.leaf, is.shares)))

  pub all_sources : (rank : ℕ) → All (λ (proxy : Proxy). (source : Link) → Contains proxy.sources source ↔ IsSourceOf shape ids owner proxy.id source) (linked_proxies shape ids w owner rank)
  all_sources rank =
      All-map (λ (proxy : Proxy). (source : Link) → Contains proxy.sources source ↔ IsSourceOf shape ids owner proxy.id source) (linked_proxy shape ids w owner)
      (filter (λ q. home_of ids owner q == rank) (regridded_ids shape ids w))
      (All-from_Contains (λ q. (source : Link) → Contains (linked_proxy shape ids w owner q).sources source ↔ IsSourceOf shape ids owner q source)
      (filter (λ q. home_of ids owner q == rank) (regridded_ids shape ids w))
      (λ q has. source_exact q (Contains-filter_cases (λ q. home_of ids owner q == rank) (regridded_ids shape ids w) q has).0))
