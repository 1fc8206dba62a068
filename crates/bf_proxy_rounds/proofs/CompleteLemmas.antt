-- Proxies as their ranks make them, and what completes them: outer links can be gathered one after another.
use Rattle.std.proofs.Common.{◌≡◌, ℕ, ◌≤◌, Bool, true, false, cond, List, [], ◌∷◌, ◌⊎◌, inl, inr, length, map, filter, Contains, refl, sym, ap, ◌∙◌, subst}
use Rattle.std.specs.Prelude.{AllPairs}
use Rattle.std.proofs.lemmas.List.Kept.{AllPairs-filter}
use Rattle.bf_lemmas.proofs.Lists.{All-from_Contains}
use Rattle.bf_id.specs.declared.shape.Shape.{Shape}
use Rattle.bf_id.specs.Id.{BlockId, child_of, children_of, id_eq, parent_of, touches}
use Rattle.bf_id.proofs.Boxes.{id_eq_is_equal}
use Rattle.bf_id.proofs.Tilings.{Contains-child, Contains-child_cases, Contains-flat_map, Contains-flat_map_cases}
use Rattle.bf_case.specs.Balanced.{AreBalancedLeaves}
use Rattle.bf_case.specs.Regrid.{heirs_by, regridded_ids, target_of}
use Rattle.bf_case.specs.Wishes.{Wishes}
use Rattle.bf_case.specs.declared.target.Target.{Target}
use Rattle.bf_case.specs.declared.target.Target.TheVariants.{Keep, Refine, Merge}
use Rattle.bf_case.proofs.ChoiceLemmas.{regridded_are_balanced}
use Rattle.bf_case.proofs.HeirLemmas.{Follows}
use Rattle.bf_case.proofs.ListLemmas.{Contains-map_cases}
use Rattle.bf_case.proofs.TestLemmas.{touches_decides, Contains-filter, Contains-filter_cases}
use Rattle.bf_links.specs.Links.{link_to, links_of, touching, ComesBefore, IsLinkOf}
use Rattle.bf_links.specs.declared.link.Link.{Link}
use Rattle.bf_links.proofs.BoundLemmas.{few_links}
use Rattle.bf_links.proofs.LinkLemmas.{links_exact}
use Rattle.bf_mark_rounds.specs.Neighbors.{is_own}
use Rattle.bf_proxy.specs.Homes.{gathered_from, home_of, made_at, near_links, origin_of, outer_links, AreOthers, CanRegrid}
use Rattle.bf_proxy.specs.Joined.{joined, AgreeOnOwners}
use Rattle.bf_proxy.specs.Proxies.{first_rank, gathered, known_links, made_links, proxy_at, sources_by}
use Rattle.bf_proxy.specs.declared.proxy.Proxy.{Proxy}
use Rattle.bf_proxy.proofs.HomeLemmas.{links_gathered, links_made, near_new, near_rises}
use Rattle.bf_proxy.proofs.JoinLemmas.{joined_cases, joined_keeps, joined_rises, same_links}
use Rattle.bf_proxy.proofs.MakeLemmas.{heirs_follow}
use Rattle.bf_proxy_rounds.specs.Making.{made_proxies, outer_at}
use Rattle.bf_proxy_rounds.specs.Plays.{all_gathered, gathered_at}
use Rattle.bf_proxy_rounds.proofs.KnownLemmas.{octet_origin, origin_is, regrid_is}

module _ (shape : Shape) (levels : ℕ) (ids : List BlockId) (w : Wishes) (can : CanRegrid shape levels ids w) (owner : BlockId → ℕ) where
  abbrev target : BlockId → Target
  target = target_of shape ids w

  abbrev sources : BlockId → List Link
  sources i = map (link_to owner) (sources_by (target i) i)

  -- one of those that come of a leaf
  abbrev pub made_proxy : (i q : BlockId) → Proxy
  made_proxy i q = proxy_at shape (target i) (sources i) (known_links (target i) i (sources i) (near_links shape ids target owner i)) q

  abbrev all_links : BlockId → List Link
  all_links q = links_of shape (regridded_ids shape ids w) (home_of ids owner) q

  -- ---- complete ones

  -- what comes of a merging leaf is its parent, and the leaf is the first of its octet
  pub merged_heir : (i q : BlockId) → Contains ids i → target i ≡ Merge → Contains (heirs_by (target i) i) q → (q ≡ parent_of i) × (i ≡ child_of (parent_of i) 0)
  merged_heir i q has merge heir =
      let follows : Follows Merge i q = subst (λ t. Follows t i q) merge (heirs_follow (target i) i q heir) in
      (follows, sym (origin_is shape levels ids w can i q has heir) ∙ ap (origin_of ids) follows ∙ octet_origin shape levels ids w can i has merge)

  -- a proxy of a leaf that doesn't merge is linked with all that touch it
  pub made_linked : (i q : BlockId) → Contains ids i → (target i ≡ Merge → ⊥) → Contains (heirs_by (target i) i) q → (made_proxy i q).links ≡ all_links q
  unfolding regridded_ids
  made_linked i q has other heir = links_made shape levels ids target (regrid_is shape levels ids w can) owner i q has other heir

  -- and so is one of an octet, once it has gathered what its siblings know
  pub octet_linked : (i q : BlockId) → Contains ids i → target i ≡ Merge → Contains (heirs_by (target i) i) q → (siblings : List BlockId) → AreOthers (parent_of i) siblings
      → (gathered_from shape ids target owner siblings (made_proxy i q)).links ≡ all_links q
  unfolding regridded_ids
  octet_linked i q has merge heir siblings are =
      let octet = merged_heir i q has merge heir in
      ap (λ p. (gathered_from shape ids target owner siblings (made_proxy i p)).links) octet.0
      ∙ ap (λ j. (gathered_from shape ids target owner siblings (made_proxy j (parent_of i))).links) octet.1
      ∙ links_gathered shape levels ids target (regrid_is shape levels ids w can) owner (parent_of i) siblings (subst (Contains ids) octet.1 has) (ap target (sym octet.1) ∙ merge) are
      ∙ ap all_links (sym octet.0)

  -- ---- on the way

  -- links of a new leaf, though maybe not all
  abbrev AreSome : BlockId → List Link → Type 0
  AreSome q links = (link : Link) → Contains links link → IsLinkOf shape (regridded_ids shape ids w) (home_of ids owner) q link

  outer_some : (i : BlockId) → AreSome (parent_of i) (outer_links shape ids target owner i)
  unfolding regridded_ids
  outer_some i link has =
      let kept = Contains-filter_cases (λ (l : Link). touches shape (parent_of i) l.id) (near_links shape ids target owner i) link has in
      let new = (near_new shape levels ids target (regrid_is shape levels ids w can) owner i link kept.0).0 in
      record { leaf = new.leaf; touch = (touches_decides shape (parent_of i) link.id).0 kept.1; owned = new.owned }

  joined_some : (q : BlockId) (more links : List Link) → AreSome q more → AreSome q links → AreSome q (joined more links)
  joined_some q more links some those link has = by (joined_cases more links link has)
    where
      by : Contains more link ⊎ Contains links link → IsLinkOf shape (regridded_ids shape ids w) (home_of ids owner) q link
      by (inl first) = some link first
      by (inr later) = those link later

  gathered_keeps : (siblings : List BlockId) (proxy : Proxy) (link : Link) → Contains proxy.links link → Contains (gathered_from shape ids target owner siblings proxy).links link
  unfolding gathered_from
  gathered_keeps [] proxy link has = has
  gathered_keeps (i ∷ siblings) proxy link has =
      gathered_keeps siblings (gathered (outer_links shape ids target owner i) proxy) link (joined_keeps (outer_links shape ids target owner i) proxy.links link has)

  made_some : (i q : BlockId) → Contains ids i → Contains (heirs_by (target i) i) q → AreSome q (made_proxy i q).links
  made_some i q has heir link in' = (links_exact shape (regridded_ids shape ids w) (home_of ids owner) q link).0 (by (target i) refl)
    where
      those : (target i ≡ Merge → ⊥) → Contains (all_links q) link
      those other = subst (λ links. Contains links link) (made_linked i q has other heir) in'

      by : (t : Target) → target i ≡ t → Contains (all_links q) link
      by Keep is = those (λ merge. let wrong : Keep ≡ Merge = sym is ∙ merge in cc)
      by Refine is = those (λ merge. let wrong : Refine ≡ Merge = sym is ∙ merge in cc)
      by Merge is =
          subst (λ links. Contains links link)
          (octet_linked i q has is heir (children_of (parent_of i))
          (record { all = λ octant later small. Contains-child (parent_of i) octant small; only = λ k child. Contains-child_cases (parent_of i) k child }))
          (gathered_keeps (children_of (parent_of i)) (made_proxy i q) link in')

  made_rises : (i q : BlockId) → AllPairs ComesBefore (made_proxy i q).links
  made_rises i q =
      let near : List Link = near_links shape ids target owner i in
      let made : List Link = made_links (first_rank (sources i)) (target i) i in
      AllPairs-filter ComesBefore (λ (l : Link). touches shape q l.id) (joined made near)
      (joined_rises made near (near_rises shape levels ids target (regrid_is shape levels ids w can) owner i))

  -- a proxy of which some links are known, by rising id
  record IsBegun (q : BlockId) (proxy : Proxy) : Type 0 where
    named : proxy.id ≡ q
    some : AreSome q proxy.links
    rising : AllPairs ComesBefore proxy.links

  gathers_begun : (q : BlockId) (is : List BlockId) (proxy : Proxy) → IsBegun q proxy → IsBegun q (all_gathered (map (outer_at shape ids w owner) is) proxy)
  gathers_begun q [] proxy begun = begun
  gathers_begun q (i ∷ is) proxy begun = gathers_begun q is (gathered_at proxy (outer_at shape ids w owner i)) (by (id_eq (parent_of i) proxy.id) refl)
    where
      by : (b : Bool) → id_eq (parent_of i) proxy.id ≡ b → IsBegun q (cond b (gathered (outer_links shape ids target owner i) proxy) proxy)
      by true same = record {
        named = begun.named;
        some = joined_some q (outer_links shape ids target owner i) proxy.links
            (subst (λ p. AreSome p (outer_links shape ids target owner i)) ((id_eq_is_equal (parent_of i) proxy.id).0 same ∙ begun.named) (outer_some i)) begun.some;
        rising = joined_rises (outer_links shape ids target owner i) proxy.links begun.rising;
      }
      by false other = begun

  -- each proxy that a rank makes is so, and is of a new leaf
  made_begun : (rank : ℕ) (proxy : Proxy) → Contains (made_proxies shape ids w owner rank) proxy → Contains (regridded_ids shape ids w) proxy.id × IsBegun proxy.id proxy
  unfolding regridded_ids
  made_begun rank proxy has =
      let of = Contains-flat_map_cases (made_at shape ids target owner) (filter (is_own owner rank) ids) proxy has in
      let kept = Contains-filter_cases (is_own owner rank) ids of.0 of.1 in
      let heir = Contains-map_cases (made_proxy of.0) (heirs_by (target of.0) of.0) proxy of.2 in (
        subst (λ (p : Proxy). Contains (regridded_ids shape ids w) p.id) (sym heir.2) (Contains-flat_map (λ i. heirs_by (target i) i) ids of.0 heir.0 kept.0 heir.1),
        subst (λ (p : Proxy). IsBegun p.id p) (sym heir.2) (record { named = refl; some = made_some of.0 heir.0 kept.0 heir.1; rising = made_rises of.0 heir.0 }),
      )

  -- links that touch a new leaf are few
  some_few : (q : BlockId) (links : List Link) → Contains (regridded_ids shape ids w) q → AreSome q links → AllPairs ComesBefore links → length links ≤ 56
  some_few q links new some rises =
      let balanced : AreBalancedLeaves shape levels (regridded_ids shape ids w) = regridded_are_balanced shape levels ids w can.few can.room can.leaves in
      let all : links ≡ touching shape q links =
      same_links links (touching shape q links) rises (AllPairs-filter ComesBefore (λ (l : Link). touches shape q l.id) links rises)
      (λ z has. Contains-filter (λ (l : Link). touches shape q l.id) links z has ((touches_decides shape q z.id).1 (some z has).touch))
      (λ z has. (Contains-filter_cases (λ (l : Link). touches shape q l.id) links z has).0) in
      let few : length (touching shape q links) ≤ 56 =
      few_links shape levels (regridded_ids shape ids w) q links balanced new (All-from_Contains (λ (l : Link). Contains (regridded_ids shape ids w) l.id) links (λ z has. (some z has).leaf)) rises in
      subst (λ ls. length ls ≤ 56) (sym all) few

  -- however many outer links a proxy has gathered, those of a leaf of its octet can be gathered too
  module _ (rank : ℕ) (proxy : Proxy) (has : Contains (made_proxies shape ids w owner rank) proxy) (is : List BlockId) (i : BlockId) (octet : parent_of i ≡ proxy.id) where
    abbrev so_far : Proxy
    so_far = all_gathered (map (outer_at shape ids w owner) is) proxy

    begun : IsBegun proxy.id so_far
    begun = gathers_begun proxy.id is proxy (made_begun rank proxy has).1

    outer_its : AreSome proxy.id (outer_links shape ids target owner i)
    outer_its = subst (λ q. AreSome q (outer_links shape ids target owner i)) octet (outer_some i)

    pub gathers_few : length (joined (outer_links shape ids target owner i) so_far.links) ≤ 56
    gathers_few =
        some_few proxy.id (joined (outer_links shape ids target owner i) so_far.links) (made_begun rank proxy has).0
        (joined_some proxy.id (outer_links shape ids target owner i) so_far.links outer_its begun.some)
        (joined_rises (outer_links shape ids target owner i) so_far.links begun.rising)

    pub gathers_agree : AgreeOnOwners (outer_links shape ids target owner i) so_far.links
    gathers_agree x y has_x has_y same = (outer_its x has_x).owned ∙ ap (home_of ids owner) same ∙ sym (begun.some y has_y).owned
