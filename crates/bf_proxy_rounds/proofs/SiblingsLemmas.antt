-- The round of siblings leads to proxies that are linked with all that touch them.
use Rattle.std.proofs.Common.{◌≡◌, ℕ, ◌<◌, Bool, true, false, cond, not, ◌&&◌, ◌==◌, List, [], ◌∷◌, ◌++◌, ◌⊎◌, inl, inr, map, filter, flat_map, Contains, refl, sym, ap, ◌∙◌, subst, arith}
use Rattle.std.specs.List.Sorted.{IsStrictlyIncreasing}
use Rattle.std.proofs.lemmas.Bool.{and_from, and_parts, both_ways, eq-eqb, eqb-true, false_from_ne_true, ne_eqb}
use Rattle.std.proofs.lemmas.List.{map-append, map-id}
use Rattle.std.proofs.lemmas.List.Elements.{Contains-append_cases, Contains-append_left, Contains-append_right}
use Rattle.std.proofs.lemmas.List.Sums.{fold-append}
use Rattle.bf_lemmas.proofs.Lists.{All-from_Contains, filter_mapped, filter_twice, map_each, map_twice}
use Rattle.bf_id.specs.declared.shape.Shape.{Shape}
use Rattle.bf_id.specs.Id.{BlockId, child_of, id_eq, octant_of, parent_of, touches}
use Rattle.bf_id.proofs.Boxes.{id_eq_is_equal}
use Rattle.bf_id.proofs.Tilings.{Contains-child, Contains-flat_map, Contains-flat_map_cases}
use Rattle.bf_case.specs.Regrid.{heirs_by, regridded_ids, target_of}
use Rattle.bf_case.specs.Wishes.{Wishes}
use Rattle.bf_case.specs.declared.target.Target.{Target}
use Rattle.bf_case.specs.declared.target.Target.TheVariants.{Keep, Refine, Merge}
use Rattle.bf_case.proofs.HeirLemmas.{IsInOctet}
use Rattle.bf_case.proofs.OctetLemmas.{octant_of-child, parent_of-child}
use Rattle.bf_case.proofs.TestLemmas.{Contains-filter, Contains-filter_cases, filter_none, passes_from_any}
use Rattle.bf_buddy.specs.Members.{is_member}
use Rattle.bf_buddy.proofs.MemberLemmas.{member_filter_from}
use Rattle.bf_links.specs.Links.{link_to, links_of, touching}
use Rattle.bf_links.specs.declared.link.Link.{Link}
use Rattle.bf_marks.proofs.RefinedLemmas.{filter_where}
use Rattle.bf_mark_rounds.specs.Neighbors.{is_near, is_neighbor, is_own, AreOwned}
use Rattle.bf_mark_rounds.specs.Plays.{marking_peers}
use Rattle.bf_mark_rounds.proofs.NeighborLemmas.{near_by, near_neighbors, neighbors_mutual}
use Rattle.bf_proxy.specs.Homes.{gathered_from, home_of, made_at, origin_of, outer_links, AreOthers, CanRegrid}
use Rattle.bf_proxy.specs.Proxies.{gathered, sources_by}
use Rattle.bf_proxy.specs.declared.proxy.Proxy.{Proxy}
use Rattle.bf_proxy.proofs.HomeLemmas.{made_are}
use Rattle.bf_rounds.specs.Delivering.{as_delivery}
use Rattle.bf_rounds.specs.Leading.{LeadsBy}
use Rattle.bf_rounds.proofs.LeadLemmas.{gathers_by}
use Rattle.bf_proxy_rounds.specs.Making.{first_owner, heard_homes, linked_proxies, linked_proxy, linked_proxying, made_proxies, made_proxying, outer_at, outer_leaves, proxying_of, siblings_course}
use Rattle.bf_proxy_rounds.specs.Plays.{all_gathered, gathered_at, is_merge, is_told_to, outer_by, outer_told, siblings_play, with_outer, Outer, Proxying}
use Rattle.bf_proxy_rounds.proofs.CompleteLemmas.{made_linked, made_proxy, merged_heir, octet_linked}
use Rattle.bf_proxy_rounds.proofs.HomesLemmas.{linked, merging, merging_are, near_is, octet_home_is, own, peers_seen}
use Rattle.bf_proxy_rounds.proofs.KnownLemmas.{merge_from, octet_of, octet_origin, origin_is, regrid_is, sibling_is}
use Rattle.bf_proxy_rounds.proofs.ToldLemmas.{flat_where, map_flat}

module _ (shape : Shape) (levels : ℕ) (ids : List BlockId) (w : Wishes) (can : CanRegrid shape levels ids w) (owner : BlockId → ℕ) where
  abbrev target : BlockId → Target
  target = target_of shape ids w

  -- ---- what a rank tells

  pub told_is : (proxies : List Proxy) (from to : ℕ)
      → outer_told shape (proxying_of shape ids w owner (heard_homes shape ids w owner from) proxies from) to ≡ map (outer_at shape ids w owner) (outer_leaves shape ids w owner from to)
  told_is proxies from to =
      ap (λ leaves. map (outer_by shape local) (filter (is_told_to local to) leaves)) (merging_are shape levels ids w can owner (heard_homes shape ids w owner from) proxies from)
      ∙ ap (map (outer_by shape local))
      (filter_mapped (is_told_to local to) (linked shape levels ids w can owner) (filter is_merging mine)
      ∙ ap (map (linked shape levels ids w can owner))
      (filter_where (λ i. is_told_to local to (i, links_of shape ids owner i)) told (filter is_merging mine)
      (λ i has. ap (λ n. not (octant_of i == 0) && n == to) (octet_home_is shape levels ids w can owner (heard_homes shape ids w owner from) proxies from i has))
      ∙ filter_twice told is_merging mine ∙ filter_twice (λ i. is_merging i && told i) (is_own owner from) ids))
      ∙ map_twice (outer_by shape local) (linked shape levels ids w can owner) (λ i. outer_by shape local (i, links_of shape ids owner i)) (λ i. refl) (outer_leaves shape ids w owner from to)
      ∙ map_each (λ i. outer_by shape local (i, links_of shape ids owner i)) (outer_at shape ids w owner) (outer_leaves shape ids w owner from to)
      (All-from_Contains (λ i. outer_by shape local (i, links_of shape ids owner i) ≡ outer_at shape ids w owner i) (outer_leaves shape ids w owner from to)
      (λ i has.
      let kept = Contains-filter_cases (λ i. is_own owner from i && (is_merging i && told i)) ids i has in
      ap (λ (near : List Link). (parent_of i, touching shape (parent_of i) near))
      (near_is shape levels ids w can owner proxies from i kept.0 (and_parts (is_own owner from i) (is_merging i && told i) kept.1).0)))
    where
      local : Proxying
      local = proxying_of shape ids w owner (heard_homes shape ids w owner from) proxies from

      mine : List BlockId
      mine = own shape levels ids w can owner from

      is_merging : BlockId → Bool
      is_merging = merging shape levels ids w can owner

      told : BlockId → Bool
      told i = not (octant_of i == 0) && first_owner owner i == to

  -- ---- what a proxy gathers

  -- of the outer links of several leaves those of its own octet's
  gathers_its : (is : List BlockId) (proxy : Proxy) → all_gathered (map (outer_at shape ids w owner) is) proxy
      ≡ gathered_from shape ids target owner (filter (λ i. id_eq (parent_of i) proxy.id) is) proxy
  unfolding gathered_from
  gathers_its [] proxy = refl
  gathers_its (i ∷ is) proxy = at (id_eq (parent_of i) proxy.id) (gathers_its is)
    where
      at : (b : Bool)
          → ((proxy : Proxy) → all_gathered (map (outer_at shape ids w owner) is) proxy ≡ gathered_from shape ids target owner (filter (λ i. id_eq (parent_of i) proxy.id) is) proxy)
          → all_gathered (map (outer_at shape ids w owner) is) (cond b (gathered (outer_links shape ids target owner i) proxy) proxy)
          ≡ gathered_from shape ids target owner (cond b (i ∷ filter (λ i. id_eq (parent_of i) proxy.id) is) (filter (λ i. id_eq (parent_of i) proxy.id) is)) proxy
      at true later = later (gathered (outer_links shape ids target owner i) proxy)
      at false later = later proxy

  -- nothing else of it changes
  gathers_links : (siblings : List BlockId) (proxy : Proxy) → gathered_from shape ids target owner siblings proxy
      ≡ record proxy { links = (gathered_from shape ids target owner siblings proxy).links }
  unfolding gathered_from
  gathers_links [] proxy = refl
  gathers_links (i ∷ siblings) proxy = gathers_links siblings (gathered (outer_links shape ids target owner i) proxy)

  -- a proxy as its rank makes it
  abbrev first_made : BlockId → BlockId → Proxy
  first_made = made_proxy shape levels ids w can owner

  module _ (members : List ℕ) (owned : AreOwned ids owner members) (rank : ℕ) (peers : List ℕ) (are : peers ≡ filter (is_neighbor shape ids owner rank) members) where
    -- the leaves of which a rank gathers the outer links: its neighbours', and its own
    abbrev outer_all : List BlockId
    outer_all = flat_map (λ peer. outer_leaves shape ids w owner peer rank) peers ++ outer_leaves shape ids w owner rank rank

    -- each of them is a leaf that merges
    outer_merges : (k : BlockId) → Contains outer_all k → Contains ids k × (target k ≡ Merge)
    outer_merges k has = by (Contains-append_cases (flat_map (λ peer. outer_leaves shape ids w owner peer rank) peers) (outer_leaves shape ids w owner rank rank) k has)
      where
        of : (from : ℕ) → Contains (outer_leaves shape ids w owner from rank) k → Contains ids k × (target k ≡ Merge)
        of from in' =
            let kept = Contains-filter_cases (λ i. is_own owner from i && (is_merge (target i) && (not (octant_of i == 0) && first_owner owner i == rank))) ids k in' in
            let its = and_parts (is_own owner from k) (is_merge (target k) && (not (octant_of k == 0) && first_owner owner k == rank)) kept.1 in
            (kept.0, merge_from (target k) (and_parts (is_merge (target k)) (not (octant_of k == 0) && first_owner owner k == rank) its.1).0)

        by : Contains (flat_map (λ peer. outer_leaves shape ids w owner peer rank) peers) k ⊎ Contains (outer_leaves shape ids w owner rank rank) k → Contains ids k × (target k ≡ Merge)
        by (inl heard) = let found = Contains-flat_map_cases (λ peer. outer_leaves shape ids w owner peer rank) peers k heard in of found.0 found.2
        by (inr mine) = of rank mine

    -- and each that merges with one of a rank's, but for that one, is among them
    outer_has : (k : BlockId) → Contains ids k → target k ≡ Merge → (octant_of k == 0) ≡ false → first_owner owner k ≡ rank
        → (is_own owner rank k ≡ true) ⊎ (is_near shape ids owner rank k ≡ true) → Contains outer_all k
    outer_has k has merge later first known = by (is_own owner rank k) refl known
      where
        told : Contains (outer_leaves shape ids w owner (owner k) rank) k
        told =
            Contains-filter (λ i. is_own owner (owner k) i && (is_merge (target i) && (not (octant_of i == 0) && first_owner owner i == rank))) ids k has
            (and_from (is_own owner (owner k) k) (is_merge (target k) && (not (octant_of k == 0) && first_owner owner k == rank)) (eq-eqb (owner k) (owner k) refl)
            (and_from (is_merge (target k)) (not (octant_of k == 0) && first_owner owner k == rank) (ap is_merge merge)
            (and_from (not (octant_of k == 0)) (first_owner owner k == rank) (ap not later) (eq-eqb (first_owner owner k) rank first))))

        from_peer : is_own owner rank k ≡ false → is_near shape ids owner rank k ≡ true → Contains peers (owner k)
        from_peer other near =
            let seen : is_neighbor shape ids owner rank (owner k) ≡ true = near_neighbors shape ids owner rank k has near ∙ ap not other in
            let member : is_member peers (owner k) ≡ true =
            ap (λ ps. is_member ps (owner k)) are ∙ member_filter_from (is_neighbor shape ids owner rank) members (owner k) (owned k has) seen in
            let found = passes_from_any (λ peer. peer == owner k) peers member in
            subst (Contains peers) (eqb-true found.0 (owner k) found.2) found.1

        by : (b : Bool) → is_own owner rank k ≡ b → (is_own owner rank k ≡ true) ⊎ (is_near shape ids owner rank k ≡ true) → Contains outer_all k
        by true its either =
            Contains-append_right (flat_map (λ peer. outer_leaves shape ids w owner peer rank) peers) (outer_leaves shape ids w owner rank rank) k
            (subst (λ from. Contains (outer_leaves shape ids w owner from rank) k) (eqb-true (owner k) rank its) told)
        by false other (inl its) = absurd (both_ways (is_own owner rank k) other its)
        by false other (inr near) =
            Contains-append_left (flat_map (λ peer. outer_leaves shape ids w owner peer rank) peers) (outer_leaves shape ids w owner rank rank) k
            (Contains-flat_map (λ peer. outer_leaves shape ids w owner peer rank) peers (owner k) k (from_peer other near) told)

    -- those of one octet
    abbrev outer_of : BlockId → List BlockId
    outer_of q = filter (λ k. id_eq (parent_of k) q) outer_all

    -- where the first of an octet is the rank's, its siblings are
    others_are : (i : BlockId) → Contains ids i → is_own owner rank i ≡ true → target i ≡ Merge → i ≡ child_of (parent_of i) 0 → AreOthers (parent_of i) (outer_of (parent_of i))
    others_are i has its merge first = record {
      all = λ octant later small.
          Contains-filter (λ k. id_eq (parent_of k) (parent_of i)) outer_all (child_of (parent_of i) octant) (sibling octant later small)
          ((id_eq_is_equal (parent_of (child_of (parent_of i) octant)) (parent_of i)).1 (parent_of-child (parent_of i) octant));
      only = λ k in'.
          let kept = Contains-filter_cases (λ k. id_eq (parent_of k) (parent_of i)) outer_all k in' in
          let leaf = outer_merges k kept.0 in
          let octet : IsInOctet ids target k = octet_of shape levels ids w can k leaf.0 leaf.1 in
          (octant_of k, octet.octal, octet.child ∙ ap (λ p. child_of p (octant_of k)) ((id_eq_is_equal (parent_of k) (parent_of i)).0 kept.1));
    }
      where
        octet : IsInOctet ids target i
        octet = octet_of shape levels ids w can i has merge

        known : (k : BlockId) → (k ≡ i) ⊎ (touches shape i k ≡ true) → (is_own owner rank k ≡ true) ⊎ (is_near shape ids owner rank k ≡ true)
        known k (inl same) = inl (ap (is_own owner rank) same ∙ its)
        known k (inr touch) = inr (near_by shape ids owner rank i k has its touch)

        sibling : (octant : ℕ) → 0 < octant → octant < 8 → Contains outer_all (child_of (parent_of i) octant)
        sibling octant later small =
            let k : BlockId = child_of (parent_of i) octant in
            outer_has (child_of (parent_of i) octant) (octet.leaves octant small) (octet.merge octant small)
            (ap (λ o. o == 0) (octant_of-child (parent_of i) octant) ∙ ne_eqb octant 0 (λ zero. omega arith))
            (ap (λ p. owner (child_of p 0)) (parent_of-child (parent_of i) octant) ∙ ap owner (sym first) ∙ eqb-true (owner i) rank its)
            (known (child_of (parent_of i) octant) (sibling_is shape levels ids w can i (child_of (parent_of i) octant) has merge (Contains-child (parent_of i) octant small)).1)

    -- so a proxy is linked with all that touch it
    all_linked : (i q : BlockId) → Contains ids i → is_own owner rank i ≡ true → Contains (heirs_by (target i) i) q
        → (gathered_from shape ids target owner (outer_of q) (first_made i q)).links ≡ links_of shape (regridded_ids shape ids w) (home_of ids owner) q
    unfolding gathered_from
    all_linked i q has its heir = by (target i) refl
      where
        origin : origin_of ids q ≡ i
        origin = origin_is shape levels ids w can i q has heir

        -- where a leaf doesn't merge nothing is gathered
        none : (target i ≡ Merge → ⊥) → outer_of q ≡ []
        none other =
            filter_where (λ k. id_eq (parent_of k) q) (λ k. false) outer_all
            (λ k in'. false_from_ne_true (id_eq (parent_of k) q) (λ same.
            let leaf = outer_merges k in' in
            let octet : IsInOctet ids target k = octet_of shape levels ids w can k leaf.0 leaf.1 in
            let first : i ≡ child_of (parent_of k) 0 =
            sym origin ∙ ap (origin_of ids) (sym ((id_eq_is_equal (parent_of k) q).0 same)) ∙ octet_origin shape levels ids w can k leaf.0 leaf.1 in
            other (ap target first ∙ octet.merge 0 (omega arith))))
            ∙ filter_none (λ k. false) outer_all (λ k. refl)

        made : (target i ≡ Merge → ⊥) → (gathered_from shape ids target owner (outer_of q) (first_made i q)).links ≡ links_of shape (regridded_ids shape ids w) (home_of ids owner) q
        made other =
            ap (λ (siblings : List BlockId). (gathered_from shape ids target owner siblings (first_made i q)).links) (none other)
            ∙ made_linked shape levels ids w can owner i q has other heir

        by : (t : Target) → target i ≡ t → (gathered_from shape ids target owner (outer_of q) (first_made i q)).links ≡ links_of shape (regridded_ids shape ids w) (home_of ids owner) q
        by Keep is = made (λ merge. let wrong : Keep ≡ Merge = sym is ∙ merge in cc)
        by Refine is = made (λ merge. let wrong : Refine ≡ Merge = sym is ∙ merge in cc)
        by Merge is =
            let octet = merged_heir shape levels ids w can owner i q has is heir in
            octet_linked shape levels ids w can owner i q has is heir (outer_of q)
            (subst (λ p. AreOthers (parent_of i) (outer_of p)) (sym octet.0) (others_are i has its is octet.1))

    whole : (i q : BlockId) → Contains ids i → is_own owner rank i ≡ true → Contains (heirs_by (target i) i) q
        → all_gathered (map (outer_at shape ids w owner) outer_all) (first_made i q) ≡ linked_proxy shape ids w owner q
    whole i q has its heir =
        gathers_its outer_all (first_made i q)
        ∙ gathers_links (outer_of q) (first_made i q)
        ∙ ap (λ (links : List Link). record (first_made i q) { links = links }) (all_linked i q has its heir)
        ∙ ap (λ j. record { id = q; origin = target j; sources = map (link_to owner) (sources_by (target j) j); links = links_of shape (regridded_ids shape ids w) (home_of ids owner) q })
        (sym (origin_is shape levels ids w can i q has heir))

    -- and so are all of the rank's
    all_whole : map (all_gathered (map (outer_at shape ids w owner) outer_all)) (made_proxies shape ids w owner rank) ≡ linked_proxies shape ids w owner rank
    unfolding regridded_ids
    all_whole =
        map_flat (all_gathered (map (outer_at shape ids w owner) outer_all)) (made_at shape ids target owner) (filter (is_own owner rank) ids)
        ∙ flat_where (λ i. map (all_gathered (map (outer_at shape ids w owner) outer_all)) (made_at shape ids target owner i))
        (λ i. map (linked_proxy shape ids w owner) (heirs_by (target i) i)) (filter (is_own owner rank) ids)
        (λ i has.
        let kept = Contains-filter_cases (is_own owner rank) ids i has in
        map_twice (all_gathered (map (outer_at shape ids w owner) outer_all)) (first_made i)
        (λ q. all_gathered (map (outer_at shape ids w owner) outer_all) (first_made i q)) (λ q. refl) (heirs_by (target i) i)
        ∙ map_each (λ q. all_gathered (map (outer_at shape ids w owner) outer_all) (first_made i q)) (linked_proxy shape ids w owner) (heirs_by (target i) i)
        (All-from_Contains (λ q. all_gathered (map (outer_at shape ids w owner) outer_all) (first_made i q) ≡ linked_proxy shape ids w owner q) (heirs_by (target i) i)
        (λ q heir. whole i q kept.0 kept.1 heir)))
        ∙ sym (map_flat (linked_proxy shape ids w owner) (λ i. heirs_by (target i) i) (filter (is_own owner rank) ids))
        ∙ ap (map (linked_proxy shape ids w owner)) (made_are shape levels ids target (regrid_is shape levels ids w can) owner rank)

  -- ---- the round

  -- outer links gathered after others
  gathers_more : (first later : List Outer) (proxies : List Proxy)
      → map (all_gathered later) (map (all_gathered first) proxies) ≡ map (all_gathered (first ++ later)) proxies
  gathers_more first later proxies =
      map_twice (all_gathered later) (all_gathered first) (all_gathered (first ++ later))
      (λ proxy. sym (fold-append gathered_at proxy first later)) proxies

  pub siblings_lead : (members : List ℕ) → IsStrictlyIncreasing members → AreOwned ids owner members
      → LeadsBy (as_delivery (siblings_play shape)) members (siblings_course shape ids w owner members) (made_proxying shape ids w owner) (linked_proxying shape ids w owner)
  siblings_lead members rise owned =
      gathers_by (siblings_play shape) (λ peer (msg : List Outer). msg) (λ rank outers. with_outer outers (made_proxying shape ids w owner rank)) members
      (made_proxying shape ids w owner) (linked_proxying shape ids w owner) (is_neighbor shape ids owner) rise
      (neighbors_mutual shape ids owner members (λ rank. marking_peers members (made_proxying shape ids w owner rank).marking) (λ rank. peers_seen shape levels ids w can owner members rank))
      (record {
        none = λ rank member. ap (λ proxies. at rank proxies) (map-id (made_proxies shape ids w owner rank));
        hear = λ rank peer heard.
            ap (λ proxies. at rank proxies) (gathers_more heard (outer_told shape (made_proxying shape ids w owner peer) rank) (made_proxies shape ids w owner rank));
        finish = λ rank member. finish rank (marking_peers members (made_proxying shape ids w owner rank).marking) (peers_seen shape levels ids w can owner members rank);
      })
    where
      at : (rank : ℕ) → List Proxy → Proxying
      at rank proxies = proxying_of shape ids w owner (heard_homes shape ids w owner rank) proxies rank

      finish : (rank : ℕ) (peers : List ℕ) → peers ≡ filter (is_neighbor shape ids owner rank) members
          → (let gained = with_outer (flat_map (λ peer. outer_told shape (made_proxying shape ids w owner peer) rank) peers) (made_proxying shape ids w owner rank) in
          with_outer (outer_told shape gained rank) gained) ≡ linked_proxying shape ids w owner rank
      finish rank peers are =
          let gained : List Outer = flat_map (λ peer. outer_told shape (made_proxying shape ids w owner peer) rank) peers in
          let so_far : List Proxy = map (all_gathered gained) (made_proxies shape ids w owner rank) in
          ap (at rank)
          (ap (λ outers. map (all_gathered outers) so_far) (told_is so_far rank rank)
          ∙ gathers_more gained (map (outer_at shape ids w owner) (outer_leaves shape ids w owner rank rank)) (made_proxies shape ids w owner rank)
          ∙ ap (λ outers. map (all_gathered outers) (made_proxies shape ids w owner rank))
          (ap (λ outers. outers ++ map (outer_at shape ids w owner) (outer_leaves shape ids w owner rank rank))
          (flat_where (λ peer. outer_told shape (made_proxying shape ids w owner peer) rank) (λ peer. map (outer_at shape ids w owner) (outer_leaves shape ids w owner peer rank)) peers
          (λ peer has. told_is (made_proxies shape ids w owner peer) peer rank)
          ∙ sym (map_flat (outer_at shape ids w owner) (λ peer. outer_leaves shape ids w owner peer rank) peers))
          ∙ sym (map-append (outer_at shape ids w owner) (flat_map (λ peer. outer_leaves shape ids w owner peer rank) peers) (outer_leaves shape ids w owner rank rank)))
          ∙ all_whole members owned rank peers are)
