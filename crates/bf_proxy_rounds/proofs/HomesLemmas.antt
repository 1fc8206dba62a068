-- The round of homes leads to the proxies as their ranks make them.
use Rattle.std.proofs.Common.{◌≡◌, ℕ, Bool, true, false, cond, not, ◌&&◌, ◌||◌, List, [], ◌++◌, ◌⊎◌, inl, inr, map, filter, flat_map, Contains, refl, sym, ap, ◌∙◌, subst, arith}
use Rattle.std.specs.Prelude.{None, Some, unwrap_or}
use Rattle.std.specs.List.Sorted.{IsStrictlyIncreasing}
use Rattle.std.proofs.lemmas.List.{map-append}
use Rattle.std.proofs.lemmas.List.Folds.{flat_map-map, list_any-append}
use Rattle.std.proofs.lemmas.List.Kept.{AllPairs-filter}
use Rattle.bf_lemmas.proofs.Lists.{All-from_Contains, filter_mapped, map_each, map_twice}
use Rattle.bf_id.specs.declared.shape.Shape.{Shape}
use Rattle.bf_id.specs.Id.{BlockId, child_of, id_eq, parent_of, touches}
use Rattle.bf_id.specs.Walk.{IsBefore}
use Rattle.bf_id.proofs.Tilings.{Contains-child}
use Rattle.bf_case.specs.Refinement.{is_among}
use Rattle.bf_case.specs.Regrid.{target_of}
use Rattle.bf_case.specs.Wishes.{Wishes}
use Rattle.bf_case.specs.declared.target.Target.{Target}
use Rattle.bf_case.proofs.TestLemmas.{Contains-filter_cases}
use Rattle.bf_links.specs.Links.{link_to, links_of, owner_of}
use Rattle.bf_links.specs.declared.link.Link.{Link}
use Rattle.bf_marks.proofs.ChosenLemmas.{among_is}
use Rattle.bf_marks.proofs.RefinedLemmas.{filter_where}
use Rattle.bf_mark_rounds.specs.Neighbors.{is_near, is_neighbor, is_neighbors, is_own, AreOwned}
use Rattle.bf_mark_rounds.specs.Plays.{marking_peers}
use Rattle.bf_mark_rounds.specs.Shares.{found_below, share}
use Rattle.bf_mark_rounds.proofs.HeardLemmas.{among_filtered}
use Rattle.bf_mark_rounds.proofs.NeighborLemmas.{heard_is, near_by, near_neighbors, neighbors_mutual, peers_are}
use Rattle.bf_mark_rounds.proofs.RoundLemmas.{targets_are}
use Rattle.bf_proxy.specs.Homes.{go_into, goes_into, home_of, made_at, near_links, CanRegrid}
use Rattle.bf_proxy.specs.Joined.{joined}
use Rattle.bf_proxy.specs.Proxies.{proxies_of, sources_by}
use Rattle.bf_proxy.specs.declared.proxy.Proxy.{Proxy}
use Rattle.bf_rounds.specs.Delivering.{as_delivery}
use Rattle.bf_rounds.specs.Gathering.{gathered}
use Rattle.bf_rounds.specs.Leading.{LeadsBy}
use Rattle.bf_rounds.proofs.LeadLemmas.{gathers_by}
use Rattle.bf_proxy_rounds.specs.Making.{first_owner, heard_homes, homes_among, homes_course, made_proxies, made_proxying, proxying_of, settled_marking, unmade_proxying}
use Rattle.bf_proxy_rounds.specs.Plays.{homes_play, is_merge, known_target, linked_home, linked_leaves, linked_near, made_by, merging_leaves, near_known, octet_home, own_homes, sibling_owner, with_made, LinkedLeaf, Proxying}
use Rattle.bf_proxy_rounds.proofs.KnownLemmas.{goes_home, merge_from, source_owner}
use Rattle.bf_proxy_rounds.proofs.ToldLemmas.{flat_where, joined_append, joined_told, map_flat, owner_told, zip_mapped}

-- tests in another order
and_swap : (a b c : Bool) → ((a && b) && c) ≡ (b && (a && c))
and_swap true b c = refl
and_swap false true c = refl
and_swap false false c = refl

-- what is an own leaf's or a neighbour's
either_known : (a o n m : Bool) → a ≡ true → n ≡ not o → (((a && o) && m) || ((a && n) && m)) ≡ m
either_known a o n m is_in is = ap (λ b. ((b && o) && m) || ((b && n) && m)) is_in ∙ ap (λ b. (o && m) || (b && m)) is ∙ by o m
  where
    by : (o m : Bool) → ((o && m) || (not o && m)) ≡ m
    by true true = refl
    by true false = refl
    by false m = refl

unwrapped : (b : Bool) (m n : ℕ) → unwrap_or (cond b (Some m) None) n ≡ cond b m n
unwrapped true m n = refl
unwrapped false m n = refl

module _ (shape : Shape) (levels : ℕ) (ids : List BlockId) (w : Wishes) (can : CanRegrid shape levels ids w) (owner : BlockId → ℕ) where
  abbrev pub target : BlockId → Target
  target = target_of shape ids w

  abbrev pub merging : BlockId → Bool
  merging i = is_merge (target i)

  abbrev pub own : (rank : ℕ) → List BlockId
  own rank = filter (is_own owner rank) ids

  -- a leaf with its links
  abbrev pub linked : BlockId → LinkedLeaf
  linked i = (i, links_of shape ids owner i)

  -- ---- what a rank knows, whatever it has heard and made

  module _ (homes : List Link) (proxies : List Proxy) (rank : ℕ) where
    abbrev local : Proxying
    local = proxying_of shape ids w owner homes proxies rank

    pub known_is : (i : BlockId) → Contains ids i → (is_own owner rank i ≡ true) ⊎ (is_near shape ids owner rank i ≡ true) → known_target local i ≡ target i
    known_is i has known = targets_are shape ids levels can.leaves can.few w owner rank i has known

    pub leaves_are : linked_leaves local ≡ map linked (own rank)
    leaves_are = zip_mapped (links_of shape ids owner) (own rank)

    pub merging_are : merging_leaves local ≡ map linked (filter merging (own rank))
    merging_are =
        let test : LinkedLeaf → Bool = λ (leaf : LinkedLeaf). is_merge (known_target local leaf.0) in
        ap (filter test) leaves_are
        ∙ filter_mapped test linked (own rank)
        ∙ ap (map linked) (filter_where (λ i. is_merge (known_target local i)) merging (own rank) (λ i has.
        let kept = Contains-filter_cases (is_own owner rank) ids i has in ap is_merge (known_is i kept.0 (inl kept.1))))

    -- the links of a merging leaf name who has the first of its octet
    pub octet_home_is : (i : BlockId) → Contains (filter merging (own rank)) i → octet_home local i (links_of shape ids owner i) ≡ first_owner owner i
    octet_home_is i has =
        let kept = Contains-filter_cases merging (own rank) i has in
        let its = Contains-filter_cases (is_own owner rank) ids i kept.0 in
        source_owner shape levels ids w can owner rank i (child_of (parent_of i) 0) its.0 its.1
        (subst (λ t. Contains (sources_by t i) (child_of (parent_of i) 0)) (sym (merge_from (target i) kept.1)) (Contains-child (parent_of i) 0 (omega arith)))

    pub own_homes_are : own_homes local ≡ homes_among shape ids w owner (own rank)
    own_homes_are =
        let to_first : LinkedLeaf → Link = λ (leaf : LinkedLeaf). link_to (λ i. octet_home local i leaf.1) leaf.0 in
        ap (map to_first) merging_are
        ∙ map_twice to_first linked (λ i. link_to (λ i. octet_home local i (links_of shape ids owner i)) i) (λ i. refl) (filter merging (own rank))
        ∙ map_each (λ i. link_to (λ i. octet_home local i (links_of shape ids owner i)) i) (link_to (first_owner owner)) (filter merging (own rank))
        (All-from_Contains (λ i. link_to (λ i. octet_home local i (links_of shape ids owner i)) i ≡ link_to (first_owner owner) i) (filter merging (own rank))
        (λ i has. ap (λ (n : ℕ). record { id = i; owner = n }) (octet_home_is i has)))

    pub sources_are : (i : BlockId) → Contains ids i → is_own owner rank i ≡ true
        → map (link_to (sibling_owner local (links_of shape ids owner i))) (sources_by (known_target local i) i) ≡ map (link_to owner) (sources_by (target i) i)
    sources_are i has its =
        ap (λ t. map (link_to (sibling_owner local (links_of shape ids owner i))) (sources_by t i)) (known_is i has (inl its))
        ∙ map_each (link_to (sibling_owner local (links_of shape ids owner i))) (link_to owner) (sources_by (target i) i)
        (All-from_Contains (λ s. link_to (sibling_owner local (links_of shape ids owner i)) s ≡ link_to owner s) (sources_by (target i) i)
        (λ s source. ap (λ (n : ℕ). record { id = s; owner = n }) (source_owner shape levels ids w can owner rank i s has its source)))

  -- ---- what it hears

  merging_among : (test : BlockId → Bool) (i : BlockId) → is_among (filter merging (filter test ids)) i ≡ (test i && is_among (filter merging ids) i)
  merging_among test i =
      among_filtered merging (filter test ids) i
      ∙ ap (λ b. b && merging i) (among_filtered test ids i)
      ∙ and_swap (is_among ids i) (test i) (merging i)
      ∙ ap (λ b. test i && b) (sym (among_filtered merging ids i))

  pub homes_gained : (members : List ℕ) → AreOwned ids owner members → (rank : ℕ) (peers : List ℕ) → peers ≡ filter (is_neighbor shape ids owner rank) members
      → joined (gathered (λ peer (msg : List Link). msg) (λ from to. own_homes (unmade_proxying shape ids w owner from)) rank peers) [] ≡ heard_homes shape ids w owner rank
  homes_gained members owned rank peers are =
      ap (λ homes. joined homes [])
      (flat_where (λ peer. own_homes (unmade_proxying shape ids w owner peer)) (λ peer. homes_among shape ids w owner (own peer)) peers (λ peer has. own_homes_are [] [] peer)
      ∙ sym (map_flat (link_to (first_owner owner)) (λ peer. filter merging (own peer)) peers))
      ∙ joined_told (first_owner owner) (flat_map (λ peer. filter merging (own peer)) peers) (filter merging (filter (is_neighbors shape ids owner rank) ids))
      (AllPairs-filter IsBefore merging (filter (is_neighbors shape ids owner rank) ids) (AllPairs-filter IsBefore (is_neighbors shape ids owner rank) ids can.leaves.rising))
      (λ j.
      heard_is shape ids owner members owned (filter merging ids) (λ i has. (Contains-filter_cases merging ids i has).0) (λ to i. true) (λ from to. filter merging (own from))
      (λ from to i. merging_among (is_own owner from) i) rank peers are j
      ∙ sym (merging_among (is_neighbors shape ids owner rank) j))

  -- ---- what it makes

  module _ (proxies : List Proxy) (rank : ℕ) where
    abbrev informed : Proxying
    informed = proxying_of shape ids w owner (heard_homes shape ids w owner rank) proxies rank

    -- of a leaf that is its own or touches one, a rank knows the home exactly where it merges
    home_told : (j : BlockId) → Contains ids j → is_near shape ids owner rank j ≡ true
        → owner_of (own_homes informed ++ heard_homes shape ids w owner rank) j ≡ cond (merging j) (Some (first_owner owner j)) None
    home_told j has near =
        let mine : List BlockId = filter merging (own rank) in
        let theirs : List BlockId = filter merging (filter (is_neighbors shape ids owner rank) ids) in
        ap (λ homes. owner_of (homes ++ heard_homes shape ids w owner rank) j) (own_homes_are (heard_homes shape ids w owner rank) proxies rank)
        ∙ ap (λ homes. owner_of homes j) (sym (map-append (link_to (first_owner owner)) mine theirs))
        ∙ owner_told (first_owner owner) (mine ++ theirs) j
        ∙ ap (λ b. cond b (Some (first_owner owner j)) None)
        (list_any-append (id_eq j) mine theirs
        ∙ ap (λ b. b || is_among theirs j) (among_filtered merging (own rank) j ∙ ap (λ b. b && merging j) (among_filtered (is_own owner rank) ids j))
        ∙ ap (λ b. ((is_among ids j && is_own owner rank j) && merging j) || b)
        (among_filtered merging (filter (is_neighbors shape ids owner rank) ids) j ∙ ap (λ b. b && merging j) (among_filtered (is_neighbors shape ids owner rank) ids j))
        ∙ either_known (is_among ids j) (is_own owner rank j) (is_neighbors shape ids owner rank j) (merging j) (among_is ids j has) (near_neighbors shape ids owner rank j has near))

    near_leaf : (j : BlockId) → Contains ids j → is_near shape ids owner rank j ≡ true → linked_near informed (link_to owner j) ≡ map (link_to (home_of ids owner)) (goes_into (target j) j)
    near_leaf j has near =
        ap (λ t. map (link_to (λ q. linked_home informed (link_to owner j))) (goes_into t j)) (known_is (heard_homes shape ids w owner rank) proxies rank j has (inr near))
        ∙ map_each (link_to (λ q. linked_home informed (link_to owner j))) (link_to (home_of ids owner)) (goes_into (target j) j)
        (All-from_Contains (λ q. link_to (λ q. linked_home informed (link_to owner j)) q ≡ link_to (home_of ids owner) q) (goes_into (target j) j)
        (λ q goes. ap (λ (n : ℕ). record { id = q; owner = n })
        (ap (λ o. unwrap_or o (owner j)) (home_told j has near) ∙ unwrapped (merging j) (first_owner owner j) (owner j) ∙ sym (goes_home shape levels ids w can owner j q has goes))))

    pub near_is : (i : BlockId) → Contains ids i → is_own owner rank i ≡ true → near_known informed i (links_of shape ids owner i) ≡ near_links shape ids target owner i
    unfolding near_links
    near_is i has its =
        ap (λ t. joined (filter (λ (link : Link). not (is_among (goes_into t i) link.id)) (flat_map (linked_near informed) (links_of shape ids owner i))) [])
        (known_is (heard_homes shape ids w owner rank) proxies rank i has (inl its))
        ∙ ap (λ links. joined (filter (λ (link : Link). not (is_among (goes_into (target i) i) link.id)) links) [])
        (flat_map-map (linked_near informed) (link_to owner) (filter (touches shape i) ids)
        ∙ flat_where (λ j. linked_near informed (link_to owner j)) (λ j. map (link_to (home_of ids owner)) (goes_into (target j) j)) (filter (touches shape i) ids)
        (λ j in'. let kept = Contains-filter_cases (touches shape i) ids j in' in near_leaf j kept.0 (near_by shape ids owner rank i j has its kept.1))
        ∙ sym (map_flat (link_to (home_of ids owner)) (λ j. goes_into (target j) j) (filter (touches shape i) ids)))
        ∙ ap (λ links. joined links [])
        (filter_mapped (λ (link : Link). not (is_among (goes_into (target i) i) link.id)) (link_to (home_of ids owner)) (go_into target (filter (touches shape i) ids)))

    made_is : (i : BlockId) → Contains ids i → is_own owner rank i ≡ true → made_by shape informed i (links_of shape ids owner i) ≡ made_at shape ids target owner i
    made_is i has its =
        let links : List Link = links_of shape ids owner i in
        ap (λ t. proxies_of shape i t (map (link_to (sibling_owner informed links)) (sources_by (known_target informed i) i)) (near_known informed i links))
        (known_is (heard_homes shape ids w owner rank) proxies rank i has (inl its))
        ∙ ap (λ sources. proxies_of shape i (target i) sources (near_known informed i links)) (sources_are (heard_homes shape ids w owner rank) proxies rank i has its)
        ∙ ap (proxies_of shape i (target i) (map (link_to owner) (sources_by (target i) i))) (near_is i has its)

    pub all_made : flat_map (λ (leaf : LinkedLeaf). made_by shape informed leaf.0 leaf.1) (linked_leaves informed) ≡ made_proxies shape ids w owner rank
    all_made =
        ap (flat_map (λ (leaf : LinkedLeaf). made_by shape informed leaf.0 leaf.1)) (leaves_are (heard_homes shape ids w owner rank) proxies rank)
        ∙ flat_map-map (λ (leaf : LinkedLeaf). made_by shape informed leaf.0 leaf.1) linked (own rank)
        ∙ flat_where (λ i. made_by shape informed i (links_of shape ids owner i)) (made_at shape ids target owner) (own rank)
        (λ i has. let kept = Contains-filter_cases (is_own owner rank) ids i has in made_is i kept.0 kept.1)

  -- the peers are the neighbours
  pub peers_seen : (members : List ℕ) (rank : ℕ)
      → marking_peers members (settled_marking shape ids w owner rank) ≡ filter (is_neighbor shape ids owner rank) members
  peers_seen members rank = peers_are shape ids owner members rank (share shape ids w owner (found_below shape ids w 0 0) (found_below shape ids w 0 0) rank)

  pub homes_lead : (members : List ℕ) → IsStrictlyIncreasing members → AreOwned ids owner members
      → LeadsBy (as_delivery (homes_play shape)) members (homes_course shape ids w owner members) (unmade_proxying shape ids w owner) (made_proxying shape ids w owner)
  unfolding joined
  homes_lead members rise owned =
      gathers_by (homes_play shape) (λ peer (msg : List Link). msg) (λ rank homes. proxying_of shape ids w owner (joined homes []) [] rank) members
      (unmade_proxying shape ids w owner) (made_proxying shape ids w owner) (is_neighbor shape ids owner) rise
      (neighbors_mutual shape ids owner members (λ rank. marking_peers members (unmade_proxying shape ids w owner rank).marking) (λ rank. peers_seen members rank))
      (record {
        none = λ rank member. refl;
        hear = λ rank peer heard.
            ap (λ homes. proxying_of shape ids w owner homes [] rank) (sym (joined_append heard (own_homes (unmade_proxying shape ids w owner peer)) []));
        finish = λ rank member.
            let peers : List ℕ = marking_peers members (unmade_proxying shape ids w owner rank).marking in
            ap (λ homes. with_made shape (proxying_of shape ids w owner homes [] rank)) (homes_gained members owned rank peers (peers_seen members rank))
            ∙ ap (λ proxies. proxying_of shape ids w owner (heard_homes shape ids w owner rank) proxies rank) (all_made [] rank);
      })
