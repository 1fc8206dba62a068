-- A rank's targets are the new leaves into which its own leaves go.
use Rattle.std.proofs.Common.{◌≡◌, ℕ, Bool, true, false, cond, ◌&&◌, List, [], map, filter, flat_map, Contains, inl, refl, sym, ap, ◌∙◌}
use Rattle.std.proofs.lemmas.Bool.{eqb-true}
use Rattle.std.proofs.lemmas.List.Folds.{flat_map-map}
use Rattle.std.proofs.lemmas.List.Kept.{AllPairs-filter}
use Rattle.bf_lemmas.proofs.Lists.{All-from_Contains, map_each, map_twice}
use Rattle.bf_id.specs.declared.shape.Shape.{Shape}
use Rattle.bf_id.specs.Id.{BlockId}
use Rattle.bf_id.specs.Walk.{IsBefore}
use Rattle.bf_id.proofs.Tilings.{Contains-flat_map_cases}
use Rattle.bf_case.specs.Refinement.{is_among}
use Rattle.bf_case.specs.Regrid.{regridded_ids, target_of}
use Rattle.bf_case.specs.Wishes.{Wishes}
use Rattle.bf_case.specs.declared.target.Target.{Target}
use Rattle.bf_case.proofs.HeirLemmas.{heir_from_follows}
use Rattle.bf_case.proofs.TestLemmas.{Contains-filter, Contains-filter_cases}
use Rattle.bf_links.specs.Links.{link_to, links_of}
use Rattle.bf_links.specs.declared.link.Link.{Link}
use Rattle.bf_marks.proofs.ChosenLemmas.{among_has, among_is}
use Rattle.bf_mark_rounds.specs.Neighbors.{is_own}
use Rattle.bf_mark_rounds.proofs.HeardLemmas.{among_filtered}
use Rattle.bf_proxy.specs.Homes.{go_into, goes_into, home_of, CanRegrid}
use Rattle.bf_proxy.specs.Joined.{joined}
use Rattle.bf_proxy.specs.declared.proxy.Proxy.{Proxy}
use Rattle.bf_proxy.proofs.HomeLemmas.{goes_follows}
use Rattle.bf_proxy.proofs.LawLemmas.{new_rise}
use Rattle.bf_proxy_rounds.specs.Making.{first_owner, proxying_of}
use Rattle.bf_proxy_rounds.specs.Plays.{is_merge, leaf_targets, linked_leaves, octet_home, own_home, own_targets, Proxying}
use Rattle.bf_proxy_rounds.proofs.HomesLemmas.{known_is, leaves_are, linked, octet_home_is}
use Rattle.bf_proxy_rounds.proofs.KnownLemmas.{goes_home, regrid_is}
use Rattle.bf_proxy_rounds.proofs.ToldLemmas.{flat_where, joined_told, map_flat}

module _ (shape : Shape) (levels : ℕ) (ids : List BlockId) (w : Wishes) (can : CanRegrid shape levels ids w) (owner : BlockId → ℕ)
    (homes : List Link) (proxies : List Proxy) (rank : ℕ) where
  abbrev local : Proxying
  local = proxying_of shape ids w owner homes proxies rank

  abbrev becomes : BlockId → Target
  becomes = target_of shape ids w

  abbrev mine : List BlockId
  mine = filter (is_own owner rank) ids

  -- those into which own leaves go, and in their order
  abbrev told : List BlockId
  told = go_into becomes mine

  abbrev rising : List BlockId
  rising = filter (is_among told) (regridded_ids shape ids w)

  home_is : (i q : BlockId) → Contains mine i → Contains (goes_into (becomes i) i) q → own_home local (i, links_of shape ids owner i) ≡ home_of ids owner q
  home_is i q has goes =
      let kept = Contains-filter_cases (is_own owner rank) ids i has in
      ap (λ t. cond (is_merge t) (octet_home local i (links_of shape ids owner i)) rank) (known_is shape levels ids w can owner homes proxies rank i kept.0 (inl kept.1))
      ∙ by (is_merge (becomes i)) refl
      ∙ sym (goes_home shape levels ids w can owner i q kept.0 goes)
    where
      by : (b : Bool) → is_merge (becomes i) ≡ b → cond b (octet_home local i (links_of shape ids owner i)) rank ≡ cond b (first_owner owner i) (owner i)
      by true is = octet_home_is shape levels ids w can owner homes proxies rank i (Contains-filter (λ i. is_merge (becomes i)) mine i has is)
      by false is = sym (eqb-true (owner i) rank (Contains-filter_cases (is_own owner rank) ids i has).1)

  leaf_is : (i : BlockId) → Contains mine i → leaf_targets local (i, links_of shape ids owner i) ≡ map (link_to (home_of ids owner)) (goes_into (becomes i) i)
  leaf_is i has =
      let kept = Contains-filter_cases (is_own owner rank) ids i has in
      let home : BlockId → ℕ = λ q. own_home local (i, links_of shape ids owner i) in
      ap (λ t. map (link_to home) (goes_into t i)) (known_is shape levels ids w can owner homes proxies rank i kept.0 (inl kept.1))
      ∙ map_each (link_to home) (link_to (home_of ids owner)) (goes_into (becomes i) i)
      (All-from_Contains (λ q. link_to home q ≡ link_to (home_of ids owner) q) (goes_into (becomes i) i) (λ q goes. ap (λ (n : ℕ). record { id = q; owner = n }) (home_is i q has goes)))

  all_told : flat_map (leaf_targets local) (linked_leaves local) ≡ map (link_to (home_of ids owner)) told
  all_told =
      ap (flat_map (leaf_targets local)) (leaves_are shape levels ids w can owner homes proxies rank)
      ∙ flat_map-map (leaf_targets local) (linked shape levels ids w can owner) mine
      ∙ flat_where (λ i. leaf_targets local (i, links_of shape ids owner i)) (λ i. map (link_to (home_of ids owner)) (goes_into (becomes i) i)) mine leaf_is
      ∙ sym (map_flat (link_to (home_of ids owner)) (λ i. goes_into (becomes i) i) mine)

  -- each of them is a new leaf
  told_new : (q : BlockId) → Contains told q → Contains (regridded_ids shape ids w) q
  unfolding regridded_ids
  told_new q has =
      let found = Contains-flat_map_cases (λ i. goes_into (becomes i) i) mine q has in
      let kept = Contains-filter_cases (is_own owner rank) ids found.0 found.1 in
      heir_from_follows shape levels ids becomes found.0 q (regrid_is shape levels ids w can).sound
      (kept.0, goes_follows shape levels ids becomes (regrid_is shape levels ids w can) (becomes found.0) found.0 q found.2)

  told_same : (q : BlockId) → is_among told q ≡ is_among rising q
  told_same q = by (is_among told q) refl ∙ sym (among_filtered (is_among told) (regridded_ids shape ids w) q)
    where
      by : (b : Bool) → is_among told q ≡ b → is_among told q ≡ (is_among (regridded_ids shape ids w) q && is_among told q)
      by true is = is ∙ sym (ap (λ b. is_among (regridded_ids shape ids w) q && b) is ∙ ap (λ b. b && true) (among_is (regridded_ids shape ids w) q (told_new q (among_has told q is))))
      by false is = is ∙ sym (ap (λ b. is_among (regridded_ids shape ids w) q && b) is ∙ none (is_among (regridded_ids shape ids w) q))
        where
          none : (b : Bool) → (b && false) ≡ false
          none true = refl
          none false = refl

  pub targets_told : own_targets local ≡ map (λ q. (q, home_of ids owner q)) rising
  targets_told =
      let pair : Link → BlockId × ℕ = λ (link : Link). (link.id, link.owner) in
      ap (λ links. map pair (joined links [])) all_told
      ∙ ap (map pair) (joined_told (home_of ids owner) told rising (AllPairs-filter IsBefore (is_among told) (regridded_ids shape ids w) (new_rise shape levels ids w can)) told_same)
      ∙ map_twice pair (link_to (home_of ids owner)) (λ q. (q, home_of ids owner q)) (λ q. refl) rising
