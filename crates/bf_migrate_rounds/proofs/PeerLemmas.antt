-- The peers of the round: each sees the other, and all that goes goes to peers.
use Rattle.std.proofs.Common.{◌≡◌, ℕ, Bool, true, not, ◌&&◌, ◌||◌, ◌==◌, ◌⊎◌, inl, inr, List, map, filter, Contains, refl, sym, ap, ◌∙◌, subst, IsTrue}
use Rattle.std.specs.List.{list_any}
use Rattle.std.proofs.lemmas.Bool.{and_parts, and_from, or_cases, or_left, or_right, eqb-true, eq-eqb}
use Rattle.bf_lemmas.proofs.Tests.{eqb_swap}
use Rattle.bf_buddy.specs.Members.{is_member}
use Rattle.bf_buddy.proofs.MemberLemmas.{member_filter_from}
use Rattle.bf_id.specs.Id.{BlockId}
use Rattle.bf_id.proofs.Tilings.{Contains-flat_map, Contains-flat_map_cases}
use Rattle.bf_case.specs.declared.case.Case.{Case}
use Rattle.bf_case.specs.declared.target.Target.{Target}
use Rattle.bf_case.specs.Model.{regrids}
use Rattle.bf_case.specs.Refinement.{is_among}
use Rattle.bf_case.proofs.HeirLemmas.{heirs_in}
use Rattle.bf_case.proofs.ListLemmas.{Contains-map, Contains-map_cases}
use Rattle.bf_case.proofs.TestLemmas.{passes_from_any, any_from_passes, Contains-filter, Contains-filter_cases}
use Rattle.bf_block.specs.Runs.{CanRun}
use Rattle.bf_links.specs.Links.{is_owner, link_to}
use Rattle.bf_links.specs.declared.link.Link.{Link}
use Rattle.bf_marks.proofs.ChosenLemmas.{among_has, among_is}
use Rattle.bf_mark_rounds.specs.Neighbors.{is_own, AreOwned}
use Rattle.bf_proxy.specs.Homes.{go_into, goes_into, origin_of}
use Rattle.bf_proxy.specs.Proxies.{sources_by}
use Rattle.bf_proxy.specs.declared.proxy.Proxy.{Proxy}
use Rattle.bf_rounds.specs.Gathering.{AreMutual}
use Rattle.bf_migrate_rounds.specs.Plays.{is_two_way}
use Rattle.bf_migrate_rounds.specs.Shares.{new_ids, old_ids, own_new, own_old, plan_at, proxy_of, target_at, two_way_peers, with_rank, Flows}
use Rattle.bf_migrate_rounds.proofs.BlockLemmas.{comes_from, goal, goes_to, news_are, pieces, regridded_model}
use Rattle.bf_migrate_rounds.proofs.PieceLemmas.{Goes, Into, goes_of, into, source_goes}

module _ (c : Case) (time : ℕ) (runs : CanRun c) (does : IsTrue (regrids c time)) (owner later : BlockId → ℕ) where
  abbrev ids : List BlockId
  ids = old_ids c time

  abbrev news : List BlockId
  news = new_ids c time

  abbrev target : BlockId → Target
  target = target_at c time

  abbrev own : ℕ → List BlockId
  own = own_old c time owner later

  abbrev flows : ℕ → ℕ → Type 0
  flows = Flows c time owner later

  pub is_new : (q : BlockId) → Contains (heirs_in target ids) q → Contains news q
  is_new q has = subst (λ is. Contains is q) (sym (news_are c time runs does)) has

  was_new : (q : BlockId) → Contains news q → Contains (heirs_in target ids) q
  was_new q has = subst (λ is. Contains is q) (news_are c time runs does) has

  pub goes_in : (j q : BlockId) → Contains ids j → Contains (goes_into (target j) j) q → Into c.roots c.levels ids target (regridded_model c time runs does) j q
  goes_in = into c.roots c.levels ids target (regridded_model c time runs does)

  -- ---- by targets

  abbrev by_targets : ℕ → ℕ → Bool
  by_targets rank other = list_any (λ (t : BlockId × ℕ). t.1 == other) (plan_at c time owner later rank).targets

  abbrev pub is_target : ℕ → BlockId → Bool
  is_target rank q = is_among (go_into target (own rank)) q

  targets_flow : (rank other : ℕ) → by_targets rank other ≡ true → flows rank other
  targets_flow rank other some =
      let t = passes_from_any (λ (t : BlockId × ℕ). t.1 == other) (map (with_rank c time owner later) (filter (is_target rank) news)) some in
      let q = Contains-map_cases (with_rank c time owner later) (filter (is_target rank) news) t.0 t.1 in
      let of = Contains-filter_cases (is_target rank) news q.0 q.1 in
      let i = Contains-flat_map_cases (λ i. goes_into (target i) i) (own rank) q.0 (among_has (go_into target (own rank)) q.0 of.1) in
      let its = Contains-filter_cases (is_own owner rank) ids i.0 i.1 in
      record {
        leaf = i.0;
        heir = q.0;
        has = its.0;
        owned = eqb-true (owner i.0) rank its.1;
        goes = i.2;
        there = eqb-true (later q.0) other (subst (λ (x : BlockId × ℕ). (x.1 == other) ≡ true) q.2 t.2);
      }

  -- what goes somewhere is a target
  pub flow_target : (rank : ℕ) (i q : BlockId) → Contains (own rank) i → Contains (goes_into (target i) i) q → Contains (filter (is_target rank) news) q
  flow_target rank i q has goes =
      Contains-filter (is_target rank) news q (is_new q (goes_in i q (Contains-filter_cases (is_own owner rank) ids i has).0 goes).new)
      (among_is (go_into target (own rank)) q (Contains-flat_map (λ i. goes_into (target i) i) (own rank) i q has goes))

  flow_by_targets : (rank other : ℕ) → flows rank other → by_targets rank other ≡ true
  flow_by_targets rank other flow =
      any_from_passes (λ (t : BlockId × ℕ). t.1 == other) (map (with_rank c time owner later) (filter (is_target rank) news))
      (with_rank c time owner later flow.heir)
      (Contains-map (with_rank c time owner later) (filter (is_target rank) news) flow.heir
      (flow_target rank flow.leaf flow.heir (Contains-filter (is_own owner rank) ids flow.leaf flow.has (eq-eqb (owner flow.leaf) rank flow.owned)) flow.goes))
      (eq-eqb (later flow.heir) other flow.there)

  -- ---- by sources

  abbrev by_sources : ℕ → ℕ → Bool
  by_sources rank other = list_any (λ (p : Proxy). is_owner p.sources other) (plan_at c time owner later rank).proxies

  abbrev sources : BlockId → List BlockId
  sources q = sources_by (target (origin_of ids q)) (origin_of ids q)

  abbrev proxy : BlockId → Proxy
  proxy = proxy_of c time owner later

  abbrev own_later : ℕ → List BlockId
  own_later = own_new c time owner later

  sources_flow : (rank other : ℕ) → by_sources rank other ≡ true → flows other rank
  sources_flow rank other some =
      let p = passes_from_any (λ (p : Proxy). is_owner p.sources other) (map proxy (own_later rank)) some in
      let q = Contains-map_cases proxy (own_later rank) p.0 p.1 in
      let its = Contains-filter_cases (is_own later rank) news q.0 q.1 in
      let named : is_owner (proxy q.0).sources other ≡ true = subst (λ (x : Proxy). is_owner x.sources other ≡ true) q.2 p.2 in
      let link = passes_from_any (λ (link : Link). link.owner == other) (map (link_to owner) (sources q.0)) named in
      let j = Contains-map_cases (link_to owner) (sources q.0) link.0 link.1 in
      let of = source_goes c.roots c.levels ids target (regridded_model c time runs does) q.0 j.0 (was_new q.0 its.0) j.1 in
      record {
        leaf = j.0;
        heir = q.0;
        has = of.0;
        owned = eqb-true (owner j.0) other (subst (λ (l : Link). (l.owner == other) ≡ true) {y = link_to owner j.0} j.2 link.2);
        goes = of.1;
        there = eqb-true (later q.0) rank its.1;
      }

  flow_by_sources : (rank other : ℕ) → flows other rank → by_sources rank other ≡ true
  flow_by_sources rank other flow =
      let in' = goes_in flow.leaf flow.heir flow.has flow.goes in
      any_from_passes (λ (p : Proxy). is_owner p.sources other) (map proxy (own_later rank)) (proxy flow.heir)
      (Contains-map proxy (own_later rank) flow.heir
      (Contains-filter (is_own later rank) news flow.heir (is_new flow.heir in'.new) (eq-eqb (later flow.heir) rank flow.there)))
      (any_from_passes (λ (link : Link). link.owner == other) (map (link_to owner) (sources flow.heir)) (link_to owner flow.leaf)
      (Contains-map (link_to owner) (sources flow.heir) flow.leaf in'.source) (eq-eqb (owner flow.leaf) other flow.owned))

  -- ---- both

  abbrev pub sees : ℕ → ℕ → Bool
  sees rank other = is_two_way (plan_at c time owner later rank) other

  pub sees_by : (rank other : ℕ) → not (other == rank) ≡ true → flows rank other ⊎ flows other rank → sees rank other ≡ true
  sees_by rank other apart (inl flow) =
      and_from (not (other == rank)) (by_targets rank other || by_sources rank other) apart
      (or_left (by_targets rank other) (by_sources rank other) (flow_by_targets rank other flow))
  sees_by rank other apart (inr flow) =
      and_from (not (other == rank)) (by_targets rank other || by_sources rank other) apart
      (or_right (by_targets rank other) (by_sources rank other) (flow_by_sources rank other flow))

  pub seen_flows : (rank other : ℕ) → sees rank other ≡ true → (not (other == rank) ≡ true) × (flows rank other ⊎ flows other rank)
  seen_flows rank other seen =
      let parts = and_parts (not (other == rank)) (by_targets rank other || by_sources rank other) seen in
      (parts.0, by (or_cases (by_targets rank other) (by_sources rank other) parts.1))
    where
      by : (by_targets rank other ≡ true) ⊎ (by_sources rank other ≡ true) → flows rank other ⊎ flows other rank
      by (inl some) = inl (targets_flow rank other some)
      by (inr some) = inr (sources_flow rank other some)

  pub mutual_peers : (members : List ℕ) → AreMutual members sees (two_way_peers c time owner later members)
  mutual_peers members = record {
    are = λ rank member. refl;
    apart = λ rank. ap (λ b. not b && (by_targets rank rank || by_sources rank rank)) (eq-eqb rank rank refl);
    both = λ rank other member member' seen.
        let parts = seen_flows rank other seen in
        sees_by other rank (ap not (eqb_swap rank other) ∙ parts.0) (turned rank other parts.1);
  }
    where
      turned : (rank other : ℕ) → flows rank other ⊎ flows other rank → flows other rank ⊎ flows rank other
      turned rank other (inl flow) = inr flow
      turned rank other (inr flow) = inl flow

  -- each piece goes from a member to a member, and to a peer where these are two
  module _ (members : List ℕ) (owned : AreOwned ids owner members) (owned_later : AreOwned news later members) where
    abbrev source : BlockId → ℕ
    source = comes_from c time runs does owner later

    abbrev destination : BlockId → ℕ
    destination = goes_to c time runs does owner later

    pub piece_flows : (p : BlockId) → Contains (pieces c time runs does) p → flows (source p) (destination p)
    piece_flows p has =
        let piece : Goes c.roots c.levels ids target (regridded_model c time runs does) p = goes_of c.roots c.levels ids target
        (regridded_model c time runs does) p has in
        record { leaf = origin_of ids p; heir = goal c time runs does p; has = piece.leaf; owned = refl; goes = piece.goes; there = refl }

    pub source_owned : (p : BlockId) → Contains (pieces c time runs does) p → is_member members (source p) ≡ true
    source_owned p has = let flow = piece_flows p has in ap (λ n. is_member members n) (sym flow.owned) ∙ owned flow.leaf flow.has

    pub destination_owned : (p : BlockId) → Contains (pieces c time runs does) p → is_member members (destination p) ≡ true
    destination_owned p has =
        let flow = piece_flows p has in
        ap (λ n. is_member members n) (sym flow.there) ∙ owned_later flow.heir (is_new flow.heir (goes_in flow.leaf flow.heir flow.has flow.goes).new)

    pub goes_to_peers : (p : BlockId) → Contains (pieces c time runs does) p → not (destination p == source p) ≡ true
        → is_member (two_way_peers c time owner later members (source p)) (destination p) ≡ true
    goes_to_peers p has moved =
        member_filter_from (sees (source p)) members (destination p) (destination_owned p has) (sees_by (source p) (destination p) moved (inl (piece_flows p has)))
