-- Of a rank's leaves the proxies can be made.
use Rattle.std.proofs.Common.{◌≡◌, ℕ, ◌<◌, ◌≤◌, true, get_or, List, ◌++◌, ◌⊎◌, inl, inr, length, map, filter, All, Contains, sym, ◌∙◌, subst, arith}
use Rattle.std.specs.Prelude.{AllPairs}
use Rattle.std.proofs.lemmas.List.{get_or-map, length-map}
use Rattle.std.proofs.lemmas.List.Elements.{All-contains}
use Rattle.std.proofs.lemmas.List.Kept.{AllPairs-filter}
use Rattle.bf_lemmas.proofs.Lists.{All-from_Contains}
use Rattle.bf_id.specs.declared.shape.Shape.{Shape}
use Rattle.bf_id.specs.Id.{BlockId, InShape, children_of, level_of, octant_of, parent_of, touches}
use Rattle.bf_id.specs.Walk.{IsBefore}
use Rattle.bf_id.proofs.Tilings.{Contains-child}
use Rattle.bf_case.specs.Regrid.{heirs_by, target_of}
use Rattle.bf_case.specs.Wishes.{Wishes}
use Rattle.bf_case.specs.declared.target.Target.{Target}
use Rattle.bf_case.specs.declared.target.Target.TheVariants.{Merge}
use Rattle.bf_case.proofs.HeirLemmas.{IsInOctet}
use Rattle.bf_case.proofs.ListLemmas.{Contains-map_cases}
use Rattle.bf_case.proofs.OctetLemmas.{level-parent}
use Rattle.bf_case.proofs.TestLemmas.{Contains-filter_cases}
use Rattle.bf_links.specs.Links.{link_to, links_of, touching, ComesBefore}
use Rattle.bf_links.specs.declared.link.Link.{Link}
use Rattle.bf_mark_rounds.specs.Neighbors.{is_near, is_neighbors, is_own}
use Rattle.bf_mark_rounds.proofs.NeighborLemmas.{near_by as near_from}
use Rattle.bf_proxy.specs.Homes.{near_links, outer_links, CanRegrid}
use Rattle.bf_proxy.specs.Proxies.{known_links, sources_by}
use Rattle.bf_proxy.specs.declared.proxy.Proxy.{Proxy}
use Rattle.bf_proxy.proofs.LawLemmas.{few, inside, others, outer_valid}
use Rattle.bf_proxy_rounds.specs.Calls.{near_by, sources_of, CanMake, HasRoom, IsMakable}
use Rattle.bf_proxy_rounds.specs.Making.{first_owner, heard_homes, proxying_of}
use Rattle.bf_proxy_rounds.specs.Plays.{is_merge, known_target, own_homes, Proxying}
use Rattle.bf_proxy_rounds.proofs.HomesLemmas.{known_is, leaves_are, linked, near_is, sources_are}
use Rattle.bf_proxy_rounds.proofs.KnownLemmas.{octet_of, regrid_is}

-- links to rising leaves rise
pub links_rise : (f : BlockId → ℕ) (is : List BlockId) → AllPairs IsBefore is → AllPairs ComesBefore (map (link_to f) is)
links_rise f is rising i j d before within =
    let long : length (map (link_to f) is) ≡ length is = length-map is (link_to f) in
    let in_j : j < length is = omega arith in
    let first : (k : ℕ) → k < length is → get_or (map (link_to f) is) k d ≡ link_to f (get_or is k d.id) = λ k below. get_or-map (link_to f) is k d.id d below in
    subst (λ (l : Link). IsBefore (get_or (map (link_to f) is) i d).id l.id) (sym (first j in_j))
    (subst (λ (l : Link). IsBefore l.id (get_or is j d.id)) (sym (first i (omega arith))) (rising i j d.id before in_j))

module _ (shape : Shape) (levels : ℕ) (ids : List BlockId) (w : Wishes) (can : CanRegrid shape levels ids w) (owner : BlockId → ℕ) (proxies : List Proxy) (rank : ℕ) where
  abbrev heard : List Link
  heard = heard_homes shape ids w owner rank

  abbrev local : Proxying
  local = proxying_of shape ids w owner heard proxies rank

  abbrev becomes : BlockId → Target
  becomes = target_of shape ids w

  abbrev near : BlockId → List Link
  near i = near_links shape ids becomes owner i

  abbrev known : (i : BlockId) → Contains ids i → (is_own owner rank i ≡ true) ⊎ (is_near shape ids owner rank i ≡ true) → known_target local i ≡ becomes i
  known i has seen = known_is shape levels ids w can owner heard proxies rank i has seen

  room : (i : BlockId) → Contains ids i → (is_own owner rank i ≡ true) ⊎ (is_near shape ids owner rank i ≡ true) → HasRoom local.marking.marks i
  room i has seen refined =
      let low : level_of i < levels = (regrid_is shape levels ids w can).sound.room i has (sym (known i has seen) ∙ refined) in
      omega (arith, low, can.few)

  few_outer : (i : BlockId) → Contains ids i → becomes i ≡ Merge → length (outer_links shape ids becomes owner i) ≤ 56
  few_outer i has merge =
      let octet : IsInOctet ids becomes i = octet_of shape levels ids w can i has merge in
      (outer_valid shape levels ids w owner can (parent_of i) i (octet.leaves 0 (omega arith)) (octet.merge 0 (omega arith))
      (subst (Contains (children_of (parent_of i))) (sym octet.child) (Contains-child (parent_of i) (octant_of i) octet.octal))).few

  makable : (i : BlockId) → Contains ids i → is_own owner rank i ≡ true
      → IsMakable shape rank local.marking.marks (own_homes local ++ heard) (i, links_of shape ids owner i)
  makable i has its =
      let links : List Link = links_of shape ids owner i in
      let goes : known_target local i ≡ becomes i = known i has (inl its) in
      let near_same : near_by local.marking.marks (own_homes local ++ heard) i links ≡ near i = near_is shape levels ids w can owner proxies rank i has its in
      let from : sources_of rank (known_target local i) i links ≡ map (link_to owner) (sources_by (becomes i) i) = sources_are shape levels ids w can owner heard proxies rank i has its in
      record {
        inside = All-contains (InShape shape) ids i can.leaves.in_shape has;
        room = room i has (inl its);
        deep = λ merge.
            let octet : IsInOctet ids becomes i = octet_of shape levels ids w can i has (sym goes ∙ merge) in
            omega (arith, level-parent i octet.child);
        linked_room = All-from_Contains (λ (link : Link). HasRoom local.marking.marks link.id) links (λ link in'.
            let of = Contains-map_cases (link_to owner) (filter (touches shape i) ids) link in' in
            let kept = Contains-filter_cases (touches shape i) ids of.0 of.1 in
            subst (λ (l : Link). HasRoom local.marking.marks l.id) (sym of.2) (room of.0 kept.0 (inr (near_from shape ids owner rank i of.0 has its kept.1))));
        near_inside = subst (All (λ (link : Link). InShape shape link.id)) (sym near_same) (inside shape levels ids w owner can i);
        others = subst (λ t. All (λ (link : Link). Contains (heirs_by t i) link.id → ⊥) (near_by local.marking.marks (own_homes local ++ heard) i links)) (sym goes)
            (subst (All (λ (link : Link). Contains (heirs_by (becomes i) i) link.id → ⊥)) (sym near_same) (others shape levels ids w owner can i));
        few = subst (λ t. All (λ q. length (touching shape q (known_links t i (sources_of rank (known_target local i) i links) (near_by local.marking.marks (own_homes local ++ heard) i links))) ≤ 56) (heirs_by t i)) (sym goes)
            (subst (λ sources. All (λ q. length (touching shape q (known_links (becomes i) i sources (near_by local.marking.marks (own_homes local ++ heard) i links))) ≤ 56) (heirs_by (becomes i) i)) (sym from)
            (subst (λ links. All (λ q. length (touching shape q (known_links (becomes i) i (map (link_to owner) (sources_by (becomes i) i)) links)) ≤ 56) (heirs_by (becomes i) i)) (sym near_same)
            (few shape levels ids w owner can i has)));
        few_outer = λ merge. subst (λ links. length (touching shape (parent_of i) links) ≤ 56) (sym near_same) (few_outer i has (sym goes ∙ merge));
      }

  pub can_make : CanMake shape local
  can_make = record {
    rising = AllPairs-filter IsBefore (is_own owner rank) ids can.leaves.rising;
    heard = links_rise (first_owner owner) (filter (λ i. is_merge (becomes i)) (filter (is_neighbors shape ids owner rank) ids))
        (AllPairs-filter IsBefore (λ i. is_merge (becomes i)) (filter (is_neighbors shape ids owner rank) ids) (AllPairs-filter IsBefore (is_neighbors shape ids owner rank) ids can.leaves.rising));
    leaves = subst (All (IsMakable shape rank local.marking.marks (own_homes local ++ heard))) (sym (leaves_are shape levels ids w can owner heard proxies rank))
        (All-from_Contains (IsMakable shape rank local.marking.marks (own_homes local ++ heard)) (map (linked shape levels ids w can owner) (filter (is_own owner rank) ids)) (λ leaf in'.
        let of = Contains-map_cases (linked shape levels ids w can owner) (filter (is_own owner rank) ids) leaf in' in
        let kept = Contains-filter_cases (is_own owner rank) ids of.0 of.1 in
        subst (IsMakable shape rank local.marking.marks (own_homes local ++ heard)) (sym of.2) (makable of.0 kept.0 kept.1)));
  }

  pub own_room : All (HasRoom local.marking.marks) (filter (is_own owner rank) ids)
  own_room = All-from_Contains (HasRoom local.marking.marks) (filter (is_own owner rank) ids) (λ i in'.
      let kept = Contains-filter_cases (is_own owner rank) ids i in' in
      room i kept.0 (inl kept.1))
