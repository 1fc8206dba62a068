-- Neighbours, and what they tell.
use Rattle.std.proofs.Common.{◌≡◌, ℕ, Bool, true, false, not, ◌&&◌, ◌==◌, List, map, filter, Contains, refl, sym, ap, ◌∙◌, subst}
use Rattle.std.specs.List.{list_any}
use Rattle.std.proofs.lemmas.Bool.{and_parts, and_from, eqb-true, eq-eqb}
use Rattle.bf_lemmas.proofs.Tests.{eqb_swap, same_tests}
use Rattle.bf_lemmas.proofs.Lists.{any_mapped, any_filtered, any_pair_swapped}
use Rattle.bf_id.specs.declared.shape.Shape.{Shape}
use Rattle.bf_id.specs.Id.{BlockId, touches}
use Rattle.bf_id.proofs.Tilings.{Contains-flat_map, Contains-flat_map_cases}
use Rattle.bf_case.specs.Refinement.{is_among}
use Rattle.bf_case.proofs.TestLemmas.{passes_from_any, any_from_passes}
use Rattle.bf_buddy.specs.Members.{is_member}
use Rattle.bf_buddy.proofs.MemberLemmas.{member_filter}
use Rattle.bf_links.specs.Links.{is_owner, link_to, links_of}
use Rattle.bf_links.specs.declared.link.Link.{Link}
use Rattle.bf_rounds.specs.Gathering.{AreMutual, gathered}
use Rattle.bf_marks.specs.Marks.{MarksValue}
use Rattle.bf_marks.proofs.ChosenLemmas.{among_has, among_is}
use Rattle.bf_marks.proofs.RefinedLemmas.{touches_back}
use Rattle.bf_mark_rounds.specs.Neighbors.{AreOwned, is_own, is_near, is_neighbor, is_neighbors}
use Rattle.bf_mark_rounds.specs.Plays.{marking_peers}

module _ (shape : Shape) (ids : List BlockId) (owner : BlockId → ℕ) where
  touches_swap : (i j : BlockId) → touches shape i j ≡ touches shape j i
  touches_swap i j = same_tests (touches shape i j) (touches shape j i) (touches_back shape i j) (touches_back shape j i)

  -- a leaf is linked with an owner's where it is near one of that owner's
  pub linked_is : (rank : ℕ) (i : BlockId) → is_owner (links_of shape ids owner i) rank ≡ is_near shape ids owner rank i
  linked_is rank i = any_mapped (λ (link : Link). link.owner == rank) (link_to owner) (filter (touches shape i) ids) ∙ any_filtered (λ j. owner j == rank) (touches shape i) ids

  any_linked : (rank other : ℕ) → list_any (λ links. is_owner links other) (map (links_of shape ids owner) (filter (is_own owner rank) ids))
      ≡ list_any (λ i. is_own owner rank i && is_near shape ids owner other i) ids
  any_linked rank other =
      any_mapped (λ links. is_owner links other) (links_of shape ids owner) (filter (is_own owner rank) ids)
      ∙ any_filtered (λ i. is_owner (links_of shape ids owner i) other) (is_own owner rank) ids
      ∙ ap (λ (f : BlockId → Bool). list_any (λ i. is_own owner rank i && f i) ids) (λ k i. linked_is other i k)

  -- the peers of a rank are the neighbours among the members
  pub peers_are : (members : List ℕ) (rank : ℕ) (marks : MarksValue)
      → marking_peers members (record { rank = rank; links = map (links_of shape ids owner) (filter (is_own owner rank) ids); marks = marks }) ≡ filter (is_neighbor shape ids owner rank) members
  peers_are members rank marks = ap (λ (f : ℕ → Bool). filter (λ peer. not (peer == rank) && f peer) members) (λ k peer. any_linked rank peer k)

  neighbor_back : (rank other : ℕ) → is_neighbor shape ids owner rank other ≡ true → is_neighbor shape ids owner other rank ≡ true
  neighbor_back rank other sees =
      let parts = and_parts (not (other == rank)) (list_any (λ i. is_own owner rank i && is_near shape ids owner other i) ids) sees in
      and_from (not (rank == other)) (list_any (λ i. is_own owner other i && is_near shape ids owner rank i) ids) (ap not (eqb_swap rank other) ∙ parts.0)
      (any_pair_swapped (touches shape) touches_swap (is_own owner rank) (is_own owner other) ids parts.1)

  pub neighbors_mutual : (members : List ℕ) (peers : ℕ → List ℕ) → ((rank : ℕ) → peers rank ≡ filter (is_neighbor shape ids owner rank) members) → AreMutual members (is_neighbor shape ids owner) peers
  neighbors_mutual members peers are = record {
    are = λ rank is_in. are rank;
    apart = λ rank. let same : (rank == rank) ≡ true = eq-eqb rank rank refl in rw same refl;
    both = λ rank other is_in other_in sees. neighbor_back rank other sees;
  }

  -- a leaf that touches an own one is near
  pub near_by : (rank : ℕ) (i j : BlockId) → Contains ids i → is_own owner rank i ≡ true → touches shape i j ≡ true → is_near shape ids owner rank j ≡ true
  near_by rank i j has own touch =
      any_from_passes (λ k. touches shape j k && is_own owner rank k) ids i has (and_from (touches shape j i) (is_own owner rank i) (touches_back shape i j touch) own)

  -- of a leaf that touches an own one the owner is a neighbour
  near_neighbor : (rank : ℕ) (i : BlockId) → Contains ids i → is_near shape ids owner rank i ≡ true → list_any (λ k. is_own owner rank k && is_near shape ids owner (owner i) k) ids ≡ true
  near_neighbor rank i has near =
      let j = passes_from_any (λ j. touches shape i j && is_own owner rank j) ids near in
      let parts = and_parts (touches shape i j.0) (is_own owner rank j.0) j.2 in
      any_from_passes (λ k. is_own owner rank k && is_near shape ids owner (owner i) k) ids j.0 j.1
      (and_from (is_own owner rank j.0) (is_near shape ids owner (owner i) j.0) parts.1
      (near_by (owner i) i j.0 has (eq-eqb (owner i) (owner i) refl) parts.0))

  pub near_neighbors : (rank : ℕ) (i : BlockId) → Contains ids i → is_near shape ids owner rank i ≡ true → is_neighbors shape ids owner rank i ≡ not (is_own owner rank i)
  near_neighbors rank i has near = ap (λ b. not (is_own owner rank i) && b) (near_neighbor rank i has near) ∙ and_one (not (is_own owner rank i))
    where
      and_one : (a : Bool) → (a && true) ≡ a
      and_one true = refl
      and_one false = refl

  -- what a rank has heard when each peer told it, of its own leaves, those that have a flag and pass a test
  module _ (members : List ℕ) (owned : AreOwned ids owner members) (flags : List BlockId) (leaves : (i : BlockId) → Contains flags i → Contains ids i) (test : ℕ → BlockId → Bool)
      (told : (from to : ℕ) → List BlockId) (telling : (from to : ℕ) (i : BlockId) → is_among (told from to) i ≡ (is_own owner from i && (test to i && is_among flags i))) (rank : ℕ) where
    abbrev pub heard : List ℕ → List BlockId
    heard peers = gathered (λ peer (msg : List BlockId). msg) told rank peers

    pub heard_is : (peers : List ℕ) → peers ≡ filter (is_neighbor shape ids owner rank) members
        → (i : BlockId) → is_among (heard peers) i ≡ (is_neighbors shape ids owner rank i && (test rank i && is_among flags i))
    heard_is peers are i = same_tests (is_among (heard peers) i) (is_neighbors shape ids owner rank i && (test rank i && is_among flags i)) there back
      where
        is_peer : Contains ids i → is_member peers (owner i) ≡ is_neighbors shape ids owner rank i
        is_peer has =
            let in' : is_member members (owner i) ≡ true = owned i has in
            ap (λ ps. is_member ps (owner i)) are ∙ member_filter (is_neighbor shape ids owner rank) members (owner i) ∙ ap (λ b. b && is_neighbors shape ids owner rank i) in'

        there : is_among (heard peers) i ≡ true → (is_neighbors shape ids owner rank i && (test rank i && is_among flags i)) ≡ true
        there among =
            let found = Contains-flat_map_cases (λ peer. told peer rank) peers i (among_has (heard peers) i among) in
            let parts = and_parts (is_own owner found.0 i) (test rank i && is_among flags i) (sym (telling found.0 rank i) ∙ among_is (told found.0 rank) i found.2) in
            let flag = and_parts (test rank i) (is_among flags i) parts.1 in
            let its : owner i ≡ found.0 = eqb-true (owner i) found.0 parts.0 in
            let peer : is_member peers (owner i) ≡ true =
            any_from_passes (λ member. member == owner i) peers found.0 found.1 (eq-eqb found.0 (owner i) (sym its)) in
            and_from (is_neighbors shape ids owner rank i) (test rank i && is_among flags i) (sym (is_peer (leaves i (among_has flags i flag.1))) ∙ peer) parts.1

        back : (is_neighbors shape ids owner rank i && (test rank i && is_among flags i)) ≡ true → is_among (heard peers) i ≡ true
        back both =
            let parts = and_parts (is_neighbors shape ids owner rank i) (test rank i && is_among flags i) both in
            let flag = and_parts (test rank i) (is_among flags i) parts.1 in
            let found = passes_from_any (λ member. member == owner i) peers (is_peer (leaves i (among_has flags i flag.1)) ∙ parts.0) in
            let of_owner : is_among (told (owner i) rank) i ≡ true =
            telling (owner i) rank i ∙ and_from (is_own owner (owner i) i) (test rank i && is_among flags i) (eq-eqb (owner i) (owner i) refl) parts.1 in
            among_is (heard peers) i
            (Contains-flat_map (λ peer. told peer rank) peers (owner i) i (subst (Contains peers) (eqb-true found.0 (owner i) found.2) found.1) (among_has (told (owner i) rank) i of_owner))
