-- Links out of lists of leaves, each with its owner.
use Rattle.std.proofs.Common.{◌≡◌, ℕ, ◌+◌, ◌<◌, ◌≤◌, ◌↔◌, ◌==◌, Bool, true, false, cond, ◌||◌, ◌&&◌, List, [], ◌∷◌, ◌++◌, length, take, get_or, map, filter, Contains, All, refl, sym, ap, subst, ◌∙◌, arith}
use Rattle.std.specs.Prelude.{AllPairs, Some, None, option_map}
use Rattle.std.specs.List.{range_with_len}
use Rattle.std.proofs.Math.Bool.{or-false}
use Rattle.std.proofs.Math.Seq.{take-length}
use Rattle.std.proofs.lemmas.Bool.{cond-true, cond-false, false_from_ne_true}
use Rattle.std.proofs.lemmas.Bool.Decides.{nat_tests}
use Rattle.std.proofs.lemmas.List.{append-nil, get_or-map, length-map, take_more}
use Rattle.std.proofs.lemmas.List.Elements.{filter_more, All-contains_itself, Contains-get_or, All-filter, All-map, All-weaker}
use Rattle.std.proofs.lemmas.List.Folds.{list_any-append}
use Rattle.std.proofs.lemmas.List.Kept.{AllPairs-filter}
use Rattle.bf_lemmas.proofs.Lists.{filter_mapped, map_each, map_twice}
use Rattle.bf_lemmas.proofs.Tests.{eqb_swap}
use Rattle.bf_buddy.specs.Members.{is_member, with_member}
use Rattle.bf_buddy.proofs.MemberLemmas.{filter_members, member_filter, range_has, range_within}
use Rattle.bf_id.specs.declared.shape.Shape.{Shape}
use Rattle.bf_id.specs.Id.{BlockId, Touch, id_eq, touches}
use Rattle.bf_id.specs.Walk.{IsBefore}
use Rattle.bf_id.proofs.Boxes.{Touch_sym, id_eq_is_equal}
use Rattle.bf_case.specs.Balanced.{AreBalancedLeaves}
use Rattle.bf_case.proofs.ListLemmas.{Contains-map, Contains-map_cases, find_only}
use Rattle.bf_case.proofs.TestLemmas.{touches_decides, Contains-filter, Contains-filter_cases}
use Rattle.bf_links.specs.Links.{AreLinks, ComesBefore, IsLinkOf, is_owner, link_to, links_of, owner_of, owners_of, remapped, touching, with_owner}
use Rattle.bf_links.specs.declared.link.Link.{Link}
use Rattle.bf_links.proofs.BoundLemmas.{few_links}
use Rattle.bf_links.proofs.SearchLemmas.{none_found}

-- one more leaf that touches, and one that doesn't
pub one_touches : (shape : Shape) (id : BlockId) (leaves items new : List Link) (k : ℕ) (link : Link) → k < length leaves → link ≡ get_or leaves k link
    → Touch shape id link.id → new ≡ items ++ link ∷ [] → items ≡ touching shape id (take k leaves) → new ≡ touching shape id (take (k + 1) leaves)
one_touches shape id leaves items new k link within is touch pushed so_far =
    let test : Link → Bool = λ (l : Link). touches shape id l.id in
    let passes : test (get_or leaves k link) ≡ true = ap test (sym is) ∙ (touches_decides shape id link.id).1 touch in
    pushed ∙ ap (λ l. l ++ link ∷ []) so_far ∙ ap (λ (l : Link). touching shape id (take k leaves) ++ l ∷ []) is
    ∙ sym (filter_more test leaves k link within ∙ ap (λ l. touching shape id (take k leaves) ++ l) (cond-true (test (get_or leaves k link)) (get_or leaves k link ∷ []) [] passes))

pub one_apart : (shape : Shape) (id : BlockId) (leaves items new : List Link) (k : ℕ) (link : Link) → k < length leaves → link ≡ get_or leaves k link
    → (Touch shape id link.id → ⊥) → new ≡ items → items ≡ touching shape id (take k leaves) → new ≡ touching shape id (take (k + 1) leaves)
one_apart shape id leaves items new k link within is apart kept so_far =
    let test : Link → Bool = λ (l : Link). touches shape id l.id in
    let fails : test (get_or leaves k link) ≡ false = ap test (sym is) ∙ false_from_ne_true (touches shape id link.id) (λ t. apart ((touches_decides shape id link.id).0 t)) in
    kept ∙ so_far ∙ sym (append-nil (touching shape id (take k leaves)))
    ∙ sym (filter_more test leaves k link within ∙ ap (λ l. touching shape id (take k leaves) ++ l) (cond-false (test (get_or leaves k link)) (get_or leaves k link ∷ []) [] fails))

pub built : (shape : Shape) (id : BlockId) (leaves items : List Link) (k : ℕ) → k ≡ length leaves → AllPairs ComesBefore leaves → length (touching shape id leaves) ≤ 56
    → items ≡ touching shape id (take k leaves) → (items ≡ touching shape id leaves) × AreLinks items
built shape id leaves items k all rising few so_far =
    let whole : items ≡ touching shape id leaves = so_far ∙ ap (touching shape id) (ap (λ n. take n leaves) all ∙ take-length leaves) in
    (whole, subst AreLinks (sym whole) (record { rising = AllPairs-filter ComesBefore (λ (l : Link). touches shape id l.id) leaves rising; few = few }))

-- ---- the links of a leaf

pub touching-links : (shape : Shape) (ids : List BlockId) (owner : BlockId → ℕ) (i : BlockId) → touching shape i (map (link_to owner) ids) ≡ links_of shape ids owner i
touching-links shape ids owner i = filter_mapped (λ (leaf : Link). touches shape i leaf.id) (link_to owner) ids

rising_links : (ids : List BlockId) (owner : BlockId → ℕ) → AllPairs IsBefore ids → AllPairs ComesBefore (map (link_to owner) ids)
rising_links ids owner rising = λ j k d before within.
    let link : BlockId → Link = link_to owner in
    let in_k : k < length ids = let long = length-map ids link in omega arith in
    let in_j : j < length ids = omega arith in
    subst (ComesBefore (get_or (map link ids) j d)) (sym (get_or-map link ids k d.id d in_k))
    (subst (λ (a : Link). ComesBefore a (link (get_or ids k d.id))) (sym (get_or-map link ids j d.id d in_j)) (rising j k d.id before in_k))

pub links_are_links : (shape : Shape) (levels : ℕ) (ids : List BlockId) (owner : BlockId → ℕ) (i : BlockId) → AreBalancedLeaves shape levels ids → Contains ids i
    → AreLinks (links_of shape ids owner i)
links_are_links shape levels ids owner i balanced own =
    let rising : AllPairs ComesBefore (map (link_to owner) ids) = rising_links ids owner balanced.rising in
    let known : All (λ (leaf : Link). Contains ids leaf.id) (map (link_to owner) ids) =
    All-map (λ (leaf : Link). Contains ids leaf.id) (link_to owner) ids (All-contains_itself ids) in
    subst AreLinks (touching-links shape ids owner i) (record {
      rising = AllPairs-filter ComesBefore (λ (leaf : Link). touches shape i leaf.id) (map (link_to owner) ids) rising;
      few = few_links shape levels ids i (map (link_to owner) ids) balanced own known rising;
    })

link_is : (owner : BlockId → ℕ) (link : Link) → link.owner ≡ owner link.id → link_to owner link.id ≡ link
link_is owner link owned = λ k. record { id = link.id; owner = sym owned k }

pub links_exact : (shape : Shape) (ids : List BlockId) (owner : BlockId → ℕ) (i : BlockId) (link : Link) → Contains (links_of shape ids owner i) link ↔ IsLinkOf shape ids owner i link
links_exact shape ids owner i link = (there, back)
  where
    there : Contains (links_of shape ids owner i) link → IsLinkOf shape ids owner i link
    there has =
        let of = Contains-map_cases (link_to owner) (filter (touches shape i) ids) link has in
        let kept = Contains-filter_cases (touches shape i) ids of.0 of.1 in
        let named : link.id ≡ of.0 = ap (λ (l : Link). l.id) of.2 in
        record {
          leaf = subst (Contains ids) (sym named) kept.0;
          touch = subst (Touch shape i) (sym named) ((touches_decides shape i of.0).0 kept.1);
          owned = ap (λ (l : Link). l.owner) of.2 ∙ ap owner (sym named);
        }

    back : IsLinkOf shape ids owner i link → Contains (links_of shape ids owner i) link
    back is =
        let kept : Contains (filter (touches shape i) ids) link.id = Contains-filter (touches shape i) ids link.id is.leaf ((touches_decides shape i link.id).1 is.touch) in
        subst (Contains (links_of shape ids owner i)) (link_is owner link is.owned) (Contains-map (link_to owner) (filter (touches shape i) ids) link.id kept)

pub links_both : (shape : Shape) (ids : List BlockId) (owner : BlockId → ℕ) (i j : BlockId) → Contains ids i → Contains ids j
    → Contains (links_of shape ids owner i) (link_to owner j) ↔ Contains (links_of shape ids owner j) (link_to owner i)
links_both shape ids owner i j has_i has_j = (turned i j has_i, turned j i has_j)
  where
    turned : (i j : BlockId) → Contains ids i → Contains (links_of shape ids owner i) (link_to owner j) → Contains (links_of shape ids owner j) (link_to owner i)
    turned i j has_i has =
        let touch : Touch shape i j = ((links_exact shape ids owner i (link_to owner j)).0 has).touch in
        (links_exact shape ids owner j (link_to owner i)).1 (record { leaf = has_i; touch = Touch_sym shape i j touch; owned = refl })

-- ---- other owners

pub links_remapped : (shape : Shape) (ids : List BlockId) (owner : BlockId → ℕ) (heir : ℕ → ℕ) (i : BlockId)
    → map (remapped heir) (links_of shape ids owner i) ≡ links_of shape ids (λ j. heir (owner j)) i
links_remapped shape ids owner heir i =
    map_twice (remapped heir) (link_to owner) (link_to (λ j. heir (owner j))) (λ j. refl) (filter (touches shape i) ids)

pub links_changed : (shape : Shape) (ids : List BlockId) (owner : BlockId → ℕ) (j : BlockId) (rank : ℕ) (i : BlockId)
    → with_owner j rank (links_of shape ids owner i) ≡ links_of shape ids (λ k. cond (id_eq k j) rank (owner k)) i
links_changed shape ids owner j rank i =
    map_twice (λ (link : Link). cond (id_eq link.id j) (record link { owner = rank }) link) (link_to owner) (link_to (λ k. cond (id_eq k j) rank (owner k)))
    (λ k. at k (id_eq k j)) (filter (touches shape i) ids)
  where
    at : (k : BlockId) (b : Bool) → cond b (link_to (λ _. rank) k) (link_to owner k) ≡ link_to (λ k. cond b rank (owner k)) k
    at k true = refl
    at k false = refl

pub links_alike : (shape : Shape) (ids : List BlockId) (owner other : BlockId → ℕ) (i : BlockId) → All (λ j. owner j ≡ other j) ids
    → links_of shape ids owner i ≡ links_of shape ids other i
links_alike shape ids owner other i same =
    map_each (link_to owner) (link_to other) (filter (touches shape i) ids)
    (All-weaker (λ j. owner j ≡ other j) (λ j. link_to owner j ≡ link_to other j) (λ j e. ap (λ (o : ℕ). record { id = j; owner = o }) e) (filter (touches shape i) ids)
    (All-filter (touches shape i) (λ j. owner j ≡ other j) ids same))

-- ---- owners

pub owner_found : (shape : Shape) (ids : List BlockId) (owner : BlockId → ℕ) (i j : BlockId) → Contains ids j → Touch shape i j
    → owner_of (links_of shape ids owner i) j ≡ Some (owner j)
owner_found shape ids owner i j leaf touch =
    let links : List Link = links_of shape ids owner i in
    let has : Contains links (link_to owner j) = (links_exact shape ids owner i (link_to owner j)).1 (record { leaf = leaf; touch = touch; owned = refl }) in
    ap (option_map (λ (link : Link). link.owner)) (find_only (λ (link : Link). id_eq link.id j) links (link_to owner j) has ((id_eq_is_equal j j).1 refl)
    (λ link there test. sym (link_is owner link ((links_exact shape ids owner i link).0 there).owned) ∙ ap (link_to owner) ((id_eq_is_equal link.id j).0 test)))

pub owner_not_found : (shape : Shape) (ids : List BlockId) (owner : BlockId → ℕ) (i j : BlockId) → (Contains ids j → Touch shape i j → ⊥)
    → owner_of (links_of shape ids owner i) j ≡ None
owner_not_found shape ids owner i j apart =
    let links : List Link = links_of shape ids owner i in
    ap (option_map (λ (link : Link). link.owner)) (none_found links j (λ k d below same.
    let is = (links_exact shape ids owner i (get_or links k d)).0 (Contains-get_or links k d below) in
    apart (subst (Contains ids) same is.leaf) (subst (Touch shape i) same is.touch)))

pub is_member-owners_of : (links : List Link) (rank : ℕ) → rank < 32 → is_member (owners_of links) rank ≡ is_owner links rank
unfolding owners_of
is_member-owners_of links rank below =
    member_filter (is_owner links) (range_with_len 0 32) rank ∙ ap (λ b. b && is_owner links rank) (range_has 32 rank below)

pub owners_of-none : range_with_len 0 0 ≡ owners_of []
unfolding owners_of
owners_of-none = refl

-- one link more, whose owner is another rank or none below 32
module _ (links : List Link) (k : ℕ) (link : Link) (within : k < length links) (is : link ≡ get_or links k link) where
  one_more : (test : ℕ → Bool) → ((rank : ℕ) → rank < 32 → test rank ≡ (is_owner (take k links) rank || link.owner == rank))
      → filter test (range_with_len 0 32) ≡ filter (is_owner (take (k + 1) links)) (range_with_len 0 32)
  one_more test last =
      let before : List Link = take k links in
      let more : take (k + 1) links ≡ before ++ link ∷ [] = take_more links k link within ∙ ap (λ (l : Link). before ++ l ∷ []) (sym is) in
      filter_members test (is_owner (before ++ link ∷ [])) (range_with_len 0 32)
      (λ rank is_in.
      last rank (range_within 0 32 rank is_in)
      ∙ ap (λ b. is_owner before rank || b) (sym (or-false (link.owner == rank)))
      ∙ sym (list_any-append (λ (l : Link). l.owner == rank) before (link ∷ [])))
      ∙ ap (λ (ls : List Link). filter (is_owner ls) (range_with_len 0 32)) (sym more)

  pub owners_of-more : with_member (owners_of (take k links)) link.owner ≡ owners_of (take (k + 1) links)
  unfolding owners_of with_member
  owners_of-more =
      one_more (λ rank. is_member (filter (is_owner (take k links)) (range_with_len 0 32)) rank || rank == link.owner)
      (λ rank below. ap (λ b. b || rank == link.owner) (is_member-owners_of (take k links) rank below) ∙ ap (λ b. is_owner (take k links) rank || b) (eqb_swap rank link.owner))

  pub owners_of-beyond : 32 ≤ link.owner → owners_of (take k links) ≡ owners_of (take (k + 1) links)
  unfolding owners_of
  owners_of-beyond beyond =
      one_more (is_owner (take k links))
      (λ rank below.
      let other : (link.owner == rank) ≡ false = grind (arith, nat_tests) in
      sym (or-false (is_owner (take k links) rank)) ∙ ap (λ b. is_owner (take k links) rank || b) (sym other))
