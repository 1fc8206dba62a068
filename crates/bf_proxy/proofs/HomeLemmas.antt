-- Proxies are made where their leaves are, and linked by what comes of linked leaves.
use Rattle.std.proofs.Common.{◌≡◌, ◌≢◌, ℕ, zero, suc, ◌<◌, ◌≤◌, Bool, true, false, cond, ◌&&◌, ◌==◌, List, [], ◌∷◌, ◌++◌, ◌⊎◌, inl, inr, map, filter, flat_map, Contains, refl, sym, ap, ◌∙◌, subst, arith, append_assoc, length}
use Rattle.std.specs.Prelude.{AllPairs, nat_lt, not}
use Rattle.std.proofs.lemmas.Bool.{cases_Bool, both_ways, and_from, cond-true, cond-false, false_from_ne_true, lt-ltb, ltb-true, eqb-true}
use Rattle.std.proofs.lemmas.List.Elements.{All-contains, filter-append}
use Rattle.std.proofs.lemmas.List.Kept.{AllPairs-filter}
use Rattle.bf_lemmas.proofs.Lists.{All-from_Contains}
use Rattle.bf_id.specs.declared.shape.Shape.{Shape}
use Rattle.bf_id.specs.Cube.{Cube}
use Rattle.bf_id.specs.Meeting.{Meet}
use Rattle.bf_id.specs.Id.{BlockId, IsId, level_of, box_of, child_of, children_of, parent_of, octant_of, Touch, touches, Begins}
use Rattle.bf_id.proofs.Cubes.{Meet-within, Meet_sym}
use Rattle.bf_id.proofs.Rising.{AllPairs-nil}
use Rattle.bf_id.proofs.Boxes.{level-child, IsId-child, child_within, child_meeting}
use Rattle.bf_id.proofs.Tilings.{Contains-head, Contains-tail, Contains-cons_cases, Contains-one, Contains-one_cases, Contains-none, Contains-flat_map, Contains-flat_map_cases, Contains-child, Contains-child_cases, any_id_decides, leaves_part}
use Rattle.bf_case.specs.declared.target.Target.{Target}
use Rattle.bf_case.specs.declared.target.Target.TheVariants.{Keep, Refine, Merge}
use Rattle.bf_case.specs.Balanced.{AreBalancedLeaves}
use Rattle.bf_case.specs.Refinement.{is_among}
use Rattle.bf_case.specs.Regrid.{heirs_by}
use Rattle.bf_case.proofs.HeirLemmas.{heirs_in, heirs_are_balanced, IsInOctet, IsRegridded, Follows, Comes, comes_of, heir_from_follows}
use Rattle.bf_case.proofs.ListLemmas.{Contains-map, Contains-map_cases}
use Rattle.bf_case.proofs.OctetLemmas.{parent_of-child, child_of_parent, level-parent}
use Rattle.bf_case.proofs.TestLemmas.{touches_decides, Contains-filter, Contains-filter_cases}
use Rattle.bf_links.specs.Links.{ComesBefore, links_of, link_to, touching}
use Rattle.bf_links.specs.declared.link.Link.{Link}
use Rattle.bf_links.proofs.BoundLemmas.{few_links}
use Rattle.bf_links.proofs.LinkLemmas.{links_are_links, links_exact}
use Rattle.bf_proxy.specs.declared.proxy.Proxy.{Proxy}
use Rattle.bf_proxy.specs.Joined.{joined, AgreeOnOwners}
use Rattle.bf_proxy.specs.Proxies.{first_rank, gathered, known_links, made_links, proxy_at, sources_by}
use Rattle.bf_proxy.specs.Homes.{gathered_from, go_into, goes_into, home_of, near_links, origin_of, outer_links, AreOthers}
use Rattle.bf_proxy.proofs.JoinLemmas.{joined_cases, joined_keeps, joined_names, joined_rises, same_links}
use Rattle.bf_proxy.proofs.MakeLemmas.{heirs_follow, made_link}

among_is : (ids : List BlockId) (i : BlockId) → Contains ids i → is_among ids i ≡ true
among_is ids i has = (any_id_decides ids i).1 has

among_has : (ids : List BlockId) (i : BlockId) → is_among ids i ≡ true → Contains ids i
among_has ids i among = (any_id_decides ids i).0 among

-- what comes of a merging leaf comes of the first of its octet
first_octant : (i q : BlockId) → Contains (heirs_by Merge i) q → octant_of i ≡ 0
first_octant i q has = by (cases_Bool (octant_of i == 0))
  where
    by : ((octant_of i == 0) ≡ true) ⊎ ((octant_of i == 0) ≡ false) → octant_of i ≡ 0
    by (inl first) = eqb-true (octant_of i) 0 first
    by (inr later) = absurd (Contains-none q (rw later at has))

-- a filter of joined lists, where all that comes of one passes or none of it
filter_joined : {X Y : Type 0} (p : Y → Bool) (q : X → Bool) (f : X → List Y) (xs : List X) → ((x : X) → Contains xs x → (y : Y) → Contains (f x) y → p y ≡ q x)
    → filter p (flat_map f xs) ≡ flat_map f (filter q xs)
filter_joined p q f [] same = refl
filter_joined {X = X} {Y = Y} p q f (x ∷ xs) same =
    filter-append p (f x) (flat_map f xs)
    ∙ ap (λ ys. filter p (f x) ++ ys) (filter_joined p q f xs (λ z has y of. same z (Contains-tail x xs z has) y of))
    ∙ by (q x) refl
  where
    all_in : (ys : List Y) → ((y : Y) → Contains ys y → p y ≡ true) → filter p ys ≡ ys
    all_in [] each = refl
    all_in (y ∷ ys) each = cond-true (p y) (y ∷ filter p ys) (filter p ys) (each y (Contains-head y ys)) ∙ ap (λ zs. y ∷ zs) (all_in ys (λ z has. each z (Contains-tail y ys z has)))

    none_in : (ys : List Y) → ((y : Y) → Contains ys y → p y ≡ false) → filter p ys ≡ []
    none_in [] each = refl
    none_in (y ∷ ys) each = cond-false (p y) (y ∷ filter p ys) (filter p ys) (each y (Contains-head y ys)) ∙ none_in ys (λ z has. each z (Contains-tail y ys z has))

    by : (b : Bool) → q x ≡ b → (filter p (f x) ++ flat_map f (filter q xs)) ≡ flat_map f (cond b (x ∷ filter q xs) (filter q xs))
    by true is = ap (λ ys. ys ++ flat_map f (filter q xs)) (all_in (f x) (λ y of. same x (Contains-head x xs) y of ∙ is))
    by false is = ap (λ ys. ys ++ flat_map f (filter q xs)) (none_in (f x) (λ y of. same x (Contains-head x xs) y of ∙ is))

module _ (shape : Shape) (levels : ℕ) (ids : List BlockId) (target : BlockId → Target) (is : IsRegridded shape levels ids target) where
  abbrev pub news : List BlockId
  news = heirs_in target ids

  named : (i : BlockId) → Contains ids i → IsId i
  named i has = All-contains IsId ids i is.before.named has

  -- no leaf lies in another
  no_leaf : (i j : BlockId) → Contains ids i → IsId j → Begins i j → level_of i < level_of j → is_among ids j ≡ false
  no_leaf i j has sound begins deeper =
      false_from_ne_true (is_among ids j) (λ among. let same : i ≡ j = leaves_part shape ids i j is.before.tiling has (among_has ids j among) sound begins in
      let level : level_of i ≡ level_of j = ap level_of same in omega arith)

  no_leaf_above : (i j : BlockId) → Contains ids j → Begins i j → level_of i < level_of j → is_among ids i ≡ false
  no_leaf_above i j has begins deeper =
      false_from_ne_true (is_among ids i) (λ among. let same : i ≡ j = leaves_part shape ids i j is.before.tiling (among_has ids i among) has (named j has) begins in
      let level : level_of i ≡ level_of j = ap level_of same in omega arith)

  -- what comes of a leaf has it as its origin
  origin_is : (i q : BlockId) → Contains ids i → Contains (heirs_by (target i) i) q → origin_of ids q ≡ i
  unfolding origin_of
  origin_is i q has heir = by (target i) refl heir
    where
      kept : origin_of ids i ≡ i
      kept = cond-true (is_among ids i) i (cond (nat_lt 0 (level_of i) && is_among ids (parent_of i)) (parent_of i) (child_of i 0)) (among_is ids i has)

      child : target i ≡ Refine → (o : ℕ) → o < 8 → origin_of ids (child_of i o) ≡ i
      child e o small =
          let low : level_of i < levels = is.sound.room i has e in
          let few : levels ≤ 4 = is.few in
          let new_id : IsId (child_of i o) = IsId-child i o (named i has) (omega arith) small in
          let none : is_among ids (child_of i o) ≡ false = no_leaf i (child_of i o) has new_id (refl, (o ∷ [], refl)) (omega (arith, level-child i o)) in
          let deep : nat_lt 0 (level_of (child_of i o)) ≡ true = lt-ltb 0 (level_of (child_of i o)) (omega (arith, level-child i o)) in
          let above : is_among ids (parent_of (child_of i o)) ≡ true = ap (is_among ids) (parent_of-child i o) ∙ among_is ids i has in
          cond-false (is_among ids (child_of i o)) (child_of i o) _ none
          ∙ cond-true (nat_lt 0 (level_of (child_of i o)) && is_among ids (parent_of (child_of i o))) (parent_of (child_of i o)) (child_of (child_of i o) 0)
          (and_from (nat_lt 0 (level_of (child_of i o))) (is_among ids (parent_of (child_of i o))) deep above)
          ∙ parent_of-child i o

      by : (t : Target) → target i ≡ t → Contains (heirs_by t i) q → origin_of ids q ≡ i
      by Keep e in' = ap (origin_of ids) (Contains-one_cases i q in') ∙ kept ∙ refl
      by Refine e in' = let o = Contains-child_cases i q in' in ap (origin_of ids) o.2 ∙ child e o.0 o.1
      by Merge e in' = first (octant_of i == 0) refl in'
        where
          octet : IsInOctet ids target i
          octet = is.sound.octets i has e

          p : BlockId
          p = parent_of i

          below : i.digits ≡ p.digits ++ octant_of i ∷ []
          below = ap (λ (j : BlockId). j.digits) octet.child

          not_it : is_among ids p ≡ false
          not_it = no_leaf_above p i has (refl, (octant_of i ∷ [], below)) (omega (arith, level-parent i octet.child))

          not_above : (nat_lt 0 (level_of p) && is_among ids (parent_of p)) ≡ false
          not_above = at (nat_lt 0 (level_of p)) refl
            where
              at : (b : Bool) → nat_lt 0 (level_of p) ≡ b → (b && is_among ids (parent_of p)) ≡ false
              at false root = refl
              at true test =
                  let deep : 0 < level_of p = ltb-true 0 (level_of p) test in
                  let up : p.digits ≡ (parent_of p).digits ++ octant_of p ∷ [] = ap (λ (j : BlockId). j.digits) (child_of_parent p deep) in
                  no_leaf_above (parent_of p) i has
                  (refl, (octant_of p ∷ octant_of i ∷ [], below ∙ ap (λ ds. ds ++ octant_of i ∷ []) up ∙ append_assoc (parent_of p).digits (octant_of p ∷ []) (octant_of i ∷ [])))
                  (omega (arith, level-parent i octet.child, level-parent p (child_of_parent p deep)))

          first : (b : Bool) → (octant_of i == 0) ≡ b → Contains (cond b (p ∷ []) []) q → origin_of ids q ≡ i
          first true zero_octant one =
              let same : octant_of i ≡ 0 = eqb-true (octant_of i) 0 zero_octant in
              ap (origin_of ids) (Contains-one_cases p q one)
              ∙ cond-false (is_among ids p) p (cond (nat_lt 0 (level_of p) && is_among ids (parent_of p)) (parent_of p) (child_of p 0)) not_it
              ∙ cond-false (nat_lt 0 (level_of p) && is_among ids (parent_of p)) (parent_of p) (child_of p 0) not_above
              ∙ ap (child_of p) (sym same) ∙ sym octet.child
          first false later none = absurd (Contains-none q none)

  -- so each rank makes those that it has
  pub made_are : (owner : BlockId → ℕ) (rank : ℕ) → flat_map (λ i. heirs_by (target i) i) (filter (λ i. owner i == rank) ids) ≡ filter (λ q. home_of ids owner q == rank) news
  made_are owner rank =
      sym (filter_joined (λ q. home_of ids owner q == rank) (λ i. owner i == rank) (λ i. heirs_by (target i) i) ids
      (λ i has q heir. ap (λ j. owner j == rank) (origin_is i q has heir)))

  -- ---- links

  -- where a new leaf meets something, so does an old one of which it comes
  meets_old : (q : BlockId) (c : Cube) → Contains news q → Meet shape (box_of shape q) c → (j : BlockId) × Comes ids target j q × Meet shape (box_of shape j) c
  meets_old q c has meets = let from = comes_of ids target q has in by from.0 from.1.0 (target from.0) refl from.1.1
    where
      by : (j : BlockId) → Contains ids j → (t : Target) → target j ≡ t → Follows t j q → (j : BlockId) × Comes ids target j q × Meet shape (box_of shape j) c
      by j in' Keep e same = (j, (in', subst (λ t. Follows t j q) (sym e) same), subst (λ b. Meet shape (box_of shape b) c) same meets)
      by j in' Refine e (octant, small, child) = (
        j,
        (in', subst (λ t. Follows t j q) (sym e) (octant, small, child)),
        Meet-within shape (box_of shape (child_of j octant)) (box_of shape j) c (child_within shape j octant small) (subst (λ b. Meet shape (box_of shape b) c) child meets),
      )
      by j in' Merge e parent =
          let octet : IsInOctet ids target j = is.sound.octets j in' e in
          let low : level_of j ≤ levels = All-contains (λ i. level_of i ≤ levels) ids j is.before.shallow in' in
          let one = child_meeting shape (parent_of j) c (omega (arith, is.few, low, level-parent j octet.child)) (subst (λ b. Meet shape (box_of shape b) c) parent meets) in
          let k : BlockId = child_of (parent_of j) one.0 in
          let own : q ≡ parent_of k = parent ∙ sym (parent_of-child (parent_of j) one.0) in
          (k, (octet.leaves one.0 one.1, subst (λ t. Follows t k q) (sym (octet.merge one.0 one.1)) own), one.2)

  pub goes_follows : (t : Target) (j q : BlockId) → Contains (goes_into t j) q → Follows t j q
  goes_follows Keep j q has = Contains-one_cases j q has
  goes_follows Refine j q has = Contains-child_cases j q has
  goes_follows Merge j q has = Contains-one_cases (parent_of j) q has

  pub follows_goes : (t : Target) (j q : BlockId) → Follows t j q → Contains (goes_into t j) q
  follows_goes Keep j q same = subst (Contains (j ∷ [])) (sym same) (Contains-one j)
  follows_goes Refine j q (octant, small, child) = subst (Contains (children_of j)) (sym child) (Contains-child j octant small)
  follows_goes Merge j q parent = subst (Contains (parent_of j ∷ [])) (sym parent) (Contains-one (parent_of j))

  heir_is_new : (i q : BlockId) → Contains ids i → Contains (heirs_by (target i) i) q → Contains news q
  heir_is_new i q has heir = Contains-flat_map (λ j. heirs_by (target j) j) ids i q has heir

  -- a proxy of a leaf that is kept or refined lies in the leaf
  lies_within : (i p : BlockId) (t : Target) → (t ≡ Merge → ⊥) → Follows t i p → (c : Cube) → Meet shape (box_of shape p) c → Meet shape (box_of shape i) c
  lies_within i p Keep other same c meets = subst (λ b. Meet shape (box_of shape b) c) same meets
  lies_within i p Refine other (octant, small, child) c meets =
      Meet-within shape (box_of shape (child_of i octant)) (box_of shape i) c (child_within shape i octant small) (subst (λ b. Meet shape (box_of shape b) c) child meets)
  lies_within i p Merge other parent c meets = absurd (other refl)

  -- what a leaf that doesn't merge goes into is what comes of it
  goes_heirs : (t : Target) (i q : BlockId) → (t ≡ Merge → ⊥) → Contains (goes_into t i) q → Contains (heirs_by t i) q
  goes_heirs Keep i q other has = has
  goes_heirs Refine i q other has = has
  goes_heirs Merge i q other has = absurd (other refl)

  -- ---- with owners

  module _ (owner : BlockId → ℕ) where
    abbrev home : BlockId → ℕ
    home = home_of ids owner

    -- a link to a new leaf that names its rank
    pub record IsNew (z : Link) : Type 0 where
      pub leaf : Contains news z.id
      pub owned : z.owner ≡ home z.id

    link_is : (z w : Link) → IsNew z → IsNew w → w.id ≡ z.id → w ≡ z
    link_is z w new new_too same = λ k. record { id = same k; owner = (new_too.owned ∙ ap home same ∙ sym new.owned) k }

    abbrev others : BlockId → List BlockId
    others i = filter (λ q. not (is_among (goes_into (target i) i) q)) (go_into target (filter (touches shape i) ids))

    pub near_new : (i : BlockId) (z : Link) → Contains (near_links shape ids target owner i) z → IsNew z × (Contains (goes_into (target i) i) z.id → ⊥)
    unfolding near_links
    near_new i z has = by (joined_cases (map (link_to home) (others i)) [] z has)
      where
        negated : (b : Bool) → not b ≡ true → b ≡ true → ⊥
        negated true e f = let wrong : false ≡ true = e in cc
        negated false e f = let wrong : false ≡ true = f in cc

        by : Contains (map (link_to home) (others i)) z ⊎ Contains [] z → IsNew z × (Contains (goes_into (target i) i) z.id → ⊥)
        by (inr none) = absurd (Contains-none z none)
        by (inl mapped) =
            let of = Contains-map_cases (link_to home) (others i) z mapped in
            let kept = Contains-filter_cases (λ q. not (is_among (goes_into (target i) i) q)) (go_into target (filter (touches shape i) ids)) of.0 of.1 in
            let found = Contains-flat_map_cases (λ j. goes_into (target j) j) (filter (touches shape i) ids) of.0 kept.0 in
            let leaf = Contains-filter_cases (touches shape i) ids found.0 found.1 in
            let new : Contains news of.0 = heir_from_follows shape levels ids target found.0 of.0 is.sound (leaf.0, goes_follows (target found.0) found.0 of.0 found.2) in
            let named : z.id ≡ of.0 = ap (λ (l : Link). l.id) of.2 in (
              record { leaf = subst (Contains news) (sym named) new; owned = ap (λ (l : Link). l.owner) of.2 ∙ ap home (sym named) },
              λ own. negated (is_among (goes_into (target i) i) of.0) kept.1 (among_is (goes_into (target i) i) of.0 (subst (Contains (goes_into (target i) i)) named own)),
            )

    pub near_rises : (i : BlockId) → AllPairs ComesBefore (near_links shape ids target owner i)
    unfolding near_links
    near_rises i = joined_rises (map (link_to home) (others i)) [] (AllPairs-nil ComesBefore)

    -- what touches one of the leaves that go into it is near
    near_has : (i j : BlockId) (z : Link) → IsNew z → Comes ids target j z.id → Meet shape (box_of shape j) (box_of shape i) → (Contains (goes_into (target i) i) z.id → ⊥)
        → Contains (near_links shape ids target owner i) z
    unfolding near_links
    near_has i j z new comes meets other =
        let differ : i ≢ j = λ same. other (subst (λ k. Contains (goes_into (target k) k) z.id) (sym same) (follows_goes (target j) j z.id comes.1)) in
        let touch : Touch shape i j = (differ, Meet_sym shape (box_of shape j) (box_of shape i) meets) in
        let there : Contains (go_into target (filter (touches shape i) ids)) z.id =
        Contains-flat_map (λ k. goes_into (target k) k) (filter (touches shape i) ids) j z.id (Contains-filter (touches shape i) ids j comes.0 ((touches_decides shape i j).1 touch))
        (follows_goes (target j) j z.id comes.1) in
        let apart : not (is_among (goes_into (target i) i) z.id) ≡ true =
        ap not (false_from_ne_true (is_among (goes_into (target i) i) z.id) (λ among. other (among_has (goes_into (target i) i) z.id among))) in
        let kept : Contains (others i) z.id = Contains-filter (λ q. not (is_among (goes_into (target i) i) q)) (go_into target (filter (touches shape i) ids)) z.id there apart in
        let mapped : Contains (map (link_to home) (others i)) (link_to home z.id) = Contains-map (link_to home) (others i) z.id kept in
        let name = joined_names (map (link_to home) (others i)) [] (link_to home z.id) mapped in
        subst (Contains (joined (map (link_to home) (others i)) [])) (link_is z name.0 new (near_new i name.0 name.1).0 name.2) name.1

    -- ---- what the rank of a leaf knows

    abbrev sources : BlockId → List Link
    sources i = map (link_to owner) (sources_by (target i) i)

    abbrev known : BlockId → List Link
    known i = known_links (target i) i (sources i) (near_links shape ids target owner i)

    first_is : (i q : BlockId) → Contains ids i → Contains (heirs_by (target i) i) q → first_rank (sources i) ≡ owner i
    first_is i q has heir = by (target i) refl heir
      where
        by : (t : Target) → target i ≡ t → Contains (heirs_by t i) q → first_rank (map (link_to owner) (sources_by t i)) ≡ owner i
        by Keep e in' = refl
        by Refine e in' = refl
        by Merge e in' =
            let octet : IsInOctet ids target i = is.sound.octets i has e in
            ap owner (ap (child_of (parent_of i)) (sym (first_octant i q in')) ∙ sym octet.child)

    made_new : (i : BlockId) (z : Link) → Contains ids i → Contains (made_links (first_rank (sources i)) (target i) i) z → IsNew z
    made_new i z has made =
        let of = made_link (first_rank (sources i)) (target i) i z made in
        record {
          leaf = heir_is_new i z.id has of.0;
          owned = of.1 ∙ first_is i z.id has of.0 ∙ ap owner (sym (origin_is i z.id has of.0));
        }

    known_new : (i : BlockId) (z : Link) → Contains ids i → Contains (known i) z → IsNew z
    known_new i z has there = by (joined_cases (made_links (first_rank (sources i)) (target i) i) (near_links shape ids target owner i) z there)
      where
        by : Contains (made_links (first_rank (sources i)) (target i) i) z ⊎ Contains (near_links shape ids target owner i) z → IsNew z
        by (inl made) = made_new i z has made
        by (inr near) = (near_new i z near).0

    known_rises : (i : BlockId) → AllPairs ComesBefore (known i)
    known_rises i = joined_rises (made_links (first_rank (sources i)) (target i) i) (near_links shape ids target owner i) (near_rises i)

    known_near : (i : BlockId) (z : Link) → Contains (near_links shape ids target owner i) z → Contains (known i) z
    known_near i z near = joined_keeps (made_links (first_rank (sources i)) (target i) i) (near_links shape ids target owner i) z near

    known_made : (i : BlockId) (z : Link) → Contains ids i → IsNew z → Contains (heirs_by (target i) i) z.id → Contains (known i) z
    known_made i z has new heir =
        let rank : ℕ = first_rank (sources i) in
        let mapped : Contains (made_links rank (target i) i) (link_to (λ _. rank) z.id) = Contains-map (link_to (λ _. rank)) (heirs_by (target i) i) z.id heir in
        let name = joined_names (made_links rank (target i) i) (near_links shape ids target owner i) (link_to (λ _. rank) z.id) mapped in
        subst (Contains (known i)) (link_is z name.0 new (known_new i name.0 has name.1) name.2) name.1

    balanced : AreBalancedLeaves shape levels news
    balanced = heirs_are_balanced shape levels ids target is

    -- a proxy of a leaf that is kept or refined is linked with all that touch it
    pub links_made : (i p : BlockId) → Contains ids i → (target i ≡ Merge → ⊥) → Contains (heirs_by (target i) i) p → touching shape p (known i) ≡ links_of shape news home p
    links_made i p has other heir =
        same_links (touching shape p (known i)) (links_of shape news home p) (AllPairs-filter ComesBefore (λ (l : Link). touches shape p l.id) (known i) (known_rises i))
        (links_are_links shape levels news home p balanced (heir_is_new i p has heir)).rising there back
      where
        there : (z : Link) → Contains (touching shape p (known i)) z → Contains (links_of shape news home p) z
        there z in' =
            let kept = Contains-filter_cases (λ (l : Link). touches shape p l.id) (known i) z in' in
            let new : IsNew z = known_new i z has kept.0 in
            (links_exact shape news home p z).1 (record { leaf = new.leaf; touch = (touches_decides shape p z.id).0 kept.1; owned = new.owned })

        back : (z : Link) → Contains (links_of shape news home p) z → Contains (touching shape p (known i)) z
        back z in' =
            let link = (links_exact shape news home p z).0 in' in
            let new : IsNew z = record { leaf = link.leaf; owned = link.owned } in
            Contains-filter (λ (l : Link). touches shape p l.id) (known i) z (by new link.touch (cases_Bool (is_among (goes_into (target i) i) z.id))) ((touches_decides shape p z.id).1 link.touch)
          where
            by : IsNew z → Touch shape p z.id → (is_among (goes_into (target i) i) z.id ≡ true) ⊎ (is_among (goes_into (target i) i) z.id ≡ false) → Contains (known i) z
            by new touch (inl own) = known_made i z has new (goes_heirs (target i) i z.id other (among_has (goes_into (target i) i) z.id own))
            by new touch (inr apart) =
                let inner : Meet shape (box_of shape i) (box_of shape z.id) = lies_within i p (target i) other (heirs_follow (target i) i p heir) (box_of shape z.id) touch.1 in
                let old = meets_old z.id (box_of shape i) new.leaf (Meet_sym shape (box_of shape i) (box_of shape z.id) inner) in
                known_near i z (near_has i old.0 z new old.1 old.2 (λ own. both_ways (is_among (goes_into (target i) i) z.id) apart (among_is (goes_into (target i) i) z.id own)))

    -- so few of them touch a new leaf
    pub known_few : (i p : BlockId) → Contains ids i → Contains (heirs_by (target i) i) p → length (touching shape p (known i)) ≤ 56
    known_few i p has heir =
        few_links shape levels news p (known i) balanced (heir_is_new i p has heir)
        (All-from_Contains (λ (z : Link). Contains news z.id) (known i) (λ z there. (known_new i z has there).leaf)) (known_rises i)

    -- ---- octets that merge

    outer_new : (i : BlockId) (z : Link) → Contains (outer_links shape ids target owner i) z → IsNew z × Touch shape (parent_of i) z.id
    outer_new i z has =
        let kept = Contains-filter_cases (λ (l : Link). touches shape (parent_of i) l.id) (near_links shape ids target owner i) z has in
        ((near_new i z kept.0).0, (touches_decides shape (parent_of i) z.id).0 kept.1)

    joined_new : (i : BlockId) (proxy : Proxy) → ((w : Link) → Contains proxy.links w → IsNew w) → (w : Link) → Contains (joined (outer_links shape ids target owner i) proxy.links) w → IsNew w
    joined_new i proxy all w has = by (joined_cases (outer_links shape ids target owner i) proxy.links w has)
      where
        by : Contains (outer_links shape ids target owner i) w ⊎ Contains proxy.links w → IsNew w
        by (inl outer) = (outer_new i w outer).0
        by (inr before) = all w before

    gathered_keeps : (siblings : List BlockId) (proxy : Proxy) (z : Link) → ((w : Link) → Contains proxy.links w → IsNew w) → IsNew z → Contains proxy.links z
        → Contains (gathered_from shape ids target owner siblings proxy).links z
    unfolding gathered_from
    gathered_keeps [] proxy z all new has = has
    gathered_keeps (i ∷ siblings) proxy z all new has =
        gathered_keeps siblings (gathered (outer_links shape ids target owner i) proxy) z (joined_new i proxy all) new (joined_keeps (outer_links shape ids target owner i) proxy.links z has)

    gathered_rises : (siblings : List BlockId) (proxy : Proxy) → AllPairs ComesBefore proxy.links → AllPairs ComesBefore (gathered_from shape ids target owner siblings proxy).links
    unfolding gathered_from
    gathered_rises [] proxy rise = rise
    gathered_rises (i ∷ siblings) proxy rise =
        gathered_rises siblings (gathered (outer_links shape ids target owner i) proxy) (joined_rises (outer_links shape ids target owner i) proxy.links rise)

    gathered_cases : (siblings : List BlockId) (proxy : Proxy) (z : Link) → Contains (gathered_from shape ids target owner siblings proxy).links z
        → Contains proxy.links z ⊎ ((i : BlockId) × Contains siblings i × Contains (outer_links shape ids target owner i) z)
    unfolding gathered_from
    gathered_cases [] proxy z has = inl has
    gathered_cases (i ∷ siblings) proxy z has = by (gathered_cases siblings (gathered (outer_links shape ids target owner i) proxy) z has)
      where
        first : Contains (outer_links shape ids target owner i) z ⊎ Contains proxy.links z
            → Contains proxy.links z ⊎ ((j : BlockId) × Contains (i ∷ siblings) j × Contains (outer_links shape ids target owner j) z)
        first (inl outer) = inr (i, Contains-head i siblings, outer)
        first (inr before) = inl before

        by : Contains (joined (outer_links shape ids target owner i) proxy.links) z ⊎ ((j : BlockId) × Contains siblings j × Contains (outer_links shape ids target owner j) z)
            → Contains proxy.links z ⊎ ((j : BlockId) × Contains (i ∷ siblings) j × Contains (outer_links shape ids target owner j) z)
        by (inl both) = first (joined_cases (outer_links shape ids target owner i) proxy.links z both)
        by (inr later) = inr (later.0, Contains-tail i siblings later.0 later.1, later.2)

    gathered_has : (siblings : List BlockId) (proxy : Proxy) (j : BlockId) (z : Link) → ((w : Link) → Contains proxy.links w → IsNew w) → IsNew z → Contains siblings j
        → Contains (outer_links shape ids target owner j) z → Contains (gathered_from shape ids target owner siblings proxy).links z
    unfolding gathered_from
    gathered_has [] proxy j z all new has outer = absurd (Contains-none j has)
    gathered_has (i ∷ siblings) proxy j z all new has outer =
        by (Contains-cons_cases i siblings j has) (gathered_has siblings (gathered (outer_links shape ids target owner i) proxy) j z (joined_new i proxy all) new)
      where
        by : (j ≡ i) ⊎ Contains siblings j
            → (Contains siblings j → Contains (outer_links shape ids target owner j) z → Contains (gathered_from shape ids target owner siblings (gathered (outer_links shape ids target owner i) proxy)).links z)
            → Contains (gathered_from shape ids target owner siblings (gathered (outer_links shape ids target owner i) proxy)).links z
        by (inr rest) later = later rest outer
        by (inl same) later =
            let here : Contains (outer_links shape ids target owner i) z = subst (λ k. Contains (outer_links shape ids target owner k) z) same outer in
            let name = joined_names (outer_links shape ids target owner i) proxy.links z here in
            gathered_keeps siblings (gathered (outer_links shape ids target owner i) proxy) z (joined_new i proxy all) new
            (subst (Contains (joined (outer_links shape ids target owner i) proxy.links)) (link_is z name.0 new (joined_new i proxy all name.0 name.1) name.2) name.1)

    -- the octet's proxy, once it has gathered what the other siblings know, is linked with all that touch it
    pub links_gathered : (p : BlockId) (siblings : List BlockId) → Contains ids (child_of p 0) → target (child_of p 0) ≡ Merge → AreOthers p siblings
        → (gathered_from shape ids target owner siblings (proxy_at shape (target (child_of p 0)) (sources (child_of p 0)) (known (child_of p 0)) p)).links ≡ links_of shape news home p
    links_gathered p siblings has merge are =
        same_links (gathered_from shape ids target owner siblings first).links (links_of shape news home p)
        (gathered_rises siblings first (AllPairs-filter ComesBefore (λ (l : Link). touches shape p l.id) (known (child_of p 0)) (known_rises (child_of p 0))))
        (links_are_links shape levels news home p balanced new_p).rising there back
      where
        first : Proxy
        first = proxy_at shape (target (child_of p 0)) (sources (child_of p 0)) (known (child_of p 0)) p

        octet : IsInOctet ids target (child_of p 0)
        octet = is.sound.octets (child_of p 0) has merge

        parent : parent_of (child_of p 0) ≡ p
        parent = parent_of-child p 0

        leaf : (octant : ℕ) → octant < 8 → Contains ids (child_of p octant)
        leaf octant small = subst (λ q. Contains ids (child_of q octant)) parent (octet.leaves octant small)

        merges : (octant : ℕ) → octant < 8 → target (child_of p octant) ≡ Merge
        merges octant small = subst (λ q. target (child_of q octant) ≡ Merge) parent (octet.merge octant small)

        new_p : Contains news p
        new_p = heir_from_follows shape levels ids target (child_of p 0) p is.sound (has, subst (λ t. Follows t (child_of p 0) p) (sym merge) (sym parent))

        first_new : (w : Link) → Contains first.links w → IsNew w
        first_new w in' = known_new (child_of p 0) w has (Contains-filter_cases (λ (l : Link). touches shape p l.id) (known (child_of p 0)) w in').0

        there : (z : Link) → Contains (gathered_from shape ids target owner siblings first).links z → Contains (links_of shape news home p) z
        there z in' = by (gathered_cases siblings first z in')
          where
            link : IsNew z → Touch shape p z.id → Contains (links_of shape news home p) z
            link new touch = (links_exact shape news home p z).1 (record { leaf = new.leaf; touch = touch; owned = new.owned })

            by : Contains first.links z ⊎ ((i : BlockId) × Contains siblings i × Contains (outer_links shape ids target owner i) z) → Contains (links_of shape news home p) z
            by (inl before) =
                link (first_new z before) ((touches_decides shape p z.id).0 (Contains-filter_cases (λ (l : Link). touches shape p l.id) (known (child_of p 0)) z before).1)
            by (inr (i, in'', outer)) =
                let new = outer_new i z outer in
                let sibling = are.only i in'' in
                let up : parent_of i ≡ p = ap parent_of sibling.2 ∙ parent_of-child p sibling.0 in
                link new.0 (subst (λ q. Touch shape q z.id) up new.1)

        back : (z : Link) → Contains (links_of shape news home p) z → Contains (gathered_from shape ids target owner siblings first).links z
        back z in' =
            let link = (links_exact shape news home p z).0 in' in
            let new : IsNew z = record { leaf = link.leaf; owned = link.owned } in
            let old = meets_old z.id (box_of shape p) link.leaf (Meet_sym shape (box_of shape p) (box_of shape z.id) link.touch.1) in
            let low : level_of (child_of p 0) ≤ levels = All-contains (λ i. level_of i ≤ levels) ids (child_of p 0) is.before.shallow has in
            let one = child_meeting shape p (box_of shape old.0) (omega (arith, is.few, low, level-child p 0)) (Meet_sym shape (box_of shape old.0) (box_of shape p) old.2) in
            let near : Contains (near_links shape ids target owner (child_of p one.0)) z =
            near_has (child_of p one.0) old.0 z new old.1 (Meet_sym shape (box_of shape (child_of p one.0)) (box_of shape old.0) one.2) (apart one.0 one.1 link.touch) in
            by one.0 one.1 new link.touch near (cases_zero one.0)
          where
            cases_zero : (o : ℕ) → (o ≡ 0) ⊎ (0 < o)
            cases_zero zero = inl refl
            cases_zero (suc o) = inr (omega arith)

            apart : (o : ℕ) → o < 8 → Touch shape p z.id → Contains (goes_into (target (child_of p o)) (child_of p o)) z.id → ⊥
            apart o small touch own =
                let only : Contains (parent_of (child_of p o) ∷ []) z.id = subst (λ t. Contains (goes_into t (child_of p o)) z.id) (merges o small) own in
                touch.0 (sym (Contains-one_cases (parent_of (child_of p o)) z.id only ∙ parent_of-child p o))

            by : (o : ℕ) → o < 8 → IsNew z → Touch shape p z.id → Contains (near_links shape ids target owner (child_of p o)) z → (o ≡ 0) ⊎ (0 < o)
                → Contains (gathered_from shape ids target owner siblings first).links z
            by o small new touch near (inl zero_octant) =
                let own : Contains (near_links shape ids target owner (child_of p 0)) z = subst (λ n. Contains (near_links shape ids target owner (child_of p n)) z) zero_octant near in
                gathered_keeps siblings first z first_new new
                (Contains-filter (λ (l : Link). touches shape p l.id) (known (child_of p 0)) z (known_near (child_of p 0) z own) ((touches_decides shape p z.id).1 touch))
            by o small new touch near (inr later) =
                gathered_has siblings first (child_of p o) z first_new new (are.all o later small)
                (Contains-filter (λ (l : Link). touches shape (parent_of (child_of p o)) l.id) (near_links shape ids target owner (child_of p o)) z near
                ((touches_decides shape (parent_of (child_of p o)) z.id).1 (subst (λ q. Touch shape q z.id) (sym (parent_of-child p o)) touch)))

    -- ---- any outer links of the octet can be gathered

    -- links to new leaves that touch one are few
    touching_few : (p : BlockId) (links : List Link) → Contains news p → AllPairs ComesBefore links → ((z : Link) → Contains links z → IsNew z × Touch shape p z.id) → length links ≤ 56
    touching_few p links new rise each =
        let test : Link → Bool = λ l. touches shape p l.id in
        let whole : links ≡ touching shape p links =
        same_links links (touching shape p links) rise (AllPairs-filter ComesBefore test links rise)
        (λ z has. Contains-filter test links z has ((touches_decides shape p z.id).1 (each z has).1)) (λ z has. (Contains-filter_cases test links z has).0) in
        subst (λ n. n ≤ 56) (sym (ap length whole))
        (few_links shape levels news p links balanced new (All-from_Contains (λ (z : Link). Contains news z.id) links (λ z has. (each z has).0.leaf)) rise)

    module _ (p : BlockId) (has : Contains ids (child_of p 0)) (merge : target (child_of p 0) ≡ Merge) where
      merged_new : Contains news p
      merged_new =
          heir_from_follows shape levels ids target (child_of p 0) p is.sound (has, subst (λ t. Follows t (child_of p 0) p) (sym merge) (sym (parent_of-child p 0)))

      abbrev merged_first : Proxy
      merged_first = proxy_at shape (target (child_of p 0)) (sources (child_of p 0)) (known (child_of p 0)) p

      abbrev merged_from : List BlockId → List Link
      merged_from siblings = (gathered_from shape ids target owner siblings merged_first).links

      merged_rises : (siblings : List BlockId) → AllPairs ComesBefore (merged_from siblings)
      merged_rises siblings =
          gathered_rises siblings merged_first (AllPairs-filter ComesBefore (λ (l : Link). touches shape p l.id) (known (child_of p 0)) (known_rises (child_of p 0)))

      merged_touch : (siblings : List BlockId) → ((j : BlockId) → Contains siblings j → parent_of j ≡ p) → (z : Link) → Contains (merged_from siblings) z → IsNew z × Touch shape p z.id
      merged_touch siblings under z there = by (gathered_cases siblings merged_first z there)
        where
          by : Contains merged_first.links z ⊎ ((i : BlockId) × Contains siblings i × Contains (outer_links shape ids target owner i) z) → IsNew z × Touch shape p z.id
          by (inl before) =
              let kept = Contains-filter_cases (λ (l : Link). touches shape p l.id) (known (child_of p 0)) z before in
              (known_new (child_of p 0) z has kept.0, (touches_decides shape p z.id).0 kept.1)
          by (inr (i, in', outer)) =
              let new = outer_new i z outer in
              (new.0, subst (λ q. Touch shape q z.id) (under i in') new.1)

      pub outer_few : (i : BlockId) → parent_of i ≡ p → length (outer_links shape ids target owner i) ≤ 56
      outer_few i up =
          subst (λ q. length (touching shape q (near_links shape ids target owner i)) ≤ 56) (sym up)
          (few_links shape levels news p (near_links shape ids target owner i) balanced merged_new
          (All-from_Contains (λ (z : Link). Contains news z.id) (near_links shape ids target owner i) (λ z there. (near_new i z there).0.leaf)) (near_rises i))

      pub gathering_few : (i : BlockId) (siblings : List BlockId) → parent_of i ≡ p → ((j : BlockId) → Contains siblings j → parent_of j ≡ p)
          → length (joined (outer_links shape ids target owner i) (merged_from siblings)) ≤ 56
      gathering_few i siblings up under =
          touching_few p (joined (outer_links shape ids target owner i) (merged_from siblings)) merged_new
          (joined_rises (outer_links shape ids target owner i) (merged_from siblings) (merged_rises siblings))
          (λ z there. by z (joined_cases (outer_links shape ids target owner i) (merged_from siblings) z there))
        where
          by : (z : Link) → Contains (outer_links shape ids target owner i) z ⊎ Contains (merged_from siblings) z → IsNew z × Touch shape p z.id
          by z (inl outer) = let new = outer_new i z outer in (new.0, subst (λ q. Touch shape q z.id) up new.1)
          by z (inr before) = merged_touch siblings under z before

      pub gathering_agrees : (i : BlockId) (siblings : List BlockId) → ((j : BlockId) → Contains siblings j → parent_of j ≡ p)
          → AgreeOnOwners (outer_links shape ids target owner i) (merged_from siblings)
      gathering_agrees i siblings under x y has_x has_y same =
          (outer_new i x has_x).0.owned ∙ ap home same ∙ sym (merged_touch siblings under y has_y).0.owned
