-- Who has what comes of a leaf.
use Rattle.std.proofs.Common.{◌≡◌, ℕ, Bool, true, false, cond, ◌==◌, List, [], ◌∷◌, ◌⊎◌, inl, inr, filter, flat_map, Contains, refl, sym, ap, ◌∙◌, subst, arith}
use Rattle.std.specs.Prelude.{unwrap_or}
use Rattle.std.proofs.lemmas.Bool.{eqb-true, cond-true, eq-eqb}
use Rattle.std.proofs.lemmas.List.Elements.{All-contains}
use Rattle.bf_id.specs.declared.shape.Shape.{Shape}
use Rattle.bf_id.specs.Id.{BlockId, IsId, child_of, children_of, id_eq, octant_of, parent_of, touches}
use Rattle.bf_id.proofs.Boxes.{id_eq_is_equal}
use Rattle.bf_id.proofs.Tilings.{Contains-child_cases, Contains-flat_map, Contains-one, Contains-one_cases}
use Rattle.bf_case.specs.Regrid.{heirs_by, target_of}
use Rattle.bf_case.specs.Wishes.{Wishes}
use Rattle.bf_case.specs.declared.target.Target.{Target}
use Rattle.bf_case.specs.declared.target.Target.TheVariants.{Keep, Refine, Merge}
use Rattle.bf_case.proofs.HeirLemmas.{IsInOctet, IsRegridded}
use Rattle.bf_case.proofs.OctetLemmas.{level-parent, octant_of-child, parent_of-child}
use Rattle.bf_case.proofs.TestLemmas.{Contains-filter, Contains-filter_cases, touches_decides}
use Rattle.bf_links.specs.Links.{links_of, owner_of}
use Rattle.bf_links.proofs.LinkLemmas.{owner_found, owner_not_found}
use Rattle.bf_mark_rounds.specs.Neighbors.{is_own}
use Rattle.bf_mark_rounds.proofs.LevelLemmas.{sibling_touches}
use Rattle.bf_proxy.specs.Homes.{goes_into, home_of, origin_of, CanRegrid}
use Rattle.bf_proxy.specs.Proxies.{sources_by}
use Rattle.bf_proxy.proofs.HomeLemmas.{made_are, news}
use Rattle.bf_proxy.proofs.LawLemmas.{is_regridded}
use Rattle.bf_proxy_rounds.specs.Making.{first_owner}
use Rattle.bf_proxy_rounds.specs.Plays.{is_merge}

pub merge_from : (t : Target) → is_merge t ≡ true → t ≡ Merge
merge_from Keep test = cc
merge_from Refine test = cc
merge_from Merge test = refl

module _ (shape : Shape) (levels : ℕ) (ids : List BlockId) (w : Wishes) (can : CanRegrid shape levels ids w) where
  abbrev target : BlockId → Target
  target = target_of shape ids w

  pub regrid_is : IsRegridded shape levels ids target
  regrid_is = is_regridded shape levels ids w can

  pub octet_of : (i : BlockId) → Contains ids i → target i ≡ Merge → IsInOctet ids target i
  octet_of i has merge = regrid_is.sound.octets i has merge

  -- what comes of a leaf has it as its origin: a rank that has that leaf alone makes it
  pub origin_is : (i q : BlockId) → Contains ids i → Contains (heirs_by (target i) i) q → origin_of ids q ≡ i
  origin_is i q has heir = (id_eq_is_equal (origin_of ids q) i).0 (by (id_eq (origin_of ids q) i) refl)
    where
      made : (home_of ids (λ j. cond (id_eq j i) 1 0) q == 1) ≡ true
      made =
          let own : (cond (id_eq i i) 1 0 == 1) ≡ true = ap (λ b. cond b 1 0 == 1) ((id_eq_is_equal i i).1 refl) in
          let mine : Contains (filter (λ j. cond (id_eq j i) 1 0 == 1) ids) i = Contains-filter (λ j. cond (id_eq j i) 1 0 == 1) ids i has own in
          let makes : Contains (flat_map (λ j. heirs_by (target j) j) (filter (λ j. cond (id_eq j i) 1 0 == 1) ids)) q =
          Contains-flat_map (λ j. heirs_by (target j) j) (filter (λ j. cond (id_eq j i) 1 0 == 1) ids) i q mine heir in
          (Contains-filter_cases (λ q. home_of ids (λ j. cond (id_eq j i) 1 0) q == 1) (news shape levels ids target regrid_is) q
          (subst (λ qs. Contains qs q) (made_are shape levels ids target regrid_is (λ j. cond (id_eq j i) 1 0) 1) makes)).1

      by : (b : Bool) → id_eq (origin_of ids q) i ≡ b → id_eq (origin_of ids q) i ≡ true
      by true is = is
      by false is = let wrong : false ≡ true = ap (λ b. cond b 1 0 == 1) (sym is) ∙ made in cc

  -- the parent of a merging leaf has the first of the octet
  pub octet_origin : (i : BlockId) → Contains ids i → target i ≡ Merge → origin_of ids (parent_of i) ≡ child_of (parent_of i) 0
  octet_origin i has merge =
      let octet : IsInOctet ids target i = octet_of i has merge in
      let first : BlockId = child_of (parent_of i) 0 in
      let zero_octant : (octant_of first == 0) ≡ true = eq-eqb (octant_of first) 0 (octant_of-child (parent_of i) 0) in
      origin_is first (parent_of i) (octet.leaves 0 (omega arith))
      (subst (λ t. Contains (heirs_by t first) (parent_of i)) (sym (octet.merge 0 (omega arith)))
      (subst (λ qs. Contains qs (parent_of i)) (sym (cond-true (octant_of first == 0) (parent_of first ∷ []) [] zero_octant))
      (subst (λ p. Contains (p ∷ []) (parent_of i)) (sym (parent_of-child (parent_of i) 0)) (Contains-one (parent_of i)))))

  -- a sibling of a merging leaf is a leaf: it itself, or one that touches it
  pub sibling_is : (i s : BlockId) → Contains ids i → target i ≡ Merge → Contains (children_of (parent_of i)) s → Contains ids s × ((s ≡ i) ⊎ (touches shape i s ≡ true))
  sibling_is i s has merge sibling =
      let octet : IsInOctet ids target i = octet_of i has merge in
      let child = Contains-child_cases (parent_of i) s sibling in
      let named : IsId i = All-contains IsId ids i can.leaves.named has in (
        subst (Contains ids) (sym child.2) (octet.leaves child.0 child.1),
        sibling_touches shape i s named (omega (arith, level-parent i octet.child)) sibling,
      )

  module _ (owner : BlockId → ℕ) where
    -- where what a leaf goes into is made
    pub goes_home : (i q : BlockId) → Contains ids i → Contains (goes_into (target i) i) q → home_of ids owner q ≡ cond (is_merge (target i)) (first_owner owner i) (owner i)
    goes_home i q has goes = by (target i) refl goes
      where
        by : (t : Target) → target i ≡ t → Contains (goes_into t i) q → home_of ids owner q ≡ cond (is_merge t) (first_owner owner i) (owner i)
        by Keep is in' = ap owner (origin_is i q has (subst (λ t. Contains (heirs_by t i) q) (sym is) in'))
        by Refine is in' = ap owner (origin_is i q has (subst (λ t. Contains (heirs_by t i) q) (sym is) in'))
        by Merge is in' = ap (home_of ids owner) (Contains-one_cases (parent_of i) q in') ∙ ap owner (octet_origin i has is)

    -- a leaf's own links name the owner of each leaf of which its proxies come
    pub source_owner : (rank : ℕ) (i s : BlockId) → Contains ids i → is_own owner rank i ≡ true → Contains (sources_by (target i) i) s
        → unwrap_or (owner_of (links_of shape ids owner i) s) rank ≡ owner s
    source_owner rank i s has own source = by (target i) refl source
      where
        its : unwrap_or (owner_of (links_of shape ids owner i) i) rank ≡ owner i
        its = ap (λ o. unwrap_or o rank) (owner_not_found shape ids owner i i (λ leaf touch. touch.0 refl)) ∙ sym (eqb-true (owner i) rank own)

        one : (s ≡ i) ⊎ (touches shape i s ≡ true) → Contains ids s → unwrap_or (owner_of (links_of shape ids owner i) s) rank ≡ owner s
        one (inl same) leaf = ap (λ j. unwrap_or (owner_of (links_of shape ids owner i) j) rank) same ∙ its ∙ ap owner (sym same)
        one (inr touch) leaf = ap (λ o. unwrap_or o rank) (owner_found shape ids owner i s leaf ((touches_decides shape i s).0 touch))

        by : (t : Target) → target i ≡ t → Contains (sources_by t i) s → unwrap_or (owner_of (links_of shape ids owner i) s) rank ≡ owner s
        by Keep is in' = one (inl (Contains-one_cases i s in')) (subst (Contains ids) (sym (Contains-one_cases i s in')) has)
        by Refine is in' = one (inl (Contains-one_cases i s in')) (subst (Contains ids) (sym (Contains-one_cases i s in')) has)
        by Merge is in' = let sibling = sibling_is i s has is in' in one sibling.1 sibling.0
