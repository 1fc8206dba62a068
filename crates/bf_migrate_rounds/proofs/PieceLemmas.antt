-- The pieces in which leaves go: kept leaves, children of refined ones, and leaves of which an eighth goes.
use Rattle.std.proofs.Common.{◌≡◌, ℕ, ◌<◌, ◌≤◌, Bool, true, false, cond, ◌&&◌, ◌==◌, List, [], ◌∷◌, ◌⊎◌, inl, inr, filter, flat_map, Contains, get_or, refl, sym, ap, ◌∙◌, subst, arith, All}
use Rattle.std.specs.Prelude.{AllPairs}
use Rattle.std.proofs.lemmas.Bool.{cond-true, eq-eqb, false_from_ne_true}
use Rattle.std.proofs.lemmas.List.Elements.{All-contains, Contains-get_or}
use Rattle.bf_id.specs.declared.shape.Shape.{Shape}
use Rattle.bf_id.specs.Id.{BlockId, IsId, level_of, child_of, children_of, parent_of, octant_of, id_eq, Begins}
use Rattle.bf_id.specs.Walk.{IsBefore}
use Rattle.bf_id.proofs.Boxes.{id_eq_is_equal, level-child, IsId-child}
use Rattle.bf_id.proofs.Tilings.{Contains-one, Contains-one_cases, Contains-child, Contains-child_cases, Contains-flat_map, Contains-flat_map_cases, leaves_part}
use Rattle.bf_case.specs.declared.target.Target.{Target}
use Rattle.bf_case.specs.declared.target.Target.TheVariants.{Keep, Refine, Merge}
use Rattle.bf_case.specs.Balanced.{AreBalancedLeaves}
use Rattle.bf_case.specs.Refinement.{is_among}
use Rattle.bf_case.specs.Regrid.{heirs_by}
use Rattle.bf_case.proofs.HeirLemmas.{heirs_in, heirs_are_balanced, heirs_rise, heirs_shallow, IsInOctet, IsRegridded}
use Rattle.bf_case.proofs.ListLemmas.{AllBefore, AllPairs-one, AllPairs-flat_map, AllPairs-from_fn}
use Rattle.bf_case.proofs.OctetLemmas.{octant_of-child, parent_of-child}
use Rattle.bf_case.proofs.OrderLemmas.{Precedes, before_cases, before_from_precedes, child_precedes, children_part, precedes_child}
use Rattle.bf_case.proofs.SampleLemmas.{not_before_itself}
use Rattle.bf_case.proofs.TestLemmas.{Contains-filter, Contains-filter_cases}
use Rattle.bf_marks.proofs.ChosenLemmas.{among_has, among_is}
use Rattle.bf_proxy.specs.Homes.{goes_into, home_of, origin_of}
use Rattle.bf_proxy.specs.Proxies.{sources_by}
use Rattle.bf_proxy.proofs.HomeLemmas.{made_are}
use Rattle.bf_proxy.proofs.MakeLemmas.{heirs_follow}

-- a leaf that merges goes as it is
abbrev pub unmerged : Target → Target
unmerged Keep = Keep
unmerged Refine = Refine
unmerged Merge = Keep

abbrev pub merges_by : Target → Bool
merges_by Keep = false
merges_by Refine = false
merges_by Merge = true

abbrev pub pieces_in : List BlockId → (BlockId → Target) → List BlockId
pieces_in ids target = heirs_in (λ i. unmerged (target i)) ids

-- whether an eighth of a leaf goes
unfoldable pub is_eighth : List BlockId → (BlockId → Target) → BlockId → Bool
is_eighth ids target p = is_among ids p && merges_by (target p)

-- the proxy into which a piece goes
unfoldable pub goal_of : List BlockId → (BlockId → Target) → BlockId → BlockId
goal_of ids target p = cond (is_eighth ids target p) (parent_of p) p

-- the pieces that go into a proxy, by what becomes of the leaves of which it comes
abbrev pub parts_by : Target → BlockId → List BlockId
parts_by Keep q = q ∷ []
parts_by Refine q = q ∷ []
parts_by Merge q = children_of q

refines : (t : Target) → unmerged t ≡ Refine → t ≡ Refine
refines Keep e = absurd (cc)
refines Refine e = refl
refines Merge e = absurd (cc)

never_merges : (t : Target) → unmerged t ≡ Merge → ⊥
never_merges Keep e = cc
never_merges Refine e = cc
never_merges Merge e = cc

-- what comes of a leaf has it as its origin
pub origin_is : (shape : Shape) (levels : ℕ) (ids : List BlockId) (target : BlockId → Target) → IsRegridded shape levels ids target → (i q : BlockId)
    → Contains ids i
    → Contains (heirs_by (target i) i) q → origin_of ids q ≡ i
origin_is shape levels ids target is i q has heir =
    let own : Contains (filter (λ j. mark j == 1) ids) i = Contains-filter (λ j. mark j == 1) ids i has (ap (λ b. cond b 1 0 == 1) ((id_eq_is_equal i i).1 refl)) in
    let made : Contains (flat_map (λ j. heirs_by (target j) j) (filter (λ j. mark j == 1) ids)) q = Contains-flat_map (λ j. heirs_by (target j) j)
    (filter (λ j. mark j == 1) ids) i q own heir in
    let its = (Contains-filter_cases (λ p. home_of ids mark p == 1) (heirs_in target ids) q
    (subst (λ qs. Contains qs q) (made_are shape levels ids target is mark 1) made)).1 in
    (id_eq_is_equal (origin_of ids q) i).0 (marked (id_eq (origin_of ids q) i) its)
  where
    mark : BlockId → ℕ
    mark j = cond (id_eq j i) 1 0

    marked : (b : Bool) → (cond b 1 0 == 1) ≡ true → b ≡ true
    marked true e = refl
    marked false e = absurd (cc)

module _ (shape : Shape) (levels : ℕ) (ids : List BlockId) (target : BlockId → Target) (is : IsRegridded shape levels ids target) where
  abbrev pub news : List BlockId
  news = heirs_in target ids

  abbrev pub pieces : List BlockId
  pieces = pieces_in ids target

  pub unmerged_regridded : IsRegridded shape levels ids (λ i. unmerged (target i))
  unmerged_regridded = record {
    few = is.few;
    before = is.before;
    sound = record {
      room = λ i has e. is.sound.room i has (refines (target i) e);
      forced = λ i j has has' e touch level. ap unmerged (is.sound.forced i j has has' (refines (target j) e) touch level);
      octets = λ i has e. absurd (never_merges (target i) e);
      stays = λ i j has has' e e' touch level. never_merges (target i) e;
      finer = λ i j has has' e touch level. absurd (never_merges (target i) e);
    };
  }

  pub pieces_rise : AllPairs IsBefore pieces
  pieces_rise = heirs_rise shape levels ids (λ i. unmerged (target i)) unmerged_regridded

  pub pieces_shallow : All (λ p. level_of p ≤ levels) pieces
  pieces_shallow = heirs_shallow shape levels ids (λ i. unmerged (target i)) unmerged_regridded

  pub news_rise : AllPairs IsBefore news
  news_rise = heirs_rise shape levels ids target is

  -- ---- which pieces are eighths, and where pieces go

  named : (i : BlockId) → Contains ids i → IsId i
  named i has = All-contains IsId ids i is.before.named has

  -- no child of a refined leaf is a leaf
  no_child : (i : BlockId) (o : ℕ) → Contains ids i → target i ≡ Refine → o < 8 → is_among ids (child_of i o) ≡ false
  no_child i o has e small =
      let low : level_of i < levels = is.sound.room i has e in
      let few : levels ≤ 4 = is.few in
      let sound : IsId (child_of i o) = IsId-child i o (named i has) (omega arith) small in
      false_from_ne_true (is_among ids (child_of i o)) (λ among.
      let same : i ≡ child_of i o = leaves_part shape ids i (child_of i o) is.before.tiling has (among_has ids (child_of i o) among) sound (refl, (o ∷ [], refl)) in
      let level : level_of i ≡ level_of (child_of i o) = ap level_of same in
      omega (arith, level-child i o))

  pub eighth_leaf : (i : BlockId) → Contains ids i → is_eighth ids target i ≡ merges_by (target i)
  unfolding is_eighth
  eighth_leaf i has = ap (λ b. b && merges_by (target i)) (among_is ids i has)

  pub eighth_child : (i : BlockId) (o : ℕ) → Contains ids i → target i ≡ Refine → o < 8 → is_eighth ids target (child_of i o) ≡ false
  unfolding is_eighth
  eighth_child i o has e small = ap (λ b. b && merges_by (target (child_of i o))) (no_child i o has e small)

  goal_by : (p : BlockId) (b : Bool) → is_eighth ids target p ≡ b → goal_of ids target p ≡ cond b (parent_of p) p
  unfolding goal_of
  goal_by p b e = ap (λ c. cond c (parent_of p) p) e

  pub goal_kept : (i : BlockId) → Contains ids i → target i ≡ Keep → goal_of ids target i ≡ i
  goal_kept i has e = goal_by i false (eighth_leaf i has ∙ ap merges_by e)

  pub goal_merged : (i : BlockId) → Contains ids i → target i ≡ Merge → goal_of ids target i ≡ parent_of i
  goal_merged i has e = goal_by i true (eighth_leaf i has ∙ ap merges_by e)

  pub goal_child : (i : BlockId) (o : ℕ) → Contains ids i → target i ≡ Refine → o < 8 → goal_of ids target (child_of i o) ≡ child_of i o
  goal_child i o has e small = goal_by (child_of i o) false (eighth_child i o has e small)

  -- ---- leaves and new leaves

  -- where a leaf goes into a new one: that has it among its sources
  pub record Into (j q : BlockId) : Type 0 where
    pub new : Contains news q
    pub source : Contains (sources_by (target (origin_of ids q)) (origin_of ids q)) j

  from_heir : (i j q : BlockId) → Contains ids i → Contains (heirs_by (target i) i) q → Contains (sources_by (target i) i) j → Into j q
  from_heir i j q has heir source = record {
    new = Contains-flat_map (λ k. heirs_by (target k) k) ids i q has heir;
    source = subst (λ k. Contains (sources_by (target k) k) j) (sym (origin_is shape levels ids target is i q has heir)) source;
  }

  by_target : (i : BlockId) (t : Target) (f : Target → BlockId → List BlockId) (q : BlockId) → target i ≡ t → Contains (f t i) q → Contains (f (target i) i) q
  by_target i t f q e has = subst (λ u. Contains (f u i) q) (sym e) has

  -- the first of an octet that merges, of which the parent comes
  first_heir : (p : BlockId) → target (child_of p 0) ≡ Merge → Contains (heirs_by (target (child_of p 0)) (child_of p 0)) p
  first_heir p merge =
      by_target (child_of p 0) Merge heirs_by p merge
      (subst (λ xs. Contains xs p) (sym (cond-true (octant_of (child_of p 0) == 0) (parent_of (child_of p 0) ∷ []) []
      (eq-eqb (octant_of (child_of p 0)) 0 (octant_of-child p 0))))
      (subst (λ r. Contains (r ∷ []) p) (sym (parent_of-child p 0)) (Contains-one p)))

  pub into : (j q : BlockId) → Contains ids j → Contains (goes_into (target j) j) q → Into j q
  into j q has goes = by (target j) refl goes
    where
      by : (t : Target) → target j ≡ t → Contains (goes_into t j) q → Into j q
      by Keep e one = from_heir j j q has (by_target j Keep heirs_by q e one) (by_target j Keep sources_by j e (Contains-one j))
      by Refine e child = from_heir j j q has (by_target j Refine heirs_by q e child) (by_target j Refine sources_by j e (Contains-one j))
      by Merge e one =
          let p : BlockId = parent_of j in
          let octet : IsInOctet ids target j = is.sound.octets j has e in
          let merge : target (child_of p 0) ≡ Merge = octet.merge 0 (omega arith) in
          let up : q ≡ p = Contains-one_cases p q one in
          let own : Contains (children_of p) j = subst (Contains (children_of p)) (sym octet.child) (Contains-child p (octant_of j) octet.octal) in
          subst (Into j) (sym up)
          (from_heir (child_of p 0) j p (octet.leaves 0 (omega arith)) (first_heir p merge)
          (by_target (child_of p 0) Merge sources_by j merge (subst (λ r. Contains (children_of r) j) (sym (parent_of-child p 0)) own)))

  -- a new leaf by its origin
  pub record From (q : BlockId) : Type 0 where
    pub leaf : Contains ids (origin_of ids q)
    pub heir : Contains (heirs_by (target (origin_of ids q)) (origin_of ids q)) q

  pub from : (q : BlockId) → Contains news q → From q
  from q has =
      let found = Contains-flat_map_cases (λ i. heirs_by (target i) i) ids q has in
      let same : origin_of ids q ≡ found.0 = origin_is shape levels ids target is found.0 q found.1 found.2 in
      record { leaf = subst (Contains ids) (sym same) found.1; heir = subst (λ i. Contains (heirs_by (target i) i) q) (sym same) found.2 }

  -- an octet, by the origin of its parent
  pub record Octet (q : BlockId) : Type 0 where
    pub leaves : (octant : ℕ) → octant < 8 → Contains ids (child_of q octant)
    pub merge : (octant : ℕ) → octant < 8 → target (child_of q octant) ≡ Merge

  pub octet_of : (q : BlockId) → Contains news q → target (origin_of ids q) ≡ Merge → Octet q × (parent_of (origin_of ids q) ≡ q)
  octet_of q has e =
      let came : From q = from q has in
      let i : BlockId = origin_of ids q in
      let octet : IsInOctet ids target i = is.sound.octets i came.leaf e in
      let up : q ≡ parent_of i = heirs_follow Merge i q (subst (λ t. Contains (heirs_by t i) q) e came.heir) in (
        record {
          leaves = λ o small. subst (λ p. Contains ids (child_of p o)) (sym up) (octet.leaves o small);
          merge = λ o small. subst (λ p. target (child_of p o) ≡ Merge) (sym up) (octet.merge o small);
        },
        sym up,
      )

  -- the sources of a new leaf are leaves that go into it
  pub source_goes : (q j : BlockId) → Contains news q → Contains (sources_by (target (origin_of ids q)) (origin_of ids q)) j
      → Contains ids j × Contains (goes_into (target j) j) q
  source_goes q j has source = by (target (origin_of ids q)) refl source
    where
      i : BlockId
      i = origin_of ids q

      alone : (t : Target) → target i ≡ t → j ≡ i → Contains (goes_into t i) q → Contains ids j × Contains (goes_into (target j) j) q
      alone t e same goes =
          (subst (Contains ids) (sym same) (from q has).leaf, subst (λ k. Contains (goes_into (target k) k) q) (sym same) (by_target i t goes_into q e goes))

      heir : (t : Target) → target i ≡ t → Contains (heirs_by t i) q
      heir t e = subst (λ u. Contains (heirs_by u i) q) e (from q has).heir

      by : (t : Target) → target i ≡ t → Contains (sources_by t i) j → Contains ids j × Contains (goes_into (target j) j) q
      by Keep e one = alone Keep e (Contains-one_cases i j one) (heir Keep e)
      by Refine e one = alone Refine e (Contains-one_cases i j one) (heir Refine e)
      by Merge e child =
          let found = octet_of q has e in
          let o = Contains-child_cases q j (subst (λ p. Contains (children_of p) j) found.1 child) in (
            subst (Contains ids) (sym o.2) (found.0.leaves o.0 o.1),
            by_target j Merge goes_into q (ap target o.2 ∙ found.0.merge o.0 o.1)
                (subst (λ p. Contains (p ∷ []) q) (sym (ap parent_of o.2 ∙ parent_of-child q o.0)) (Contains-one q)),
          )

  -- ---- pieces and new leaves

  -- a piece comes of a leaf that goes into its proxy, and is one of the parts of that
  pub record Goes (p : BlockId) : Type 0 where
    pub leaf : Contains ids (origin_of ids p)
    pub goes : Contains (goes_into (target (origin_of ids p)) (origin_of ids p)) (goal_of ids target p)
    pub part : Contains (parts_by (target (origin_of ids (goal_of ids target p))) (goal_of ids target p)) p

  pub goes_of : (p : BlockId) → Contains pieces p → Goes p
  goes_of p has = let found = Contains-flat_map_cases (λ i. heirs_by (unmerged (target i)) i) ids p has in by found.0 found.1 (target found.0) refl found.2
    where
      goal : BlockId
      goal = goal_of ids target p

      -- of a leaf and a new one, where the origin of that is known
      told : (i : BlockId) (t : Target) → Contains ids i → target i ≡ t → Contains (heirs_by (unmerged t) i) p → Contains (goes_into t i) goal
          → target (origin_of ids goal) ≡ t
          → Contains (parts_by t goal) p → Goes p
      told i t leaf e heir goes origin part =
          let same : origin_of ids p ≡ i = origin_is shape levels ids (λ i. unmerged (target i)) unmerged_regridded i p leaf
          (subst (λ u. Contains (heirs_by (unmerged u) i) p) (sym e) heir) in
          record {
            leaf = subst (Contains ids) (sym same) leaf;
            goes = subst (λ j. Contains (goes_into (target j) j) goal) (sym same) (by_target i t goes_into goal e goes);
            part = subst (λ u. Contains (parts_by u goal) p) (sym origin) part;
          }

      by : (i : BlockId) → Contains ids i → (t : Target) → target i ≡ t → Contains (heirs_by (unmerged t) i) p → Goes p
      by i leaf Keep e one =
          let same : p ≡ i = Contains-one_cases i p one in
          let goal_is : goal ≡ i = ap (goal_of ids target) same ∙ goal_kept i leaf e in
          told i Keep leaf e one (subst (Contains (i ∷ [])) (sym goal_is) (Contains-one i))
          (ap target (ap (origin_of ids) goal_is ∙ origin_is shape levels ids target is i i leaf (by_target i Keep heirs_by i e (Contains-one i))) ∙ e)
          (subst (λ q. Contains (q ∷ []) p) (same ∙ sym goal_is) (Contains-one p))
      by i leaf Refine e child =
          let o = Contains-child_cases i p child in
          let goal_is : goal ≡ p = ap (goal_of ids target) o.2 ∙ goal_child i o.0 leaf e o.1 ∙ sym o.2 in
          told i Refine leaf e child (subst (Contains (children_of i)) (sym goal_is) child)
          (ap target (ap (origin_of ids) goal_is ∙ origin_is shape levels ids target is i p leaf (by_target i Refine heirs_by p e child)) ∙ e)
          (subst (λ q. Contains (q ∷ []) p) (sym goal_is) (Contains-one p))
      by i leaf Merge e one =
          let same : p ≡ i = Contains-one_cases i p one in
          let up : BlockId = parent_of i in
          let goal_is : goal ≡ up = ap (goal_of ids target) same ∙ goal_merged i leaf e in
          let octet : IsInOctet ids target i = is.sound.octets i leaf e in
          let merge : target (child_of up 0) ≡ Merge = octet.merge 0 (omega arith) in
          told i Merge leaf e one (subst (Contains (up ∷ [])) (sym goal_is) (Contains-one up))
          (ap target (ap (origin_of ids) goal_is ∙ origin_is shape levels ids target is (child_of up 0) up (octet.leaves 0 (omega arith))
          (first_heir up merge)) ∙ merge)
          (subst (λ q. Contains (children_of q) p) (sym goal_is)
          (subst (Contains (children_of up)) (sym (same ∙ octet.child)) (Contains-child up (octant_of i) octet.octal)))

  -- the parts of a new leaf are pieces that go into it
  pub part_goes : (q p : BlockId) → Contains news q → Contains (parts_by (target (origin_of ids q)) q) p → Contains pieces p × (goal_of ids target p ≡ q)
  part_goes q p has part = by (target (origin_of ids q)) refl part
    where
      i : BlockId
      i = origin_of ids q

      heir : (t : Target) → target i ≡ t → Contains (heirs_by t i) q
      heir t e = subst (λ u. Contains (heirs_by u i) q) e (from q has).heir

      piece : (j r : BlockId) → Contains ids j → (t : Target) → target j ≡ t → Contains (heirs_by (unmerged t) j) r → Contains pieces r
      piece j r leaf t e heir' =
          Contains-flat_map (λ k. heirs_by (unmerged (target k)) k) ids j r leaf (subst (λ u. Contains (heirs_by (unmerged u) j) r) (sym e) heir')

      by : (t : Target) → target i ≡ t → Contains (parts_by t q) p → Contains pieces p × (goal_of ids target p ≡ q)
      by Keep e one =
          let same : p ≡ q = Contains-one_cases q p one in
          let own : q ≡ i = Contains-one_cases i q (heir Keep e) in (
            subst (Contains pieces) (sym same) (piece i q (from q has).leaf Keep e (heir Keep e)),
            ap (goal_of ids target) (same ∙ own)
                ∙ goal_kept i (from q has).leaf e ∙ sym own,
          )
      by Refine e one =
          let same : p ≡ q = Contains-one_cases q p one in
          let o = Contains-child_cases i q (heir Refine e) in (
            subst (Contains pieces) (sym same) (piece i q (from q has).leaf Refine e (heir Refine e)),
            ap (goal_of ids target) (same ∙ o.2)
                ∙ goal_child i o.0 (from q has).leaf e o.1 ∙ sym o.2,
          )
      by Merge e child =
          let octet : Octet q = (octet_of q has e).0 in
          let o = Contains-child_cases q p child in
          let leaf : Contains ids p = subst (Contains ids) (sym o.2) (octet.leaves o.0 o.1) in
          let merge : target p ≡ Merge = ap target o.2 ∙ octet.merge o.0 o.1 in
          (piece p p leaf Merge merge (Contains-one p), goal_merged p leaf merge ∙ ap parent_of o.2 ∙ parent_of-child q o.0)

  -- ---- the parts of new leaves rise

  part_cases : (t : Target) (q p : BlockId) → Contains (parts_by t q) p → (p ≡ q) ⊎ ((o : ℕ) × (p ≡ child_of q o))
  part_cases Keep q p one = inl (Contains-one_cases q p one)
  part_cases Refine q p one = inl (Contains-one_cases q p one)
  part_cases Merge q p child = let o = Contains-child_cases q p child in inr (o.0, o.2)

  abbrev pub parts_of : BlockId → List BlockId
  parts_of q = parts_by (target (origin_of ids q)) q

  parts_before : (q r : BlockId) → Contains news q → Contains news r → IsBefore q r → AllBefore IsBefore (parts_of q) (parts_of r)
  parts_before q r has has' before a b in_q in_r = by (before_cases q r before)
    where
      balanced : AreBalancedLeaves shape levels news
      balanced = heirs_are_balanced shape levels ids target is

      down : Precedes q r → (a ≡ q) ⊎ ((o : ℕ) × (a ≡ child_of q o)) → Precedes a r
      down part (inl same) = subst (λ x. Precedes x r) (sym same) part
      down part (inr (o, child)) = subst (λ x. Precedes x r) (sym child) (child_precedes q r o part)

      across : Precedes a r → (b ≡ r) ⊎ ((o : ℕ) × (b ≡ child_of r o)) → Precedes a b
      across part (inl same) = subst (Precedes a) (sym same) part
      across part (inr (o, child)) = subst (Precedes a) (sym child) (precedes_child a r o part)

      by : Begins q r ⊎ Precedes q r → IsBefore a b
      by (inl begins) =
          let same : q ≡ r = leaves_part shape news q r balanced.tiling has has' (All-contains IsId news r balanced.named has') begins in
          absurd (not_before_itself r (subst (λ x. IsBefore x r) same before))
      by (inr part) = before_from_precedes a b (across (down part (part_cases (target (origin_of ids q)) q a in_q)) (part_cases (target (origin_of ids r)) r b in_r))

  pub parts_rise : (qs : List BlockId) → AllPairs IsBefore qs → ((q : BlockId) → Contains qs q → Contains news q) → AllPairs IsBefore (flat_map parts_of qs)
  parts_rise qs rise within =
      AllPairs-flat_map IsBefore parts_of qs (λ q. each (target (origin_of ids q)) q)
      (λ k l d less below. parts_before (get_or qs k d) (get_or qs l d)
      (within (get_or qs k d) (Contains-get_or qs k d (omega arith))) (within (get_or qs l d) (Contains-get_or qs l d below)) (rise k l d less below))
    where
      each : (t : Target) (q : BlockId) → AllPairs IsBefore (parts_by t q)
      each Keep q = AllPairs-one IsBefore q
      each Refine q = AllPairs-one IsBefore q
      each Merge q = AllPairs-from_fn IsBefore (child_of q) 8 (λ k l less. before_from_precedes (child_of q k) (child_of q l) (children_part q k l less))
