-- An octet merges where it is free: all eight are leaves that are not held.
use Rattle.std.proofs.Common.{◌≡◌, ℕ, zero, suc, ◌+◌, ◌-◌, ◌<◌, ◌≤◌, Bool, true, false, not, ◌&&◌, ◌||◌, ◌==◌, List, [], ◌∷◌, ◌++◌, take, drop, IsTrue, ◌↔◌, Contains, filter, length, map, get_or, ◌⊎◌, inl, inr, refl, sym, ap, subst, ◌∙◌, arith, All}
use Rattle.std.specs.Prelude.{nat_lt, AllPairs}
use Rattle.std.specs.List.{list_all}
use Rattle.std.proofs.lemmas.Bool.{and_parts, and_from, or_cases, or_left, or_right, both_ways, cases_Bool, cases_lt, ltb-true, lt-ltb, eqb-true, eq-eqb, false≢true, or_from, or_parts, false_from_ne_true, not-true, not_from_false, not-false}
use Rattle.std.proofs.lemmas.List.Elements.{All-contains, Contains-get_or, at_from_Contains}
use Rattle.std.proofs.lemmas.List.{get_or-map, get_or_default, map-append, take_more, length-take, length-map, length-append}
use Rattle.std.proofs.Math.Seq.{take-length, take-append_seam}
use Rattle.bf_lemmas.proofs.Lists.{map_alike}
use Rattle.bf_lemmas.proofs.Tests.{same_tests}
use Rattle.bf_id.specs.declared.shape.Shape.{Shape}
use Rattle.bf_id.specs.Id.{BlockId, IsId, level_of, parent_of, octant_of, child_of, children_of, root_id, Touch, touches}
use Rattle.bf_id.specs.Tiling.{Tiles}
use Rattle.bf_id.specs.Walk.{IsBefore}
use Rattle.bf_id.proofs.Boxes.{level-child}
use Rattle.bf_id.proofs.Tilings.{Contains-child, Contains-child_cases, any_id_decides}
use Rattle.bf_case.specs.Map.{Leaf, ids_of}
use Rattle.bf_case.specs.Wishes.{Wishes}
use Rattle.bf_case.specs.Refinement.{is_among, refined_ids}
use Rattle.bf_case.specs.Merging.{touched_by, merges_within, merges}
use Rattle.bf_case.proofs.TestLemmas.{touches_decides, passes_from_any, any_from_passes, Contains-filter_cases}
use Rattle.bf_case.proofs.ChoiceLemmas.{each_from_all, merging_octet}
use Rattle.bf_case.proofs.MergingRule.{all_from_each, three_levels, touched_octet}
use Rattle.bf_case.proofs.OctetLemmas.{child_of_parent, octant_small, level-parent}
use Rattle.bf_case.proofs.PlaceLemmas.{StandsAt, one_place, siblings_stand_together}
use Rattle.bf_plain.specs.Atlas.{id_at, Chart}
use Rattle.bf_plain.specs.Marks.{is_reached, reaches, IsSurveyed}
use Rattle.bf_plain.specs.Octets.{leaf_merges, is_barred, is_held, is_free, stays_at, AreInOrder, StandsFree}
use Rattle.bf_plain.proofs.AtlasLemmas.{id_of_leaf}
use Rattle.bf_plain.proofs.RefiningLemmas.{refined_within-in}
use Rattle.bf_plain.proofs.MarkLemmas.{or_false, count_of-ids}

-- ---- what holds a leaf

-- a leaf that reaches another one
reach_parts : (shape : Shape) (finer : ℕ) (source : BlockId → Bool) (ids : List BlockId) (i : BlockId) → is_reached shape finer source ids i ≡ true
    → (j : BlockId) × Contains ids j × (source j ≡ true) × Touch shape j i × (level_of j ≡ level_of i + finer)
reach_parts shape finer source ids i e =
    let found = passes_from_any (λ j. source j && reaches shape finer j i) ids e in
    let j = found.0 in
    let outer = and_parts (source j) (reaches shape finer j i) found.2 in
    let inner = and_parts (touches shape j i) (level_of j == level_of i + finer) outer.1 in
    (j, found.1, outer.0, (touches_decides shape j i).0 inner.0, eqb-true (level_of j) (level_of i + finer) inner.1)

reach_from : (shape : Shape) (finer : ℕ) (source : BlockId → Bool) (ids : List BlockId) (i j : BlockId) → Contains ids j → source j ≡ true → Touch shape j i
    → level_of j ≡ level_of i + finer → is_reached shape finer source ids i ≡ true
reach_from shape finer source ids i j has on touch level =
    any_from_passes (λ j. source j && reaches shape finer j i) ids j has
    (and_from (source j) (reaches shape finer j i) on
    (and_from (touches shape j i) (level_of j == level_of i + finer) ((touches_decides shape j i).1 touch) (eq-eqb (level_of j) (level_of i + finer) level)))

-- what is meant by a leaf that is not held, as far as leaves below a level are looked at
record IsUnheld (shape : Shape) (ids : List BlockId) (w : Wishes) (refined : List BlockId) (level : ℕ) (i : BlockId) : Type 0 where
  wishes : w.coarser i ≡ true
  unrefined : is_among refined i ≡ false
  calm : (j : BlockId) → Contains ids j → is_among refined j ≡ true → Touch shape j i → level_of j ≡ level_of i → ⊥
  finer : (j : BlockId) → Contains ids j → Touch shape j i → level_of j ≡ level_of i + 1 → level < level_of j → leaf_merges shape ids w refined j ≡ true

unheld : (shape : Shape) (ids : List BlockId) (w : Wishes) (refined : List BlockId) (level : ℕ) (i : BlockId) → is_held shape ids w refined level i ≡ false
    → IsUnheld shape ids w refined level i
unheld shape ids w refined level i e =
    let r : BlockId → Bool = is_among refined in
    let stays : BlockId → Bool = λ j. nat_lt level (level_of j) && not (leaf_merges shape ids w refined j) in
    let outer = or_parts (is_barred shape ids w.coarser r i) (is_reached shape 1 stays ids i) e in
    let barred = or_parts (not (w.coarser i) || r i) (is_reached shape 0 r ids i) outer.0 in
    let own = or_parts (not (w.coarser i)) (r i) barred.0 in
    record {
      wishes = not-false (w.coarser i) own.0;
      unrefined = own.1;
      calm = λ j has on touch same. both_ways (is_reached shape 0 r ids i) barred.1 (reach_from shape 0 r ids i j has on touch (omega arith));
      finer = λ j has touch one above. finer_by j has touch one above (cases_Bool (leaf_merges shape ids w refined j)) outer.1;
    }
  where
    finer_by : (j : BlockId) → Contains ids j → Touch shape j i → level_of j ≡ level_of i + 1 → level < level_of j
        → (leaf_merges shape ids w refined j ≡ true) ⊎ (leaf_merges shape ids w refined j ≡ false)
        → is_reached shape 1 (λ j. nat_lt level (level_of j) && not (leaf_merges shape ids w refined j)) ids i ≡ false → leaf_merges shape ids w refined j ≡ true
    finer_by j has touch one above (inl merging) none = merging
    finer_by j has touch one above (inr staying) none =
        absurd (both_ways (is_reached shape 1 (λ j. nat_lt level (level_of j) && not (leaf_merges shape ids w refined j)) ids i) none
        (reach_from shape 1 (λ j. nat_lt level (level_of j) && not (leaf_merges shape ids w refined j)) ids i j has
        (and_from (nat_lt level (level_of j)) (not (leaf_merges shape ids w refined j)) (lt-ltb level (level_of j) above) (not_from_false (leaf_merges shape ids w refined j) staying)) touch one))

not_held : (shape : Shape) (ids : List BlockId) (w : Wishes) (refined : List BlockId) (level : ℕ) (i : BlockId)
    → IsUnheld shape ids w refined level i → is_held shape ids w refined level i ≡ false
not_held shape ids w refined level i is =
    let r : BlockId → Bool = is_among refined in
    let stays : BlockId → Bool = λ j. nat_lt level (level_of j) && not (leaf_merges shape ids w refined j) in
    or_from (is_barred shape ids w.coarser r i) (is_reached shape 1 stays ids i)
    (or_from (not (w.coarser i) || r i) (is_reached shape 0 r ids i)
    (or_from (not (w.coarser i)) (r i) (ap not is.wishes) is.unrefined)
    (false_from_ne_true (is_reached shape 0 r ids i) (λ e. let f = reach_parts shape 0 r ids i e in is.calm f.0 f.1 f.2 f.3 (omega (arith, f.4)))))
    (false_from_ne_true (is_reached shape 1 stays ids i) (λ e.
    let f = reach_parts shape 1 stays ids i e in
    let parts = and_parts (nat_lt level (level_of f.0)) (not (leaf_merges shape ids w refined f.0)) f.2 in
    both_ways (leaf_merges shape ids w refined f.0) (not-true (leaf_merges shape ids w refined f.0) parts.1)
    (is.finer f.0 f.1 f.3 f.4 (ltb-true level (level_of f.0) parts.0))))

-- ---- octets

-- what each of an octet's eight passes
abbrev AllEight : List BlockId → (BlockId → Bool) → BlockId → Type 0
AllEight ids held p = (octant : ℕ) → octant < 8 → Contains ids (child_of p octant) × (held (child_of p octant) ≡ false)

eight_from_free : (ids : List BlockId) (held : BlockId → Bool) (p : BlockId) → list_all (λ j. is_among ids j && not (held j)) (children_of p) ≡ true → AllEight ids held p
eight_from_free ids held p all octant small =
    let i = child_of p octant in
    let parts = and_parts (is_among ids i) (not (held i)) (each_from_all (λ j. is_among ids j && not (held j)) (children_of p) i all (Contains-child p octant small)) in
    ((any_id_decides ids i).0 parts.0, not-true (held i) parts.1)

free_from_eight : (ids : List BlockId) (held : BlockId → Bool) (p : BlockId) → AllEight ids held p → list_all (λ j. is_among ids j && not (held j)) (children_of p) ≡ true
free_from_eight ids held p eight =
    all_from_each (λ j. is_among ids j && not (held j)) (children_of p) (λ i has. one i (Contains-child_cases p i has))
  where
    one : (i : BlockId) → (o : ℕ) × (o < 8) × (i ≡ child_of p o) → (is_among ids i && not (held i)) ≡ true
    one i (o, small, child) =
        let both = eight o small in
        ap (λ j. is_among ids j && not (held j)) child
        ∙ and_from (is_among ids (child_of p o)) (not (held (child_of p o))) ((any_id_decides ids (child_of p o)).1 both.0) (not_from_false (held (child_of p o)) both.1)

-- leaves of at most four levels, and refined ones among them
pub record AreShallow (ids refined : List BlockId) : Type 0 where
  pub low : All (λ j. level_of j ≤ 4) ids
  pub leaves : (j : BlockId) → Contains refined j → Contains ids j

leaf_merges_with_octet : (shape : Shape) (ids : List BlockId) (w : Wishes) (refined : List BlockId) (j : BlockId) → 0 < level_of j
    → merges shape ids w refined (parent_of j) ≡ true → leaf_merges shape ids w refined j ≡ true
leaf_merges_with_octet shape ids w refined j deep merging =
    and_from (nat_lt 0 (level_of j)) (merges shape ids w refined (parent_of j)) (lt-ltb 0 (level_of j) deep) merging

-- the eight of an octet that merges are leaves that are not held
eight_from_merges : (shape : Shape) (ids : List BlockId) (w : Wishes) (refined : List BlockId) (level : ℕ) (p : BlockId) → AreShallow ids refined
    → merges shape ids w refined p ≡ true → AllEight ids (is_held shape ids w refined level) p
unfolding merges_within
eight_from_merges shape ids w refined level p are merging octant small =
    let i : BlockId = child_of p octant in
    let is = merging_octet shape ids w refined 3 p merging in
    let octet = children_of p in
    let eager : BlockId → Bool = λ j. is_among ids j && w.coarser j && not (is_among refined j) in
    let calm : Bool = list_all (λ j. not (level_of j == level_of p + 1 && touched_by shape octet j)) refined in
    let follow : Bool = list_all (λ j. merges_within shape ids w refined 3 (parent_of j)) (filter (λ j. level_of j == level_of p + 2 && touched_by shape octet j) ids) in
    let all = (and_parts (list_all eager octet) calm (and_parts (list_all eager octet && calm) follow merging).0).0 in
    let own = each_from_all eager octet i all (Contains-child p octant small) in
    let one : level_of i ≡ level_of p + 1 = level-child p octant in (
      is.leaves octant small,
      not_held shape ids w refined level i (record {
        wishes = (and_parts (is_among ids i) (w.coarser i) (and_parts (is_among ids i && w.coarser i) (not (is_among refined i)) own).0).1;
        unrefined = is.unrefined octant small;
        calm = λ j has on touch same. is.stays octant j small ((any_id_decides refined j).0 on) (same ∙ one) touch;
        finer = λ j has touch above deep.
            let two : level_of j ≡ level_of p + 2 = omega (arith, above, one) in
            leaf_merges_with_octet shape ids w refined j (omega (arith, two))
            (sym (three_levels shape ids w refined p j are.low two) ∙ is.finer octant j small has two touch);
      }),
    )

-- and an octet of such leaves merges
merges_from_eight : (shape : Shape) (ids : List BlockId) (w : Wishes) (refined : List BlockId) (level : ℕ) (p : BlockId) → AreShallow ids refined
    → level ≤ level_of p + 1 → AllEight ids (is_held shape ids w refined level) p → merges shape ids w refined p ≡ true
unfolding merges_within
merges_from_eight shape ids w refined level p are above eight =
    let octet = children_of p in
    let eager : BlockId → Bool = λ j. is_among ids j && w.coarser j && not (is_among refined j) in
    let calm : BlockId → Bool = λ j. not (level_of j == level_of p + 1 && touched_by shape octet j) in
    let near : BlockId → Bool = λ j. level_of j == level_of p + 2 && touched_by shape octet j in
    let follow : BlockId → Bool = λ j. merges_within shape ids w refined 3 (parent_of j) in
    and_from (list_all eager octet && list_all calm refined) (list_all follow (filter near ids))
    (and_from (list_all eager octet) (list_all calm refined)
    (all_from_each eager octet (λ i has. eager_at i (Contains-child_cases p i has)))
    (all_from_each calm refined (λ j has. not_from_false (level_of j == level_of p + 1 && touched_by shape octet j)
    (false_from_ne_true (level_of j == level_of p + 1 && touched_by shape octet j) (λ e. calm_at j has (and_parts (level_of j == level_of p + 1) (touched_by shape octet j) e))))))
    (all_from_each follow (filter near ids) (λ j has.
    let kept = Contains-filter_cases near ids j has in
    follow_at j kept.0 (and_parts (level_of j == level_of p + 2) (touched_by shape octet j) kept.1)))
  where
    is : (octant : ℕ) → octant < 8 → IsUnheld shape ids w refined level (child_of p octant)
    is octant small = unheld shape ids w refined level (child_of p octant) (eight octant small).1

    eager_at : (i : BlockId) → (o : ℕ) × (o < 8) × (i ≡ child_of p o) → (is_among ids i && w.coarser i && not (is_among refined i)) ≡ true
    eager_at i (o, small, child) =
        let k : BlockId = child_of p o in
        ap (λ (j : BlockId). is_among ids j && w.coarser j && not (is_among refined j)) child
        ∙ and_from (is_among ids k && w.coarser k) (not (is_among refined k))
        (and_from (is_among ids k) (w.coarser k) ((any_id_decides ids k).1 (eight o small).0) (is o small).wishes)
        (not_from_false (is_among refined k) (is o small).unrefined)

    calm_at : (j : BlockId) → Contains refined j → (level_of j == level_of p + 1 ≡ true) × (touched_by shape (children_of p) j ≡ true) → ⊥
    calm_at j has (level', touched) =
        let found = touched_octet shape p j touched in
        let one : level_of j ≡ level_of p + 1 = eqb-true (level_of j) (level_of p + 1) level' in
        (is found.0 found.1).calm j (are.leaves j has) ((any_id_decides refined j).1 has) found.2 (one ∙ sym (level-child p found.0))

    follow_at : (j : BlockId) → Contains ids j → (level_of j == level_of p + 2 ≡ true) × (touched_by shape (children_of p) j ≡ true)
        → merges_within shape ids w refined 3 (parent_of j) ≡ true
    follow_at j has (level', touched) =
        let found = touched_octet shape p j touched in
        let two : level_of j ≡ level_of p + 2 = eqb-true (level_of j) (level_of p + 2) level' in
        let joining = (is found.0 found.1).finer j has found.2 (omega (arith, two, level-child p found.0)) (omega (arith, two, above)) in
        three_levels shape ids w refined p j are.low two
        ∙ (and_parts (nat_lt 0 (level_of j)) (merges shape ids w refined (parent_of j)) joining).1

-- a leaf leaf_merges where its octet is free, as far as leaves below its level or below a coarser one are looked at
pub merges_where_free : (shape : Shape) (ids : List BlockId) (w : Wishes) (refined : List BlockId) (level : ℕ) (i : BlockId) → AreShallow ids refined
    → level ≤ level_of i → leaf_merges shape ids w refined i ≡ is_free ids (is_held shape ids w refined level) i
merges_where_free shape ids w refined level i are above =
    let deep = nat_lt 0 (level_of i) in
    let free = list_all (λ j. is_among ids j && not (is_held shape ids w refined level j)) (children_of (parent_of i)) in
    let one : 0 < level_of i → level ≤ level_of (parent_of i) + 1 = λ some. omega (arith, above, level-parent i (child_of_parent i some)) in
    same_tests (leaf_merges shape ids w refined i) (is_free ids (is_held shape ids w refined level) i)
    (λ joining.
    let parts = and_parts deep (merges shape ids w refined (parent_of i)) joining in
    and_from deep free parts.0 (free_from_eight ids (is_held shape ids w refined level) (parent_of i)
    (eight_from_merges shape ids w refined level (parent_of i) are parts.1)))
    (λ freed.
    let parts = and_parts deep free freed in
    and_from deep (merges shape ids w refined (parent_of i)) parts.0
    (merges_from_eight shape ids w refined level (parent_of i) are (one (ltb-true 0 (level_of i) parts.0))
    (eight_from_free ids (is_held shape ids w refined level) (parent_of i) parts.1)))

-- ---- level by level

-- no leaf lies below the finest level, so there only barred leaves are held
pub held_at_first : (shape : Shape) (ids : List BlockId) (w : Wishes) (refined : List BlockId) (levels : ℕ) (i : BlockId) → All (λ j. level_of j ≤ levels) ids
    → is_barred shape ids w.coarser (is_among refined) i ≡ is_held shape ids w refined levels i
held_at_first shape ids w refined levels i shallow =
    let stays : BlockId → Bool = λ j. nat_lt levels (level_of j) && not (leaf_merges shape ids w refined j) in
    or_false (is_barred shape ids w.coarser (is_among refined) i)
    ∙ ap (λ b. is_barred shape ids w.coarser (is_among refined) i || b) (sym (false_from_ne_true (is_reached shape 1 stays ids i) (λ e.
    let f = reach_parts shape 1 stays ids i e in
    let deep : levels < level_of f.0 = ltb-true levels (level_of f.0) (and_parts (nat_lt levels (level_of f.0)) (not (leaf_merges shape ids w refined f.0)) f.2).0 in
    omega (arith, deep, All-contains (λ j. level_of j ≤ levels) ids f.0 shallow f.1))))

-- the leaves of one more level are looked at
pub held_at_next : (shape : Shape) (ids : List BlockId) (w : Wishes) (refined : List BlockId) (level : ℕ) (i : BlockId) → AreShallow ids refined
    → (is_held shape ids w refined (suc level) i || is_reached shape 1 (stays_at ids (is_held shape ids w refined (suc level)) (suc level)) ids i)
    ≡ is_held shape ids w refined level i
held_at_next shape ids w refined level i are =
    same_tests (is_held shape ids w refined (suc level) i || is_reached shape 1 now ids i) (is_held shape ids w refined level i)
    (λ e. there (or_cases (is_held shape ids w refined (suc level) i) (is_reached shape 1 now ids i) e))
    (λ e. back (or_cases barred (is_reached shape 1 (stays level) ids i) e))
  where
    barred : Bool
    barred = is_barred shape ids w.coarser (is_among refined) i

    stays : ℕ → BlockId → Bool
    stays n j = nat_lt n (level_of j) && not (leaf_merges shape ids w refined j)

    now : BlockId → Bool
    now = stays_at ids (is_held shape ids w refined (suc level)) (suc level)

    merges_now : (j : BlockId) → level_of j ≡ suc level → leaf_merges shape ids w refined j ≡ is_free ids (is_held shape ids w refined (suc level)) j
    merges_now j same = merges_where_free shape ids w refined (suc level) j are (omega (arith, same))

    reached : (j : BlockId) → Contains ids j → level < level_of j → not (leaf_merges shape ids w refined j) ≡ true → Touch shape j i → level_of j ≡ level_of i + 1
        → is_held shape ids w refined level i ≡ true
    reached j has deep stay touch one =
        or_right barred (is_reached shape 1 (stays level) ids i)
        (reach_from shape 1 (stays level) ids i j has (and_from (nat_lt level (level_of j)) (not (leaf_merges shape ids w refined j)) (lt-ltb level (level_of j) deep) stay) touch one)

    there : (is_held shape ids w refined (suc level) i ≡ true) ⊎ (is_reached shape 1 now ids i ≡ true) → is_held shape ids w refined level i ≡ true
    there (inl old) = before (or_cases barred (is_reached shape 1 (stays (suc level)) ids i) old)
      where
        before : (barred ≡ true) ⊎ (is_reached shape 1 (stays (suc level)) ids i ≡ true) → is_held shape ids w refined level i ≡ true
        before (inl own) = or_left barred (is_reached shape 1 (stays level) ids i) own
        before (inr finer) =
            let f = reach_parts shape 1 (stays (suc level)) ids i finer in
            let parts = and_parts (nat_lt (suc level) (level_of f.0)) (not (leaf_merges shape ids w refined f.0)) f.2 in
            let deep : suc level < level_of f.0 = ltb-true (suc level) (level_of f.0) parts.0 in
            reached f.0 f.1 (omega arith) parts.1 f.3 f.4
    there (inr new) =
        let f = reach_parts shape 1 now ids i new in
        let parts = and_parts (level_of f.0 == suc level) (not (is_free ids (is_held shape ids w refined (suc level)) f.0)) f.2 in
        let same : level_of f.0 ≡ suc level = eqb-true (level_of f.0) (suc level) parts.0 in
        reached f.0 f.1 (omega arith) (ap not (merges_now f.0 same) ∙ parts.1) f.3 f.4

    back : (barred ≡ true) ⊎ (is_reached shape 1 (stays level) ids i ≡ true) → (is_held shape ids w refined (suc level) i || is_reached shape 1 now ids i) ≡ true
    back (inl own) = or_left (is_held shape ids w refined (suc level) i) (is_reached shape 1 now ids i) (or_left barred (is_reached shape 1 (stays (suc level)) ids i) own)
    back (inr finer) =
        let f = reach_parts shape 1 (stays level) ids i finer in
        let parts = and_parts (nat_lt level (level_of f.0)) (not (leaf_merges shape ids w refined f.0)) f.2 in
        by f.0 f.1 (ltb-true level (level_of f.0) parts.0) parts.1 f.3 f.4 (cases_lt (suc level) (level_of f.0))
      where
        by : (j : BlockId) → Contains ids j → level < level_of j → not (leaf_merges shape ids w refined j) ≡ true → Touch shape j i → level_of j ≡ level_of i + 1
            → (suc level < level_of j) ⊎ (level_of j ≤ suc level)
            → (is_held shape ids w refined (suc level) i || is_reached shape 1 now ids i) ≡ true
        by j has deep stay touch one (inl deeper) =
            or_left (is_held shape ids w refined (suc level) i) (is_reached shape 1 now ids i)
            (or_right barred (is_reached shape 1 (stays (suc level)) ids i)
            (reach_from shape 1 (stays (suc level)) ids i j has
            (and_from (nat_lt (suc level) (level_of j)) (not (leaf_merges shape ids w refined j)) (lt-ltb (suc level) (level_of j) deeper) stay) touch one))
        by j has deep stay touch one (inr last) =
            let same : level_of j ≡ suc level = omega arith in
            or_right (is_held shape ids w refined (suc level) i) (is_reached shape 1 now ids i)
            (reach_from shape 1 now ids i j has
            (and_from (level_of j == suc level) (not (is_free ids (is_held shape ids w refined (suc level)) j)) (eq-eqb (level_of j) (suc level) same)
            (ap not (sym (merges_now j same)) ∙ stay)) touch one)

-- ---- places

-- where an octet begins, its eight stand free from there on
abbrev pub StandFree : List BlockId → List Bool → BlockId → ℕ → Type 0
StandFree ids held parent first = (octant : ℕ) → octant < 8 → StandsFree ids held parent octant (first + octant)

mark_at : (ids : List BlockId) (marks : List Bool) (test : BlockId → Bool) (k : ℕ) → marks ≡ map test ids → k < length ids → get_or marks k false ≡ test (id_at ids k)
mark_at ids marks test k are below = ap (λ (l : List Bool). get_or l k false) are ∙ get_or-map test ids k (root_id 0) false below

stands_at : (ids : List BlockId) (k : ℕ) (i : BlockId) → k < length ids → id_at ids k ≡ i → StandsAt ids k i
stands_at ids k i below is = (below, λ d. get_or_default ids k d (root_id 0) below ∙ is)

-- the octet of a leaf is free where its eight stand free
pub free_from_places : (ids : List BlockId) (marks : List Bool) (held : BlockId → Bool) (i : BlockId) (first : ℕ) → marks ≡ map held ids → 0 < level_of i
    → StandFree ids marks (parent_of i) first → is_free ids held i ≡ true
free_from_places ids marks held i first are deep stand =
    and_from (nat_lt 0 (level_of i)) (list_all (λ j. is_among ids j && not (held j)) (children_of (parent_of i))) (lt-ltb 0 (level_of i) deep)
    (free_from_eight ids held (parent_of i) (λ octant small.
    let at = stand octant small in
    let k = first + octant in (
      subst (Contains ids) at.child (Contains-get_or ids k (root_id 0) at.below),
      ap held (sym at.child) ∙ sym (mark_at ids marks held k are at.below) ∙ at.free,
    )))

-- the eight of a free octet stand free, and the leaf is the one of its octant
pub places_from_free : (shape : Shape) (ids : List BlockId) (marks : List Bool) (held : BlockId → Bool) (k : ℕ) → Tiles shape ids → All IsId ids → AllPairs IsBefore ids
    → marks ≡ map held ids → k < length ids → is_free ids held (id_at ids k) ≡ true
    → (octant_of (id_at ids k) ≤ k) × StandFree ids marks (parent_of (id_at ids k)) (k - octant_of (id_at ids k))
places_from_free shape ids marks held k tiles named rising are below free =
    let i : BlockId = id_at ids k in
    let p : BlockId = parent_of i in
    let parts = and_parts (nat_lt 0 (level_of i)) (list_all (λ j. is_among ids j && not (held j)) (children_of p)) free in
    let deep : 0 < level_of i = ltb-true 0 (level_of i) parts.0 in
    let eight = eight_from_free ids held p parts.1 in
    let leaves : (o : ℕ) → o < 8 → Contains ids (child_of p o) = λ o small. (eight o small).0 in
    let first = at_from_Contains ids (child_of p 0) (leaves 0 (omega arith)) in
    let octal : octant_of i < 8 = octant_small i (named k (root_id 0) below) deep in
    let own : i ≡ child_of p (octant_of i) = child_of_parent i deep in
    let stand : (o : ℕ) → o < 8 → StandsAt ids (first.0 + o) (child_of p o) = λ o small.
    siblings_stand_together shape ids p first.0 o tiles named rising leaves (first.1, first.2) small in
    let place : k ≡ first.0 + octant_of i = one_place ids k (first.0 + octant_of i) (child_of p (octant_of i)) rising
    (stands_at ids k (child_of p (octant_of i)) below own) (stand (octant_of i) octal) in
    let begins : first.0 ≡ k - octant_of i = omega arith in (
      omega arith,
      λ o small. subst (λ n. StandsFree ids marks p o (n + o)) begins (
          let at = stand o small in
          let is : id_at ids (first.0 + o) ≡ child_of p o = at.1 (root_id 0) in
          record { below = at.0; child = is; free = mark_at ids marks held (first.0 + o) are at.0 ∙ ap held is ∙ (eight o small).1 }),
    )

-- ---- marks one by one

-- one more value of a function
pub map_take_more : {X Y : Type 0} (f : X → Y) (xs : List X) (k : ℕ) (d : X) (ys : List Y) (y : Y) → k < length xs → ys ≡ map f (take k xs) → y ≡ f (get_or xs k d)
    → ys ++ y ∷ [] ≡ map f (take (k + 1) xs)
map_take_more f xs k d ys y below before is =
    ap (λ zs. zs ++ y ∷ []) before ∙ ap (λ z. map f (take k xs) ++ z ∷ []) is
    ∙ sym (map-append f (take k xs) (get_or xs k d ∷ [])) ∙ ap (map f) (sym (take_more xs k d below))

pub all_taken : {X Y : Type 0} (f : X → Y) (xs : List X) (count : ℕ) → count ≡ length xs → map f (take count xs) ≡ map f xs
all_taken f xs count all = ap (λ ys. map f ys) (ap (λ n. take n xs) all ∙ take-length xs)

-- the marks of the first leaves: of those that do not wish to be coarsened or are refined
abbrev pub UnwillingMarks : List Bool → List Bool → ℕ → List Bool → Type 0
UnwillingMarks coarser refined count marks =
    (ids : List BlockId) (c r : BlockId → Bool) → coarser ≡ map c ids → refined ≡ map r ids → marks ≡ map (λ i. not (c i) || r i) (take count ids)

-- the marks of the first leaves: of those that pass a test, which looks at held leaves
abbrev pub MarksByHeld : ((BlockId → Bool) → BlockId → Bool) → List BlockId → List Bool → ℕ → List Bool → Type 0
MarksByHeld test ids held count marks = (p : BlockId → Bool) → held ≡ map p ids → marks ≡ map (test p) (take count ids)

pub MarksByHeld-more : (test : (BlockId → Bool) → BlockId → Bool) (leaves : List Leaf) (held : List Bool) (k : ℕ) (marks after : List Bool) (mark : Bool) → k < length leaves
    → after ≡ marks ++ mark ∷ [] → ((p : BlockId → Bool) → held ≡ map p (ids_of leaves) → mark ≡ test p (id_at (ids_of leaves) k))
    → MarksByHeld test (ids_of leaves) held k marks → MarksByHeld test (ids_of leaves) held (k + 1) after
MarksByHeld-more test leaves held k marks after mark below is tested before p are =
    is ∙ map_take_more (test p) (ids_of leaves) k (root_id 0) marks mark (count_of-ids leaves k below) (before p are) (tested p are)

-- the marks of held leaves when leaves below this level are looked at
abbrev pub HeldFrom : Shape → List BlockId → ℕ → List Bool → ℕ → List Bool → Type 0
HeldFrom shape ids levels before level marks =
    (w : Wishes) → before ≡ map (is_held shape ids w (refined_ids shape ids w) levels) ids → marks ≡ map (is_held shape ids w (refined_ids shape ids w) level) ids

-- surveyed leaves are in order
pub surveyed_in_order : (shape : Shape) (ids : List BlockId) (chart : Chart) → IsSurveyed shape ids chart → AreInOrder ids
surveyed_in_order shape ids chart is = record { shape = shape; tiling = is.tiling; named = is.named; rising = is.rising }

-- named leaves are shallow, and refined ones are among them
pub surveyed_are_shallow : (shape : Shape) (ids : List BlockId) (chart : Chart) (w : Wishes) → IsSurveyed shape ids chart → AreShallow ids (refined_ids shape ids w)
surveyed_are_shallow shape ids chart w is = record {
  low = λ k d below. (is.named k d below).shallow;
  leaves = refined_within-in shape ids w 4;
}

-- one more level is settled
pub HeldFrom-next : (shape : Shape) (ids : List BlockId) (chart : Chart) (levels level : ℕ) (before marks after : List Bool) → IsSurveyed shape ids chart
    → ((p : BlockId → Bool) → marks ≡ map p ids → after ≡ map (λ i. p i || is_reached shape 1 (stays_at ids p (suc level)) ids i) ids)
    → HeldFrom shape ids levels before (suc level) marks → HeldFrom shape ids levels before level after
HeldFrom-next shape ids chart levels level before marks after is step held w begun =
    let refined = refined_ids shape ids w in
    step (is_held shape ids w refined (suc level)) (held w begun)
    ∙ map_alike _ (is_held shape ids w refined level) ids (λ i. held_at_next shape ids w refined level i (surveyed_are_shallow shape ids chart w is))

-- at last the free octets are those that merge
pub leaves_merge_at_last : (shape : Shape) (ids : List BlockId) (chart : Chart) (levels : ℕ) (w : Wishes) (barred held marks : List Bool) → IsSurveyed shape ids chart
    → All (λ i. level_of i ≤ levels) ids → barred ≡ map (is_barred shape ids w.coarser (is_among (refined_ids shape ids w))) ids
    → HeldFrom shape ids levels barred 0 held
    → ((p : BlockId → Bool) → held ≡ map p ids → marks ≡ map (is_free ids p) ids)
    → marks ≡ map (leaf_merges shape ids w (refined_ids shape ids w)) ids
leaves_merge_at_last shape ids chart levels w barred held marks is shallow begun settled freed =
    let refined = refined_ids shape ids w in
    let first : barred ≡ map (is_held shape ids w refined levels) ids =
    begun ∙ map_alike _ (is_held shape ids w refined levels) ids (λ i. held_at_first shape ids w refined levels i shallow) in
    freed (is_held shape ids w refined 0) (settled w first)
    ∙ map_alike (is_free ids (is_held shape ids w refined 0)) (leaf_merges shape ids w refined) ids
    (λ i. sym (merges_where_free shape ids w refined 0 i (surveyed_are_shallow shape ids chart w is) (omega arith)))

-- ---- leaves by their numbers

-- the parent of a leaf lies above the finest level
pub parent_is_shallow : (leaves : List Leaf) (k : ℕ) (leaf : Leaf) (p : BlockId) → All IsId (ids_of leaves) → k < length leaves → leaf ≡ get_or leaves k leaf
    → p ≡ parent_of leaf.0 → level_of p < 4
parent_is_shallow leaves k leaf p named below at is =
    let i : BlockId = leaf.0 in
    let id : IsId i = subst IsId (sym (id_of_leaf leaves k leaf below at)) (named k (root_id 0) (count_of-ids leaves k below)) in
    subst (λ q. level_of q < 4) (sym is) (omega (arith, length-take (level_of i - 1) i.digits, id.shallow))

-- a leaf's octet is free where all eight are found free
pub found_free : (leaves : List Leaf) (marks : List Bool) (held : BlockId → Bool) (k octant : ℕ) (leaf : Leaf) (parent : BlockId) (found : Bool)
    → AreInOrder (ids_of leaves) → marks ≡ map held (ids_of leaves) → k < length leaves → leaf ≡ get_or leaves k leaf
    → parent ≡ parent_of leaf.0 → octant ≡ octant_of leaf.0 → (level_of leaf.0 ≡ 0 → ⊥) → octant ≤ k
    → IsTrue found ↔ StandFree (ids_of leaves) marks parent (k - octant)
    → found ≡ is_free (ids_of leaves) held (id_at (ids_of leaves) k)
found_free leaves marks held k octant leaf parent found is are below at parent_is octant_is deep fits means =
    let ids = ids_of leaves in
    let own : leaf.0 ≡ id_at ids k = id_of_leaf leaves k leaf below at in
    let parent_own : parent ≡ parent_of (id_at ids k) = parent_is ∙ ap parent_of own in
    let octant_own : octant ≡ octant_of (id_at ids k) = octant_is ∙ ap octant_of own in
    let below' : k < length ids = count_of-ids leaves k below in
    let some : 0 < level_of (id_at ids k) = subst (λ i. 0 < level_of i) own (above_none (level_of leaf.0) deep) in
    same_tests found (is_free ids held (id_at ids k))
    (λ yes. free_from_places ids marks held (id_at ids k) (k - octant) are some (subst (λ p. StandFree ids marks p (k - octant)) parent_own (means.0 yes)))
    (λ free. means.1 (subst (λ p. StandFree ids marks p (k - octant)) (sym parent_own) (subst (λ n. StandFree ids marks (parent_of (id_at ids k)) (k - n)) (sym octant_own)
    (places_from_free is.shape ids marks held k is.tiling is.named is.rising are below' free).1)))
  where
    above_none : (n : ℕ) → (n ≡ 0 → ⊥) → 0 < n
    above_none zero never = absurd (never refl)
    above_none (suc n) never = omega arith

-- and is not free where it would begin before the first leaf
pub no_room_before : (leaves : List Leaf) (marks : List Bool) (held : BlockId → Bool) (k octant : ℕ) (leaf : Leaf)
    → AreInOrder (ids_of leaves) → marks ≡ map held (ids_of leaves) → k < length leaves → leaf ≡ get_or leaves k leaf
    → octant ≡ octant_of leaf.0 → k < octant → is_free (ids_of leaves) held (id_at (ids_of leaves) k) ≡ false
no_room_before leaves marks held k octant leaf is are below at octant_is far =
    let ids = ids_of leaves in
    let octant_own : octant ≡ octant_of (id_at ids k) = octant_is ∙ ap octant_of (id_of_leaf leaves k leaf below at) in
    false_from_ne_true (is_free ids held (id_at ids k)) (λ free.
    let fits : octant_of (id_at ids k) ≤ k = (places_from_free is.shape ids marks held k is.tiling is.named is.rising are (count_of-ids leaves k below) free).0 in
    omega (arith, far, fits, octant_own))

-- a leaf of a level stays where its octet is not free
pub stays_on_level : (leaves : List Leaf) (held : BlockId → Bool) (k level own : ℕ) (leaf : Leaf) (free : Bool) → k < length leaves → leaf ≡ get_or leaves k leaf
    → own ≡ level_of leaf.0 → own ≡ level → free ≡ is_free (ids_of leaves) held (id_at (ids_of leaves) k)
    → not free ≡ stays_at (ids_of leaves) held level (id_at (ids_of leaves) k)
stays_on_level leaves held k level own leaf free below at own_is same is =
    let i : BlockId = id_at (ids_of leaves) k in
    let on : level_of i == level ≡ true = eq-eqb (level_of i) level (sym (ap level_of (id_of_leaf leaves k leaf below at)) ∙ sym own_is ∙ same) in
    ap not is ∙ ap (λ b. b && not (is_free (ids_of leaves) held i)) (sym on)

-- ---- marks by wishes

pub unwilling_mark : (ids : List BlockId) (coarser refined : List Bool) (c r : BlockId → Bool) (k : ℕ) → coarser ≡ map c ids → refined ≡ map r ids → k < length ids
    → (not (get_or coarser k false) || get_or refined k false) ≡ (not (c (id_at ids k)) || r (id_at ids k))
unwilling_mark ids coarser refined c r k wishes are below =
    ap (λ b. not b || get_or refined k false) (mark_at ids coarser c k wishes below) ∙ ap (λ b. not (c (id_at ids k)) || b) (mark_at ids refined r k are below)

pub UnwillingMarks-more : (coarser refined : List Bool) (k : ℕ) (marks : List Bool) (mark : Bool) → k < length coarser
    → mark ≡ (not (get_or coarser k false) || get_or refined k false) → UnwillingMarks coarser refined k marks → UnwillingMarks coarser refined (k + 1) (marks ++ mark ∷ [])
UnwillingMarks-more coarser refined k marks mark below is before ids c r wishes are =
    let below' : k < length ids = omega (arith, below, ap length wishes, length-map ids c) in
    map_take_more (λ i. not (c i) || r i) ids k (root_id 0) marks mark below' (before ids c r wishes are) (is ∙ unwilling_mark ids coarser refined c r k wishes are below')

pub unwilling_marks_of_all : (coarser refined : List Bool) (count : ℕ) (marks : List Bool) → count ≡ length coarser → UnwillingMarks coarser refined count marks
    → (ids : List BlockId) (c r : BlockId → Bool) → coarser ≡ map c ids → refined ≡ map r ids → marks ≡ map (λ i. not (c i) || r i) ids
unwilling_marks_of_all coarser refined count marks all before ids c r wishes are =
    before ids c r wishes are ∙ all_taken (λ i. not (c i) || r i) ids count (all ∙ ap length wishes ∙ length-map ids c)

-- what a slice wrote to is the whole list
pub written : (before after : List Bool) (len : ℕ) → len ≡ length before → length after ≡ length before → take len (after ++ drop (length after) before) ≡ after
written before after len is same = ap (λ n. take n (after ++ drop (length after) before)) (is ∙ sym same) ∙ take-append_seam after (drop (length after) before)

pub count_more : (before after : List Bool) (mark : Bool) (count : ℕ) → after ≡ before ++ mark ∷ [] → length before ≡ count → length after ≡ count + 1
count_more before after mark count is was = ap length is ∙ length-append before (mark ∷ []) ∙ omega (arith, was)
