-- What all rounds of one rank that owns all leaves come to, and what flags and wishes tell.
use Rattle.std.proofs.Common.{◌≡◌, ℕ, ◌<◌, ◌≤◌, Bool, true, false, cond, not, ◌&&◌, ◌||◌, List, [], ◌∷◌, filter, Contains, refl, sym, ap, ◌∙◌, arith, IsTrue, ◌↔◌, All}
use Rattle.std.specs.Prelude.{nat_le, nat_lt, Option, Some, None}
use Rattle.std.specs.Option.{option_map_or}
use Rattle.std.specs.Ordering.{match_ordering}
use Rattle.std.specs.declared.cmp.Ordering.{Ordering}
use Rattle.std.specs.declared.cmp.Ordering.TheVariants.{Less, Equal, Greater}
use Rattle.std.specs.BTreeSet.{insert_key}
use Rattle.std.proofs.lemmas.Bool.{and_from, and_parts, false_from_ne_true, not_from_false, le-ltb, leb-true, ltb-true}
use Rattle.std.proofs.lemmas.List.Elements.{All-contains, All-weaker}
use Rattle.bf_id.specs.declared.shape.Shape.{Shape}
use Rattle.bf_id.specs.Id.{BlockId, id_cmp, id_eq, level_of, parent_of}
use Rattle.bf_id.proofs.Rising.{id_cmp-exact}
use Rattle.bf_cells.specs.Grid.{Grid, spread_of}
use Rattle.bf_case.specs.Balanced.{AreBalancedLeaves}
use Rattle.bf_case.specs.Map.{Leaf, cells_at}
use Rattle.bf_case.specs.Merging.{merges}
use Rattle.bf_case.specs.Refinement.{Chain, is_among, refined_within}
use Rattle.bf_case.specs.Regrid.{target_of}
use Rattle.bf_case.specs.Wishes.{Wishes, wishes_of}
use Rattle.bf_case.specs.declared.case.Case.{Case}
use Rattle.bf_case.specs.declared.target.Target.{Target}
use Rattle.bf_case.specs.declared.target.Target.TheVariants.{Keep, Refine, Merge}
use Rattle.bf_case.proofs.ChainLemmas.{within_from_chain}
use Rattle.bf_case.proofs.TestLemmas.{filter_none}
use Rattle.bf_block.specs.Runs.{CanRun}
use Rattle.bf_marks.specs.Flags.{Flagged, heard_of, is_flagged}
use Rattle.bf_marks.specs.Marks.{MarksValue, target_by}
use Rattle.bf_marks.specs.OneOwner.{after_all_rounds, after_force_rounds, after_levels, links_of_all, marks_wished}
use Rattle.bf_marks.specs.Wishes.{is_coarsen, is_refine, wish_of}
use Rattle.bf_marks.specs.declared.wishes.Wish.{Wish}
use Rattle.bf_marks.specs.declared.wishes.Wish.TheVariants.{Refine as WishRefine, Coarsen as WishCoarsen, Stay as WishStay}
use Rattle.bf_marks.proofs.RefinedLemmas.{StopsAt, chosen_of, chosen_passes, filter_where, force_rounds, only_own, refined_leaf, settled, wish_is_refine}
use Rattle.bf_marks.proofs.MergingLemmas.{deeper, levels_played, marks_at}

-- ---- wishes

wish_with : Bool → Bool → Wish
wish_with a b = cond a WishRefine (cond b WishCoarsen WishStay)

pub refine_is : (w : Wishes) (i : BlockId) → wish_of w i ≡ WishRefine ↔ IsTrue (w.finer i)
unfolding wish_with
refine_is w i = (there (w.finer i) (w.coarser i), back (w.finer i) (w.coarser i))
  where
    there : (a b : Bool) → wish_with a b ≡ WishRefine → a ≡ true
    there true b is = refl
    there false true is = absurd (cc)
    there false false is = absurd (cc)

    back : (a b : Bool) → a ≡ true → wish_with a b ≡ WishRefine
    back true b holds = refl
    back false b holds = absurd (cc)

coarsen_there : (a b : Bool) → wish_with a b ≡ WishCoarsen → b ≡ true
unfolding wish_with
coarsen_there true b is = absurd (cc)
coarsen_there false true is = refl
coarsen_there false false is = absurd (cc)

coarsen_back : (a b : Bool) → (a ≡ true → ⊥) → b ≡ true → wish_with a b ≡ WishCoarsen
unfolding wish_with
coarsen_back true b none holds = absurd (none refl)
coarsen_back false true none holds = refl
coarsen_back false false none holds = absurd (cc)

-- the limits of a case that can run don't cross
never_both : (c : Case) (leaves : List Leaf) (i : BlockId) → CanRun c → (wishes_of c leaves).finer i ≡ true → (wishes_of c leaves).coarser i ≡ true → ⊥
never_both c leaves i runs finer coarser = by (cells_at leaves i) finer coarser
  where
    by : (o : Option Grid) → option_map_or (λ g. nat_lt c.refine (spread_of g) && nat_lt (level_of i) c.levels) o false ≡ true
        → option_map_or (λ g. nat_le (spread_of g) c.coarsen && nat_lt 0 (level_of i)) o false ≡ true → ⊥
    by None above below = absurd (cc)
    by (Some g) above below =
        let high : c.refine < spread_of g = ltb-true c.refine (spread_of g) (and_parts (nat_lt c.refine (spread_of g)) (nat_lt (level_of i) c.levels) above).0 in
        let small : spread_of g ≤ c.coarsen = leb-true (spread_of g) c.coarsen (and_parts (nat_le (spread_of g) c.coarsen) (nat_lt 0 (level_of i)) below).0 in
        let limits : c.coarsen ≤ c.refine = runs.valid.scheduled.uncrossed in
        absurd (omega arith)

pub coarsen_is : (c : Case) (leaves : List Leaf) (i : BlockId) → CanRun c → wish_of (wishes_of c leaves) i ≡ WishCoarsen ↔ IsTrue ((wishes_of c leaves).coarser i)
unfolding wish_with
coarsen_is c leaves i runs = (
  coarsen_there ((wishes_of c leaves).finer i) ((wishes_of c leaves).coarser i),
  λ coarser. coarsen_back ((wishes_of c leaves).finer i) ((wishes_of c leaves).coarser i) (λ finer. never_both c leaves i runs finer coarser) coarser,
)

coarsens : (a b : Bool) → is_coarsen (wish_with a b) ≡ (not a && b)
unfolding wish_with
coarsens true b = refl
coarsens false true = refl
coarsens false false = refl

pub wish_is_coarsen : (w : Wishes) (i : BlockId) → is_coarsen (wish_of w i) ≡ (not (w.finer i) && w.coarser i)
unfolding wish_with
wish_is_coarsen w i = coarsens (w.finer i) (w.coarser i)

pub first_refined : (ids : List BlockId) (w : Wishes) → (marks_wished ids w).refined.own ≡ filter w.finer ids
first_refined ids w = chosen_of (λ i wish. is_refine wish) (wish_of w) ids ∙ filter_where (λ i. is_refine (wish_of w i)) w.finer ids (λ i has. wish_is_refine w i)

pub first_coarser : (ids : List BlockId) (w : Wishes) → (marks_wished ids w).coarser ≡ filter (λ i. not (w.finer i) && w.coarser i) ids
first_coarser ids w =
    chosen_of (λ i wish. is_coarsen wish) (wish_of w) ids
    ∙ filter_where (λ i. is_coarsen (wish_of w i)) (λ i. not (w.finer i) && w.coarser i) ids (λ i has. wish_is_coarsen w i)

-- ---- what is heard

once : (a b : Bool) → (a || b) ≡ (a || (a || b))
once true b = refl
once false b = refl

swapped : (a b c : Bool) → (a || (b || c)) ≡ (b || (a || c))
swapped true true c = refl
swapped true false c = refl
swapped false b c = refl

pub among_more : (keys : List BlockId) (i j : BlockId) → is_among (insert_key id_cmp keys i) j ≡ (id_eq j i || is_among keys j)
among_more [] i j = refl
among_more (x ∷ xs) i j = by (id_cmp i x) refl (among_more xs i j)
  where
    by : (o : Ordering) → id_cmp i x ≡ o → is_among (insert_key id_cmp xs i) j ≡ (id_eq j i || is_among xs j)
        → is_among (match_ordering o (i ∷ x ∷ xs) (x ∷ xs) (x ∷ insert_key id_cmp xs i)) j ≡ (id_eq j i || (id_eq j x || is_among xs j))
    by Less is later = refl
    by Equal is later =
        let same : i ≡ x = (id_cmp-exact i x).0 is in
        once (id_eq j x) (is_among xs j) ∙ ap (λ k. id_eq j k || (id_eq j x || is_among xs j)) (sym same)
    by Greater is later = ap (λ b. id_eq j x || b) later ∙ swapped (id_eq j x) (id_eq j i) (is_among xs j)

pub heard_known : (flagged : Flagged) (i j : BlockId) → is_flagged (heard_of i flagged) j ≡ (id_eq j i || is_flagged flagged j)
heard_known flagged i j =
    ap (λ b. is_among flagged.own j || b) (among_more flagged.heard i j) ∙ swapped (is_among flagged.own j) (id_eq j i) (is_among flagged.heard j)

-- ---- the targets

module _ (shape : Shape) (levels : ℕ) (ids : List BlockId) (owner : BlockId → ℕ) (w : Wishes) (few : levels ≤ 4) (map_is : AreBalancedLeaves shape levels ids) (stop : StopsAt ids w levels) where
  abbrev R : List BlockId
  R = refined_within shape ids w levels

  abbrev coarsening : BlockId → Bool
  coarsening i = is_coarsen (wish_of w i)

  low : All (λ i. level_of i ≤ 4) ids
  low = All-weaker (λ i. level_of i ≤ levels) (λ i. level_of i ≤ 4) (λ i shallow. omega (arith, few, shallow)) ids map_is.shallow

  none_deeper : deeper shape ids owner coarsening w R levels ≡ []
  none_deeper =
      filter_where (λ i. nat_lt levels (level_of i) && merges shape ids w R (parent_of i)) (λ i. false) ids
      (λ i has.
      let shallow : level_of i ≤ levels = All-contains (λ i. level_of i ≤ levels) ids i map_is.shallow has in
      ap (λ b. b && merges shape ids w R (parent_of i)) (le-ltb levels (level_of i) shallow))
      ∙ filter_none (λ i. false) ids (λ i. refl)

  begun : after_force_rounds (links_of_all shape owner ids) levels (marks_wished ids w) ≡ marks_at shape ids owner coarsening w R [] levels
  begun =
      let M : List BlockId → List BlockId → MarksValue = λ coarser deep. record {
        leaves = ids;
        coarser = coarser;
        refined = record { own = R; heard = [] };
        may = record { own = []; heard = [] };
        merging = record { own = deep; heard = [] };
      } in
      force_rounds shape ids owner w levels
      ∙ ap (λ coarser. M coarser []) (chosen_of (λ i wish. is_coarsen wish) (wish_of w) ids)
      ∙ ap (λ deep. M (filter coarsening ids) deep) (sym none_deeper)

  wishing : (i : BlockId) → coarsening i ≡ true → w.coarser i ≡ true
  wishing i coarsens = (and_parts (not (w.finer i)) (w.coarser i) (sym (wish_is_coarsen w i) ∙ coarsens)).1

  wished : (i : BlockId) → Contains ids i → w.coarser i ≡ true → (Contains R i → ⊥) → coarsening i ≡ true
  unfolding Chain
  wished i has coarser unrefined =
      wish_is_coarsen w i
      ∙ and_from (not (w.finer i)) (w.coarser i)
      (not_from_false (w.finer i) (false_from_ne_true (w.finer i) (λ finer. unrefined (within_from_chain shape ids w levels 0 i (omega arith) (has, finer))))) coarser

  pub targets_found : (i : BlockId) → Contains ids i → target_by (after_all_rounds (links_of_all shape owner ids) levels (marks_wished ids w)) i ≡ target_of shape ids w i
  targets_found i has =
      let played = levels_played shape ids owner coarsening w R (refined_leaf shape ids w levels) low wishing wished levels [] in
      let end : after_all_rounds (links_of_all shape owner ids) levels (marks_wished ids w) ≡ marks_at shape ids owner coarsening w R played.0 0 =
      ap (after_levels (links_of_all shape owner ids) levels) begun ∙ played.1 in
      let T : Bool → Bool → Target = λ refined merging. cond refined Refine (cond merging Merge Keep) in
      let deep : List BlockId = deeper shape ids owner coarsening w R 0 in
      ap (λ m. target_by m i) end
      ∙ ap (λ refined. T refined (is_flagged (record { own = deep; heard = [] }) i)) (only_own R i)
      ∙ ap (T (is_among R i)) (only_own deep i ∙ chosen_passes (λ i. nat_lt 0 (level_of i) && merges shape ids w R (parent_of i)) ids i has)
      ∙ ap (λ refined. T (is_among refined i) (nat_lt 0 (level_of i) && merges shape ids w refined (parent_of i))) (settled shape ids w levels stop few)
