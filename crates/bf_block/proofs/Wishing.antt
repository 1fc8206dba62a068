-- A block that wishes to be refined is, one that neither wishes it nor is forced is kept, and siblings of the finest level that wish it merge.
use Rattle.std.proofs.Common.{◌≡◌, ◌∙◌, ◌+◌, ◌<◌, ◌≤◌, ℕ, zero, suc, true, false, Some, List, All, Contains, length, get_or, arith, ap, sym, refl, subst}
use Rattle.std.specs.Prelude.{nat_le, nat_lt, ◌&&◌, IsTrue}
use Rattle.std.proofs.lemmas.Bool.{false_from_ne_true, false≢true, le-leb, lt-ltb, ltb-true}
use Rattle.std.proofs.lemmas.List.{get_or-map, length-map}
use Rattle.std.proofs.lemmas.List.Elements.{All-contains, All-weaker}
use Rattle.std.proofs.lemmas.List.FromFn.{get_or-map-range_with_len, length-map-range_with_len}
use Rattle.bf_id.specs.Id.{BlockId, IsId, child_of, level_of, parent_of, root_id}
use Rattle.bf_id.specs.Shape.{root_count}
use Rattle.bf_id.specs.declared.shape.Shape.{Shape}
use Rattle.bf_id.proofs.Boxes.{level-child}
use Rattle.bf_id.proofs.Tilings.{any_id_decides, Contains-from_fn_cases}
use Rattle.bf_cells.specs.Grid.{spread_of}
use Rattle.bf_case.specs.declared.case.Case.{Case}
use Rattle.bf_case.specs.declared.target.Target.TheVariants.{Keep, Merge, Refine}
use Rattle.bf_case.specs.Map.{IsBalancedMap, Leaf, cells_at, ids_of}
use Rattle.bf_case.specs.Merging.{merges, Merges}
use Rattle.bf_case.specs.Model.{model, model_at, regrids}
use Rattle.bf_case.specs.Refinement.{Chain, IsRefined, is_among, refined_ids}
use Rattle.bf_case.specs.Regrid.{target_in}
use Rattle.bf_case.specs.Wishes.{Wishes, wishes_of}
use Rattle.bf_case.proofs.ChainLemmas.{refined_ids_are}
use Rattle.bf_case.proofs.ChoiceLemmas.{refined_has_room, target_from_merging, target_from_refined}
use Rattle.bf_case.proofs.MapLemmas.{ids_of-initial}
use Rattle.bf_case.proofs.MergingRule.{merging_rule}
use Rattle.bf_case.proofs.ModelLemmas.{balanced-model_at, finer_has_room}
use Rattle.bf_case.proofs.NewCells.{cells_at-kept, id_of_found}
use Rattle.bf_case.proofs.OctetLemmas.{parent_of-child}
use Rattle.bf_block.specs.declared.point.Point.{Point}
use Rattle.bf_block.specs.Runs.{CanRun}
use Rattle.bf_block.specs.Block.{BlockValue, IsModels, IsRegriddedTo, after_regrid, before_regrid, map_at}
use Rattle.bf_block.specs.Eighth.{AreSiblings}
use Rattle.bf_block.proofs.Steps.{map_of, regrids_to}

pub refined_by_spread : (b : BlockValue) → IsModels b → IsTrue (regrids b.case b.point.time) → b.point.regridded ≡ false → b.case.refine < spread_of b.cells
    → level_of b.id < b.case.levels → IsRegriddedTo Refine b.case b.point b.id
unfolding Chain
refined_by_spread b is does fresh spreads above =
    let leaves : List Leaf = model b.case b.point.time in
    let wishes : Wishes = wishes_of b.case leaves in
    let found : cells_at leaves b.id ≡ Some b.cells = subst (λ after. cells_at (model_at b.case b.point.time after) b.id ≡ Some b.cells) fresh is.leaf in
    let shallow : All (λ j. level_of j ≤ 4) (ids_of leaves) =
    All-weaker IsId (λ j. level_of j ≤ 4) (λ j its. its.shallow) (ids_of leaves) (map_of b.case b.point.time false is.runs).ids in
    let far : nat_lt b.case.refine (spread_of b.cells) ≡ true = lt-ltb b.case.refine (spread_of b.cells) spreads in
    let room : nat_lt (level_of b.id) b.case.levels ≡ true = lt-ltb (level_of b.id) b.case.levels above in
    let wish : IsTrue (wishes.finer b.id) = rw (found, far, room) refl in
    record {
      regrids = does;
      fresh = fresh;
      target_is = target_from_refined b.case.roots (ids_of leaves) wishes b.id shallow (0, (id_of_found leaves b.id b.cells found, wish));
    }

-- ---- what is kept

-- at the beginning each leaf is a root
root_at_first : (c : Case) (i : BlockId) → Contains (ids_of (model c 0)) i → level_of i ≡ 0
unfolding model
root_at_first c i has =
    ap level_of (Contains-from_fn_cases root_id (root_count c.roots) i (subst (λ ids. Contains ids i) (ids_of-initial c) has)).2

-- among roots none is refined that doesn't wish it
none_forced : (shape : Shape) (ids : List BlockId) (w : Wishes) (i : BlockId) → ((j : BlockId) → Contains ids j → level_of j ≡ 0)
    → w.finer i ≡ false → IsRefined shape ids w i → ⊥
unfolding Chain
none_forced shape ids w i roots calm (zero, chain) = false≢true (sym calm ∙ chain.1)
none_forced shape ids w i roots calm (suc zero, chain) = absurd (omega (arith, roots chain.1.0 chain.1.1.0.0, chain.1.1.2))
none_forced shape ids w i roots calm (suc (suc steps), chain) = absurd (omega (arith, roots chain.1.0 chain.1.1.0.0, chain.1.1.2))

pub kept_by_spread : (b : BlockValue) → IsModels b → IsTrue (regrids b.case b.point.time) → b.point ≡ before_regrid 0 → spread_of b.cells ≤ b.case.refine
    → IsRegriddedTo Keep b.case b.point b.id
kept_by_spread b is does first calm =
    let c : Case = b.case in
    let leaves : List Leaf = model c 0 in
    let ids : List BlockId = ids_of leaves in
    let w : Wishes = wishes_of c leaves in
    let found : cells_at leaves b.id ≡ Some b.cells = subst (λ (p : Point). cells_at (map_at c p) b.id ≡ Some b.cells) first is.leaf in
    let root : level_of b.id ≡ 0 = root_at_first c b.id (id_of_found leaves b.id b.cells found) in
    let near : nat_lt c.refine (spread_of b.cells) ≡ false =
    false_from_ne_true (nat_lt c.refine (spread_of b.cells)) (λ e. let far = ltb-true c.refine (spread_of b.cells) e in omega arith) in
    let wish : w.finer b.id ≡ false = rw (found, near) refl in
    let shallow : All (λ j. level_of j ≤ 4) ids = All-weaker IsId (λ j. level_of j ≤ 4) (λ j its. its.shallow) ids (map_of c 0 false is.runs).ids in
    let unrefined : is_among (refined_ids c.roots ids w) b.id ≡ false =
    false_from_ne_true (is_among (refined_ids c.roots ids w) b.id)
    (λ e. none_forced c.roots ids w b.id (root_at_first c) wish ((refined_ids_are c.roots ids w b.id shallow).0 e)) in
    let alone : (nat_lt 0 (level_of b.id) && merges c.roots ids w (refined_ids c.roots ids w) (parent_of b.id)) ≡ false = rw root refl in
    let kept : target_in c leaves b.id ≡ Keep = rw (unrefined, alone) refl in
    record {
      regrids = does;
      fresh = ap (λ (p : Point). p.regridded) first;
      target_is = subst (λ (p : Point). target_in c (model c p.time) b.id ≡ Keep) (sym first) kept;
    }

pub kept_stays : (b : BlockValue) → IsModels b → IsRegriddedTo Keep b.case b.point b.id → Contains (ids_of (map_at b.case (after_regrid b.point.time))) b.id
kept_stays b is does =
    let c : Case = b.case in
    let time : ℕ = b.point.time in
    let found : cells_at (model c time) b.id ≡ Some b.cells = subst (λ after. cells_at (model_at c time after) b.id ≡ Some b.cells) does.fresh is.leaf in
    id_of_found (model_at c time true) b.id b.cells
    (regrids_to c time b.id b.cells does.regrids (cells_at-kept c (model c time) b.id b.cells (map_of c time false is.runs) found does.target_is))

-- ---- siblings of the finest level

module _ (c : Case) (time : ℕ) (parent : BlockId) (blocks : List BlockValue) (are : AreSiblings c time parent blocks) (models : All IsModels blocks) (d : BlockValue) where
  eight_blocks : length blocks ≡ 8
  eight_blocks = sym (length-map blocks (λ (b : BlockValue). b.id)) ∙ ap length are.ids ∙ length-map-range_with_len (child_of parent) 0 8

  sibling_id : (k : ℕ) → k < 8 → (get_or blocks k d).id ≡ child_of parent k
  sibling_id k small =
      sym (get_or-map (λ (b : BlockValue). b.id) blocks k d parent (omega (arith, eight_blocks, small)))
      ∙ ap (λ is. get_or is k parent) are.ids ∙ get_or-map-range_with_len (child_of parent) 0 8 k k parent small (omega arith)

  siblings_run : CanRun c
  siblings_run =
      let some : 0 < length blocks = omega (arith, eight_blocks) in
      subst CanRun (are.cases 0 d some) (models 0 d some).runs

  found_sibling : (k : ℕ) → k < 8 → cells_at (model c time) (child_of parent k) ≡ Some (get_or blocks k d).cells
  found_sibling k small =
      let b : BlockValue = get_or blocks k d in
      let within : k < length blocks = omega (arith, eight_blocks, small) in
      let here : cells_at (map_at b.case b.point) b.id ≡ cells_at (model c time) (child_of parent k) =
      ap (λ (x : Case). cells_at (map_at x b.point) b.id) (are.cases k d within)
      ∙ ap (λ (p : Point). cells_at (map_at c p) b.id) (are.points k d within)
      ∙ ap (cells_at (model c time)) (sibling_id k small) in
      sym here ∙ (models k d within).leaf

  siblings_merge : level_of parent + 1 ≡ c.levels → All (λ (b : BlockValue). spread_of b.cells ≤ c.coarsen) blocks
      → (k : ℕ) → k < 8 → target_in c (model c time) (child_of parent k) ≡ Merge
  siblings_merge finest calm k small =
      target_from_merging c.roots ids w (child_of parent k) (record {
        unrefined = false_from_ne_true (is_among refined (child_of parent k))
            (λ e. not_refined (child_of parent k) (omega (arith, finest, level-child parent k)) ((any_id_decides refined (child_of parent k)).0 e));
        deep = omega (arith, level-child parent k);
        octet = subst (λ p. merges c.roots ids w refined p ≡ true) (sym (parent_of-child parent k)) ((merging_rule c.roots ids w refined parent low).1 rule);
      })
    where
      ids : List BlockId
      ids = ids_of (model c time)

      w : Wishes
      w = wishes_of c (model c time)

      refined : List BlockId
      refined = refined_ids c.roots ids w

      balanced : IsBalancedMap c (model c time)
      balanced = balanced-model_at c time false siblings_run.valid

      low : All (λ j. level_of j ≤ 4) ids
      low = All-weaker IsId (λ j. level_of j ≤ 4) (λ j its. its.shallow) ids balanced.map.ids

      -- no leaf of the finest level is refined
      not_refined : (j : BlockId) → c.levels ≤ level_of j → Contains refined j → ⊥
      not_refined j deep has =
          let is : IsRefined c.roots ids w j = (refined_ids_are c.roots ids w j low).0 ((any_id_decides refined j).1 has) in
          let above = refined_has_room c.roots c.levels ids w j balanced.shallow (λ i _ wish. finer_has_room c (model c time) i wish) is in
          omega arith

      wish : (o : ℕ) → o < 8 → IsTrue (w.coarser (child_of parent o))
      wish o octal =
          let found = found_sibling o octal in
          let near : nat_le (spread_of (get_or blocks o d).cells) c.coarsen ≡ true =
          le-leb (spread_of (get_or blocks o d).cells) c.coarsen (calm o d (omega (arith, eight_blocks, octal))) in
          let under : nat_lt 0 (level_of (child_of parent o)) ≡ true = lt-ltb 0 (level_of (child_of parent o)) (omega (arith, level-child parent o)) in
          rw (found, near, under) refl

      rule : Merges c.roots ids w refined parent
      rule = record {
        leaves = λ o octal. id_of_found (model c time) (child_of parent o) (get_or blocks o d).cells (found_sibling o octal);
        wishes = wish;
        unrefined = λ o octal has. not_refined (child_of parent o) (omega (arith, finest, level-child parent o)) has;
        no_refined_beside = λ o j octal has level touch. not_refined j (omega (arith, finest, level, level-child parent o)) has;
        finer_merge = λ o j octal has level touch.
            absurd (omega (arith, finest, level, level-child parent o, All-contains (λ i. level_of i ≤ c.levels) ids j balanced.shallow has));
      }

  pub sibling_regrids : IsTrue (regrids c time) → level_of parent + 1 ≡ c.levels → All (λ (b : BlockValue). spread_of b.cells ≤ c.coarsen) blocks
      → (k : ℕ) → k < length blocks → IsRegriddedTo Merge (get_or blocks k d).case (get_or blocks k d).point (get_or blocks k d).id
  sibling_regrids does finest calm k within =
      let b : BlockValue = get_or blocks k d in
      let small : k < 8 = omega (arith, eight_blocks, within) in
      let is : IsRegriddedTo Merge c (before_regrid time) (child_of parent k) =
      record { regrids = does; fresh = refl; target_is = siblings_merge finest calm k small } in
      subst (λ (x : Case). IsRegriddedTo Merge x b.point b.id) (sym (are.cases k d within))
      (subst (λ (p : Point). IsRegriddedTo Merge c p b.id) (sym (are.points k d within))
      (subst (IsRegriddedTo Merge c (before_regrid time)) (sym (sibling_id k small)) is))
