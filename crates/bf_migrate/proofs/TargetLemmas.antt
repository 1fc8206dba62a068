-- What the targets of a rank tell of each of its blocks.
use Rattle.std.proofs.Common.{◌≡◌, ℕ, ◌+◌, ◌<◌, ◌∙◌, List, [], ◌∷◌, map, All, Contains, IsTrue, sym, ap, subst, arith, refl, append_assoc, Some}
use Rattle.bf_id.specs.Id.{BlockId, IsId, Begins, level_of, child_of, parent_of, octant_of}
use Rattle.bf_id.proofs.Boxes.{level-child}
use Rattle.bf_id.proofs.Tilings.{Contains-one_cases, Contains-flat_map, Contains-flat_map_cases, Contains-from_fn_cases, leaves_part}
use Rattle.std.proofs.lemmas.List.Elements.{All-contains}
use Rattle.bf_case.specs.declared.case.Case.{Case}
use Rattle.bf_case.specs.declared.target.Target.{Target}
use Rattle.bf_case.specs.declared.target.Target.TheVariants.{Keep, Refine, Merge}
use Rattle.bf_case.specs.Map.{Leaf, ids_of, cells_at}
use Rattle.bf_case.specs.Model.{model, regrids}
use Rattle.bf_case.specs.Regrid.{target_in}
use Rattle.bf_case.specs.Wishes.{wishes_of}
use Rattle.bf_case.proofs.ChoiceLemmas.{target_of_is_sound}
use Rattle.bf_case.proofs.HeirLemmas.{Follows, IsInOctet, IsRegridded}
use Rattle.bf_case.proofs.ListLemmas.{Contains-map, Contains-map_cases}
use Rattle.bf_case.proofs.LookupLemmas.{leaf_from_cells_at}
use Rattle.bf_case.proofs.ModelLemmas.{leaves_from_map, finer_has_room, balanced-model}
use Rattle.bf_case.proofs.OctetLemmas.{child_of_parent, octant_small, level-parent}
use Rattle.bf_block.specs.declared.point.Point.{Point}
use Rattle.bf_block.specs.Runs.{CanRun}
use Rattle.bf_block.specs.Block.{BlockValue, IsModels, map_at, before_regrid, child_block, split_blocks}
use Rattle.bf_migrate.specs.Giving.{Gift, whole, gifts_by, gifts_of, target_of_block, StandBefore}
use Rattle.bf_migrate.specs.Targets.{proxies_of, AreTargets, Tell}

-- the proxies into which a block goes are those that follow it
pub follows_of : (t : Target) (b : BlockValue) (q : BlockId) → Contains (map (λ (gift : Gift). gift.0) (gifts_by t b)) q → Follows t b.id q
follows_of Keep b q has = Contains-one_cases b.id q has
follows_of Refine b q has =
    let from = Contains-map_cases (λ (gift : Gift). gift.0) (map whole (split_blocks b)) q has in
    let child = Contains-map_cases whole (split_blocks b) from.0 from.1 in
    let octant = Contains-from_fn_cases (child_block b) 8 child.0 child.1 in
    (octant.0, octant.1, from.2 ∙ ap (λ (gift : Gift). gift.0) child.2 ∙ ap (λ (b : BlockValue). b.id) octant.2)
follows_of Merge b q has = Contains-one_cases (parent_of b.id) q has

-- what becomes of the model's leaves where a time regrids
pub model_regridded : (c : Case) (time : ℕ) → CanRun c → IsRegridded c.roots c.levels (ids_of (model c time)) (target_in c (model c time))
model_regridded c time runs =
    let leaves : List Leaf = model c time in
    let before = leaves_from_map c leaves (balanced-model c time runs.valid) in
    record {
      few = runs.valid.sized.shallow;
      before = before;
      sound = target_of_is_sound c.roots c.levels (ids_of leaves) (wishes_of c leaves) runs.valid.sized.shallow (λ i has wish. finer_has_room c leaves i wish) before;
    }

-- ---- of the leaves of a map that is regridded

module _ (c : Case) (ids : List BlockId) (target : BlockId → Target) (is : IsRegridded c.roots c.levels ids target) where
  named : (i : BlockId) → Contains ids i → IsId i
  named i has = All-contains IsId ids i is.before.named has

  -- no leaf lies in another
  apart : (i j : BlockId) → Contains ids i → Contains ids j → Begins i j → level_of i < level_of j → ⊥
  apart i j has has' begins deeper =
      let level : level_of i ≡ level_of j = ap level_of (leaves_part c.roots ids i j is.before.tiling has has' (named j has') begins) in
      omega arith

  -- a leaf that is a leaf still is kept
  pub still_kept : (i q : BlockId) → Contains ids i → Contains ids q → (t : Target) → target i ≡ t → Follows t i q → target q ≡ Keep
  still_kept i q has has' Keep e same = ap target same ∙ e
  still_kept i q has has' Refine e (octant, small, child) =
      absurd (apart i q has has' (subst (Begins i) (sym child) (refl, (octant ∷ [], refl))) (omega (arith, ap level_of child, level-child i octant)))
  still_kept i q has has' Merge e parent =
      let own : i ≡ child_of q (octant_of i) = (is.sound.octets i has e).child ∙ ap (λ p. child_of p (octant_of i)) (sym parent) in
      absurd (apart q i has' has (subst (Begins q) (sym own) (refl, (octant_of i ∷ [], refl))) (omega (arith, ap level_of own, level-child q (octant_of i))))

  -- a leaf whose parent is a new leaf merges
  pub under_new : (i j : BlockId) → Contains ids i → Contains ids j → 0 < level_of j → (t : Target) → target i ≡ t → Follows t i (parent_of j) → target j ≡ Merge
  under_new i j has has' some Keep e same =
      let own : j ≡ child_of i (octant_of j) = child_of_parent j some ∙ ap (λ p. child_of p (octant_of j)) same in
      absurd (apart i j has has' (subst (Begins i) (sym own) (refl, (octant_of j ∷ [], refl))) (omega (arith, ap level_of own, level-child i (octant_of j))))
  under_new i j has has' some Refine e (octant, small, child) =
      let own : j ≡ child_of (child_of i octant) (octant_of j) = child_of_parent j some ∙ ap (λ p. child_of p (octant_of j)) child in
      absurd (apart i j has has' (subst (Begins i) (sym own) (refl, (octant ∷ octant_of j ∷ [], append_assoc i.digits (octant ∷ []) (octant_of j ∷ []))))
      (omega (arith, ap level_of own, level-child (child_of i octant) (octant_of j), level-child i octant)))
  under_new i j has has' some Merge e parent =
      let octet : IsInOctet ids target i = is.sound.octets i has e in
      let own : j ≡ child_of (parent_of i) (octant_of j) = child_of_parent j some ∙ ap (λ p. child_of p (octant_of j)) parent in
      ap target own ∙ octet.merge (octant_of j) (octant_small j (named j has') some)

-- ---- of blocks

module _ (c : Case) (time : ℕ) (rank : BlockId → ℕ) (blocks : List BlockValue) (targets : List (BlockId × ℕ))
    (before : StandBefore c time blocks) (models : All IsModels blocks) (are : AreTargets rank blocks targets) where
  abbrev ids : List BlockId
  ids = ids_of (model c time)

  abbrev target : BlockId → Target
  target = target_in c (model c time)

  -- a block and its place in the model
  record Placed (b : BlockValue) : Type 0 where
    pub case : b.case ≡ c
    pub point : b.point ≡ before_regrid time
    pub runs : CanRun c
    pub leaf : Contains ids b.id

  placed : (b : BlockValue) → Contains blocks b → Placed b
  placed b has =
      let case : b.case ≡ c = All-contains (λ (b : BlockValue). b.case ≡ c) blocks b before.cases has in
      let point : b.point ≡ before_regrid time = All-contains (λ (b : BlockValue). b.point ≡ before_regrid time) blocks b before.points has in
      let own : IsModels b = All-contains IsModels blocks b models has in
      let found : cells_at (model c time) b.id ≡ Some b.cells = ap (λ (x : Case). cells_at (map_at x (before_regrid time)) b.id) (sym case) ∙ ap (λ (p : Point). cells_at (map_at b.case p) b.id) (sym point) ∙ own.leaf in
      record {
        case = case;
        point = point;
        runs = subst CanRun case own.runs;
        leaf = Contains-map (λ (leaf : Leaf). leaf.0) (model c time) (b.id, b.cells) (leaf_from_cells_at (model c time) b.id b.cells found);
      }

  target_is : (b : BlockValue) → Placed b → target_of_block b ≡ target b.id
  target_is b own = ap (λ (x : Case). target_in x (model x b.point.time) b.id) own.case ∙ ap (λ (p : Point). target_in c (model c p.time) b.id) own.point

  -- a proxy comes of a block
  comes : (q : BlockId) → Contains (proxies_of blocks) q → (b : BlockValue) × (Placed b × Follows (target b.id) b.id q)
  comes q has =
      let from = Contains-flat_map_cases (λ (b : BlockValue). map (λ (gift : Gift). gift.0) (gifts_of b)) blocks q has in
      let own : Placed from.0 = placed from.0 from.1 in
      (from.0, (own, subst (λ t. Follows t (from.0).id q) (target_is from.0 own) (follows_of (target_of_block from.0) from.0 q from.2)))

  pub told : (b : BlockValue) → Contains blocks b → Tell b targets
  told b has =
      let own : Placed b = placed b has in
      let is : IsRegridded c.roots c.levels ids target = model_regridded c time own.runs in
      record {
        rising = are.rising;
        regrids = subst (λ (p : Point). IsTrue (regrids b.case p.time)) (sym own.point) (subst (λ (x : Case). IsTrue (regrids x time)) (sym own.case) before.regrids);
        fresh = ap (λ (p : Point). p.regridded) own.point;
        kept = λ among.
            let from = comes b.id ((are.exact b.id).0 among) in
            target_is b own ∙ still_kept c ids target is (from.0).id b.id from.1.0.leaf own.leaf (target (from.0).id) refl from.1.1;
        merges = λ some among.
            let from = comes (parent_of b.id) ((are.exact (parent_of b.id)).0 among) in
            target_is b own ∙ under_new c ids target is (from.0).id b.id from.1.0.leaf own.leaf some (target (from.0).id) refl from.1.1;
        above = λ merges.
            let octet : IsInOctet ids target b.id = is.sound.octets b.id own.leaf (sym (target_is b own) ∙ merges) in
            let level : level_of (parent_of b.id) + 1 ≡ level_of b.id = level-parent b.id octet.child in
            omega arith;
        all = λ gift given. (are.exact gift.0).1 (Contains-flat_map (λ (b : BlockValue). map (λ (gift : Gift). gift.0) (gifts_of b)) blocks b gift.0 has
            (Contains-map (λ (gift : Gift). gift.0) (gifts_of b) gift given));
      }
