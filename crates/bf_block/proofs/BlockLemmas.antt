-- What a regrid and a step make of a block is the model's again.
use Rattle.std.proofs.Common.{◌≡◌, ℕ, ◌+◌, ◌<◌, true, false, List, [], ◌∷◌, ◌++◌, map, Some, Contains, inl, ap, subst, sym, ◌∙◌, arith}
use Rattle.std.specs.List.{range_with_len}
use Rattle.std.proofs.lemmas.List.FromFn.{map-range_with_len_more}
use Rattle.std.proofs.lemmas.List.Elements.{All-contains}
use Rattle.bf_id.specs.Id.{BlockId, child_of, level_of, root_id}
use Rattle.bf_id.specs.Shape.{root_count}
use Rattle.bf_cells.specs.Grid.{Grid}
use Rattle.bf_cells.specs.Shell.{Walls}
use Rattle.bf_cells.specs.Kernel.{relaxed_grid}
use Rattle.bf_cells.specs.Octant.{octant_copy_of}
use Rattle.bf_case.specs.declared.case.Case.{Case}
use Rattle.bf_case.specs.declared.target.Target.TheVariants.{Refine}
use Rattle.bf_case.specs.Map.{Leaf, cells_at, ids_of, HasCells}
use Rattle.bf_case.specs.Model.{filled_root, model, model_at}
use Rattle.bf_case.proofs.LookupLemmas.{cells_at-initial, leaf_from_cells_at}
use Rattle.bf_case.proofs.NewCells.{id_of_found, refined_above}
use Rattle.bf_block.specs.Runs.{CanRun}
use Rattle.bf_case.specs.Beside.{HoldSamples}
use Rattle.bf_block.specs.Block.{BlockValue, IsModels, IsRegriddedTo, block_with, after_regrid, before_regrid, map_at, kept_block, stepped_block}
use Rattle.bf_block.proofs.Steps.{kept_leaf, map_of, model_regridded, refined_leaf, stepped_leaf}

pub kept_is_models : (b whole : BlockValue) → b ≡ whole → IsModels b → whole.point.regridded ≡ false
    → Contains (ids_of (map_at whole.case (after_regrid whole.point.time))) whole.id → IsModels (kept_block b)
kept_is_models b whole same is fresh stays = record {
  runs = is.runs;
  leaf = kept_leaf b.case b.point.time b.id b.cells is.runs
      (subst (λ after. cells_at (model_at b.case b.point.time after) b.id ≡ Some b.cells) (rw (← same) at fresh) is.leaf)
      (subst (λ (v : BlockValue). Contains (ids_of (map_at v.case (after_regrid v.point.time))) v.id) (sym same) stays);
}

-- of a setup of the same case
pub stepped_is_models : (b whole : BlockValue) (c : Case) (w : Walls) (cells : Grid) → b ≡ whole → c ≡ b.case → IsModels b
    → whole.point.regridded ≡ true → w.side ≡ whole.cells.side → HoldSamples whole.case.roots (map_at whole.case whole.point) whole.id whole.cells w
    → cells ≡ relaxed_grid b.cells w → IsModels (record (stepped_block b w) { case = c; cells = cells })
stepped_is_models b whole c w cells same of_case is after fits holds made =
    let later : b.point.regridded ≡ true = rw (← same) at after in
    let fits_here : w.side ≡ b.cells.side = rw (← same) at fits in
    let holds_here : HoldSamples b.case.roots (map_at b.case b.point) b.id b.cells w =
    subst (λ (v : BlockValue). HoldSamples v.case.roots (map_at v.case v.point) v.id v.cells w) (sym same) holds in
    record {
      runs = subst CanRun (sym of_case) is.runs;
      leaf = rw (made, of_case) (stepped_leaf b.case b.point.time b.id b.cells w is.runs
          (subst (λ after. cells_at (model_at b.case b.point.time after) b.id ≡ Some b.cells) later is.leaf) fits_here
          (subst (λ after. HoldSamples b.case.roots (model_at b.case b.point.time after) b.id b.cells w) later holds_here));
    }

-- a root at the beginning, of setups of one case
pub initial_is_models : (c filled shared : Case) (root : ℕ) (id : BlockId) (cells : Grid) → filled ≡ c → shared ≡ c → CanRun filled → root < root_count c.roots
    → id ≡ root_id root → cells ≡ (filled_root filled root).1
    → IsModels (record { case = shared; point = before_regrid 0; id = id; cells = cells })
unfolding model
initial_is_models c filled shared root id cells same also runs below named made =
    let here : CanRun c = subst CanRun same runs in
    rw (also, named, made, same) (record { runs = here; leaf = cells_at-initial c root here.valid below })

-- where nothing regrids, each block is kept
pub kept_id : (b : BlockValue) → IsModels b → b.case.regrid ≡ 0 → b.point.regridded ≡ false → Contains (ids_of (map_at b.case (after_regrid b.point.time))) b.id
kept_id b is none fresh =
    subst (λ (leaves : List Leaf). Contains (ids_of leaves) b.id) (sym (model_regridded b.case b.point.time is.runs.valid (inl none)))
    (id_of_found (model b.case b.point.time) b.id b.cells (subst (λ after. cells_at (model_at b.case b.point.time after) b.id ≡ Some b.cells) fresh is.leaf))

-- a block has cells of its case's side
pub block_side : (b whole : BlockValue) → b ≡ whole → IsModels b → b.cells.side ≡ whole.case.side
block_side b whole same is =
    (All-contains (HasCells b.case.side) (map_at b.case b.point) (b.id, b.cells) (map_of b.case b.point.time b.point.regridded is.runs).cells
    (leaf_from_cells_at (map_at b.case b.point) b.id b.cells is.leaf)).fits
    ∙ ap (λ (v : BlockValue). v.case.side) same

-- a refined leaf lies above the finest level of all
pub child_shallow : (b whole : BlockValue) → b ≡ whole → IsModels b → IsRegriddedTo Refine whole.case whole.point whole.id → level_of b.id < 4
child_shallow b whole same is does =
    let here : IsRegriddedTo Refine b.case b.point b.id = subst (λ (v : BlockValue). IsRegriddedTo Refine v.case v.point v.id) (sym same) does in
    refined_above b.case (model b.case b.point.time) b.id is.runs.valid.sized.shallow (map_of b.case b.point.time false is.runs).ids here.target_is

-- a child of a refined leaf, of a setup of the same case
pub child_is_models : (b whole : BlockValue) (c : Case) (octant : ℕ) (cells : Grid) → b ≡ whole → c ≡ b.case → IsModels b
    → IsRegriddedTo Refine whole.case whole.point whole.id → octant < 8 → cells ≡ octant_copy_of b.cells octant
    → IsModels (block_with c (after_regrid b.point.time) (child_of b.id octant) cells)
child_is_models b whole c octant cells same of_case is does small made =
    let here : IsRegriddedTo Refine b.case b.point b.id = subst (λ (v : BlockValue). IsRegriddedTo Refine v.case v.point v.id) (sym same) does in
    record {
      runs = subst CanRun (sym of_case) is.runs;
      leaf = rw (made, of_case) (refined_leaf b.case b.point.time b.id b.cells octant is.runs here.regrids
          (subst (λ after. cells_at (model_at b.case b.point.time after) b.id ≡ Some b.cells) here.fresh is.leaf) here.target_is small);
    }

-- one more is made
pub pushed_more : {X : Type 0} (f : ℕ → X) (n : ℕ) (before : List X) (x : X) → before ≡ map f (range_with_len 0 n) → x ≡ f n
    → before ++ x ∷ [] ≡ map f (range_with_len 0 (n + 1))
pushed_more f n before x so_far is =
    ap (λ l. l ++ x ∷ []) so_far ∙ ap (λ y. map f (range_with_len 0 n) ++ y ∷ []) is ∙ sym (map-range_with_len_more f 0 n n (omega arith))
