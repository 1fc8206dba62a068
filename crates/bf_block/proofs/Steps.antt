-- What a regrid and a step of the model make of one leaf.
use Rattle.std.proofs.Common.{◌≡◌, ℕ, suc, ◌+◌, ◌<◌, Bool, cond, Some, true, false, List, Contains, ap, ◌∙◌, subst, arith}
use Rattle.std.specs.Prelude.{IsTrue}
use Rattle.std.proofs.lemmas.Bool.{cond-true}
use Rattle.bf_id.specs.Id.{BlockId, child_of}
use Rattle.bf_cells.specs.Grid.{Grid}
use Rattle.bf_cells.specs.Octant.{octant_copy_of}
use Rattle.bf_cells.specs.Shell.{Walls}
use Rattle.bf_cells.specs.Kernel.{relaxed_grid}
use Rattle.bf_case.specs.declared.case.Case.{Case}
use Rattle.bf_case.specs.Case.{IsValid}
use Rattle.bf_case.specs.Map.{Leaf, ids_of, cells_at, IsMap}
use Rattle.bf_case.specs.Model.{model, model_at, regrids, NeverRefines}
use Rattle.bf_case.specs.declared.target.Target.TheVariants.{Refine, Merge}
use Rattle.bf_case.specs.Regrid.{regrid, merged_grid, target_in}
use Rattle.bf_case.specs.Beside.{HoldSamples}
use Rattle.bf_case.proofs.BlockSteps.{leaf_steps}
use Rattle.bf_case.proofs.MapLemmas.{IsRootMap-model, regridded_same}
use Rattle.bf_case.proofs.ModelLemmas.{balanced-model_at}
use Rattle.bf_case.proofs.NewCells.{cells_at-stays, cells_at-refined, cells_at-merged}
use Rattle.bf_block.specs.Runs.{CanRun}

-- where no leaf is ever refined, no regrid changes the model
pub model_regridded : (c : Case) (time : ℕ) → IsValid c → NeverRefines c → model_at c time true ≡ model c time
model_regridded c time valid never = regridded_same c time (model c time) never (IsRootMap-model c time valid never)

-- the model has a map at each point
pub map_of : (c : Case) (time : ℕ) (after : Bool) → CanRun c → IsMap c.roots c.side (model_at c time after)
map_of c time after runs = (balanced-model_at c time after runs.valid).map

-- a leaf that is a leaf still after the regrid keeps its cells
pub kept_leaf : (c : Case) (time : ℕ) (i : BlockId) (g : Grid) → CanRun c
    → cells_at (model_at c time false) i ≡ Some g → Contains (ids_of (model_at c time true)) i → cells_at (model_at c time true) i ≡ Some g
kept_leaf c time i g runs found stays = by (regrids c time) stays
  where
    leaves : List Leaf
    leaves = model c time

    by : (b : Bool) → Contains (ids_of (cond b (regrid c leaves) leaves)) i → cells_at (cond b (regrid c leaves) leaves) i ≡ Some g
    by true among = cells_at-stays c leaves i g (map_of c time false runs) found among
    by false among = found

-- where its time regrids, the model has afterwards what the regrid makes
pub regrids_to : (c : Case) (time : ℕ) (i : BlockId) (g : Grid) → IsTrue (regrids c time) → cells_at (regrid c (model c time)) i ≡ Some g → cells_at (model_at c time true) i ≡ Some g
regrids_to c time i g does found = ap (λ leaves. cells_at leaves i) (cond-true (regrids c time) (regrid c (model c time)) (model c time) does) ∙ found

-- a refined leaf gives way to its children
pub refined_leaf : (c : Case) (time : ℕ) (i : BlockId) (g : Grid) (octant : ℕ) → CanRun c → IsTrue (regrids c time) → cells_at (model c time) i ≡ Some g
    → target_in c (model c time) i ≡ Refine → octant < 8 → cells_at (model_at c time true) (child_of i octant) ≡ Some (octant_copy_of g octant)
refined_leaf c time i g octant runs does found target small =
    regrids_to c time (child_of i octant) (octant_copy_of g octant) does
    (cells_at-refined c (model c time) i g octant runs.valid.sized.shallow (map_of c time false runs) found target small)

-- and a merging octet to its parent
pub merged_leaf : (c : Case) (time : ℕ) (parent : BlockId) (g : ℕ → Grid) → CanRun c → IsTrue (regrids c time)
    → ((octant : ℕ) → octant < 8 → cells_at (model c time) (child_of parent octant) ≡ Some (g octant))
    → target_in c (model c time) (child_of parent 0) ≡ Merge → cells_at (model_at c time true) parent ≡ Some (merged_grid c.side g)
merged_leaf c time parent g runs does found target =
    regrids_to c time parent (merged_grid c.side g) does (cells_at-merged c (model c time) parent g (map_of c time false runs) found target)

-- between walls that hold the samples around it, a leaf takes the model's step
pub stepped_leaf : (c : Case) (time : ℕ) (i : BlockId) (g : Grid) (w : Walls) → CanRun c
    → cells_at (model_at c time true) i ≡ Some g → w.side ≡ g.side → HoldSamples c.roots (model_at c time true) i g w
    → cells_at (model_at c (time + 1) false) i ≡ Some (relaxed_grid g w)
unfolding model
stepped_leaf c time i g w runs found fits holds =
    subst (λ later. cells_at (model c later) i ≡ Some (relaxed_grid g w)) (let e : suc time ≡ time + 1 = omega arith in e)
    (leaf_steps c.roots c.side (model_at c time true) i g w runs.valid.sized.shape (map_of c time true runs) found fits holds)
