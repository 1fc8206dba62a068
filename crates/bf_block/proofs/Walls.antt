-- The walls around a root hold the samples beyond its faces.
use Rattle.std.proofs.Common.{◌≡◌, ℕ, ◌<◌, true, List, Some, inl, refl, sym, ◌∙◌, subst}
use Rattle.bf_id.specs.Shape.{root_count}
use Rattle.bf_id.specs.Id.{root_id}
use Rattle.bf_cells.specs.Grid.{Grid}
use Rattle.bf_cells.specs.Shell.{Walls}
use Rattle.bf_case.specs.declared.case.Case.{Case}
use Rattle.bf_case.specs.Around.{grid_at, walls_around, IsAround}
use Rattle.bf_case.specs.Map.{Leaf, cells_at}
use Rattle.bf_case.specs.Case.{IsValid}
use Rattle.bf_case.specs.Model.{model, model_at, NeverRefines}
use Rattle.bf_case.specs.Beside.{HoldSamples}
use Rattle.bf_case.proofs.MapLemmas.{IsRootMap-model}
use Rattle.bf_case.proofs.RootModel.{roots_of_model, cells_of_root, around_is_root, walls_same}
use Rattle.bf_case.proofs.RootsAround.{root_walls_hold}
use Rattle.bf_block.proofs.Steps.{model_regridded}

-- where no leaf is ever refined, and all cells meant are the model's
pub walls_hold : (c : Case) (time root : ℕ) (grid : ℕ → Grid) → IsValid c → NeverRefines c → root < root_count c.roots
    → ((k : ℕ) → IsAround c.roots root k → cells_at (model c time) (root_id k) ≡ Some (grid k))
    → HoldSamples c.roots (model_at c time true) (root_id root) (grid root) (walls_around c.roots c.side grid root)
walls_hold c time root grid valid never below known =
    let leaves = model c time in
    let found : (k : ℕ) → IsAround c.roots root k → grid_at leaves k ≡ grid k =
    λ k around. the_same (grid_at leaves k) (grid k) (sym (cells_of_root c time k valid never (around_is_root c.roots root k valid.sized.shape below around)) ∙ known k around) in
    subst (λ (l : List Leaf). HoldSamples c.roots l (root_id root) (grid root) (walls_around c.roots c.side grid root)) (sym (model_regridded c time valid never))
    (subst (λ (g : Grid). HoldSamples c.roots leaves (root_id root) g (walls_around c.roots c.side grid root)) (found root (inl refl))
    (subst (λ (w : Walls). HoldSamples c.roots leaves (root_id root) (grid_at leaves root) w) (walls_same c.roots c.side (grid_at leaves) grid root found)
    (root_walls_hold c.roots c.side leaves root valid.sized.shape (IsRootMap-model c time valid never).map (roots_of_model c time valid never) below)))
  where
    the_same : (g h : Grid) → Some g ≡ Some h → g ≡ h
    the_same g h e = cc
