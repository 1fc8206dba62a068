-- The model of a case that never refines, root by root.
use Rattle.std.proofs.Common.{◌≡◌, ℕ, ◌+◌, ◌<◌, Option, None, Some, inl, inr, List, length, get_or, Contains, refl, sym, ◌∙◌, ap, subst, arith}
use Rattle.std.proofs.Math.Numerals.{add-one}
use Rattle.std.proofs.lemmas.List.Elements.{Contains-get_or}
use Rattle.bf_id.specs.declared.shape.Shape.{Shape}
use Rattle.bf_face.specs.declared.face.Face.{Face}
use Rattle.bf_face.specs.declared.face.Face.TheVariants.{XLow, XHigh, YLow, YHigh, ZLow, ZHigh}
use Rattle.bf_id.specs.Shape.{IsShape, root_count}
use Rattle.bf_id.specs.Id.{BlockId, root_id}
use Rattle.bf_cells.specs.Grid.{Grid}
use Rattle.bf_cells.specs.Shell.{Walls}
use Rattle.bf_cells.specs.Kernel.{relaxed_grid}
use Rattle.bf_case.specs.declared.case.Case.{Case}
use Rattle.bf_case.specs.Case.{IsValid}
use Rattle.bf_case.specs.Map.{Leaf, cells_at}
use Rattle.bf_case.specs.Stencil.{stencil}
use Rattle.bf_case.specs.Model.{model, NeverRefines}
use Rattle.bf_case.specs.Around.{AreRootIds, across, grid_at, nothing, wall_from, walls_around, IsAround}
use Rattle.bf_case.proofs.MapLemmas.{IsRootMap-model, regridded_same}
use Rattle.bf_case.proofs.LookupLemmas.{cells_at-leaf}
use Rattle.bf_case.proofs.RootSteps.{roots_are}
use Rattle.bf_case.proofs.RootsAround.{LiesAt, across_lies, root_walls_hold}
use Rattle.bf_case.proofs.BlockSteps.{leaf_steps}

pub roots_of_model : (c : Case) (time : ℕ) → IsValid c → NeverRefines c → AreRootIds c.roots (model c time)
roots_of_model c time valid never = (IsRootMap-model c time valid never).roots

pub side_in_model : (c : Case) (time : ℕ) → IsValid c → NeverRefines c → (k : ℕ) → k < length (model c time) → (grid_at (model c time) k).side ≡ c.side
side_in_model c time valid never k below = ((IsRootMap-model c time valid never).map.cells k nothing below).fits

-- no regrid changes the map
pub model_next : (c : Case) (time : ℕ) → IsValid c → NeverRefines c → model c (time + 1) ≡ stencil c.roots c.side (model c time)
unfolding model
model_next c time valid never =
    rw add-one (ap (stencil c.roots c.side) (regridded_same c time (model c time) never (IsRootMap-model c time valid never)))

-- a root is found by its id
pub cells_of_root : (c : Case) (time k : ℕ) → IsValid c → NeverRefines c → k < root_count c.roots
    → cells_at (model c time) (root_id k) ≡ Some (grid_at (model c time) k)
cells_of_root c time k valid never below =
    let leaves = model c time in
    let leaf = get_or leaves k nothing in
    let are = roots_are c.roots leaves (roots_of_model c time valid never) in
    let named : BlockId → Leaf = λ i. (i, leaf.1) in
    let has : Contains leaves leaf = Contains-get_or leaves k nothing (omega (arith, are.0)) in
    cells_at-leaf leaves (root_id k) leaf.1 (IsRootMap-model c time valid never).map.rising
    (subst (Contains leaves) (ap named (are.1 k nothing below)) has)

-- ---- what lies around a root

across_is_root : (shape : Shape) (k j : ℕ) (face : Face) → IsShape shape → k < root_count shape → across shape k face ≡ Some j → j < root_count shape
across_is_root shape k j face valid below e = (subst (LiesAt shape k face) e (across_lies shape k face valid below)).0

pub around_is_root : (shape : Shape) (k j : ℕ) → IsShape shape → k < root_count shape → IsAround shape k j → j < root_count shape
around_is_root shape k j valid below (inl own) = omega (arith, below, own)
around_is_root shape k j valid below (inr near) = across_is_root shape k j near.0 valid below near.1

wall_same : (g h : ℕ → Grid) (k : ℕ) (o : Option ℕ) (face : Face) → g k ≡ h k → ((j : ℕ) → o ≡ Some j → g j ≡ h j) → wall_from g k o face ≡ wall_from h k o face
wall_same g h k None face own near = rw own refl
wall_same g h k (Some j) face own near = rw (near j refl) refl

-- the walls depend on the roots around alone
pub walls_same : (shape : Shape) (edge : ℕ) (g h : ℕ → Grid) (k : ℕ) → ((j : ℕ) → IsAround shape k j → g j ≡ h j)
    → walls_around shape edge g k ≡ walls_around shape edge h k
unfolding walls_around
walls_same shape edge g h k same =
    let own = same k (inl refl) in
    let at : (face : Face) → wall_from g k (across shape k face) face ≡ wall_from h k (across shape k face) face =
    λ face. wall_same g h k (across shape k face) face own (λ j e. same j (inr (face, e))) in
    walls_equal edge _ _ _ _ _ _ _ _ _ _ _ _ (at XLow) (at XHigh) (at YLow) (at YHigh) (at ZLow) (at ZHigh)
  where
    walls_equal : (edge : ℕ) (a b c d e f a' b' c' d' e' f' : List ℕ) → a ≡ a' → b ≡ b' → c ≡ c' → d ≡ d' → e ≡ e' → f ≡ f'
        → ◌≡◌ {A = Walls} (record { side = edge; x_low = a; x_high = b; y_low = c; y_high = d; z_low = e; z_high = f })
        (record { side = edge; x_low = a'; x_high = b'; y_low = c'; y_high = d'; z_low = e'; z_high = f' })
    walls_equal edge a b c d e f a' b' c' d' e' f' p q r s t u = rw (p, q, r, s, t, u) refl

-- ---- a step of one root

pub root_steps : (c : Case) (time root : ℕ) (grid : ℕ → Grid) → IsValid c → NeverRefines c → root < root_count c.roots
    → ((k : ℕ) → IsAround c.roots root k → cells_at (model c time) (root_id k) ≡ Some (grid k))
    → cells_at (model c (time + 1)) (root_id root) ≡ Some (relaxed_grid (grid root) (walls_around c.roots c.side grid root))
unfolding walls_around
root_steps c time root grid valid never below known =
    let leaves = model c time in
    let shape = c.roots in
    let is = IsRootMap-model c time valid never in
    let found : (k : ℕ) → IsAround shape root k → grid_at leaves k ≡ grid k =
    λ k around. the_same (grid_at leaves k) (grid k) (sym (cells_of_root c time k valid never (around_is_root shape root k valid.sized.shape below around)) ∙ known k around) in
    let own = grid_at leaves root in
    let cells = cells_of_root c time root valid never below in
    let same : own.side ≡ c.side = side_in_model c time valid never root (omega (arith, (roots_are shape leaves is.roots).0)) in
    ap (λ m. cells_at m (root_id root)) (model_next c time valid never)
    ∙ leaf_steps shape c.side leaves (root_id root) own (walls_around shape c.side (grid_at leaves) root) valid.sized.shape is.map cells (sym same)
    (root_walls_hold shape c.side leaves root valid.sized.shape is.map is.roots below)
    ∙ ap (λ walls. Some (relaxed_grid own walls)) (walls_same shape c.side (grid_at leaves) grid root found)
    ∙ ap (λ (g : Grid). Some (relaxed_grid g (walls_around shape c.side grid root))) (found root (inl refl))
  where
    the_same : (g h : Grid) → Some g ≡ Some h → g ≡ h
    the_same g h e = cc
