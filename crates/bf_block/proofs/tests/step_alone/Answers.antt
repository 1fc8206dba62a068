use Rattle.std.proofs.Common.{◌≡◌, true, Some, List, inl, ap, subst, sym, ◌∙◌, arith}
use Rattle.bf_id.specs.declared.shape.Shape.{Shape}
use Rattle.bf_id.specs.Id.{BlockId, root_id}
use Rattle.bf_id.specs.Shape.{root_count}
use Rattle.bf_cells.specs.Grid.{Grid}
use Rattle.bf_cells.specs.Shell.{Walls}
use Rattle.bf_case.specs.declared.case.Case.{Case}
use Rattle.bf_case.specs.Around.{walls_around}
use Rattle.bf_case.specs.Map.{Leaf, cells_at}
use Rattle.bf_case.specs.Model.{model, model_at}
use Rattle.bf_case.proofs.RootModel.{around_is_root}
use Rattle.bf_block.specs.declared.point.Point.{Point}
use Rattle.bf_case.specs.Beside.{HoldSamples}
use Rattle.bf_block.specs.Block.{BlockValue, IsModels, after_regrid, map_at}
use Rattle.bf_block.specs.Runs.{CanRun}
use Rattle.bf_block.specs.Setup.{case_of, every_setup_runs}
use Rattle.bf_block.proofs.Steps.{model_regridded}
use Rattle.bf_block.proofs.Walls.{walls_hold}
use Rattle.bf_block.proofs.tests.step_alone.Goals as goal

-- a lone root between its own walls
lone_holds : (c : Case) (b : BlockValue) (g : Grid) → CanRun c → c.regrid ≡ 0 → IsModels b → b.case ≡ c → b.point ≡ after_regrid 0 → b.id ≡ root_id 0
    → root_count c.roots ≡ 1 → g ≡ b.cells → HoldSamples b.case.roots (map_at b.case b.point) b.id b.cells (walls_around c.roots c.side (λ _. g) 0)
lone_holds c b g runs none is of_case at named lone same =
    let found : cells_at (model c 0) (root_id 0) ≡ Some b.cells =
    subst (λ (leaves : List Leaf). cells_at leaves (root_id 0) ≡ Some b.cells) (model_regridded c 0 runs.valid (inl none))
    (subst (λ (i : BlockId). cells_at (model_at c 0 true) i ≡ Some b.cells) named
    (subst (λ (p : Point). cells_at (map_at c p) b.id ≡ Some b.cells) at
    (subst (λ (k : Case). cells_at (map_at k b.point) b.id ≡ Some b.cells) of_case is.leaf))) in
    subst (λ (k : Case). HoldSamples k.roots (map_at k b.point) b.id b.cells (walls_around c.roots c.side (λ _. g) 0)) (sym of_case)
    (subst (λ (p : Point). HoldSamples c.roots (map_at c p) b.id b.cells (walls_around c.roots c.side (λ _. g) 0)) (sym at)
    (subst (λ (i : BlockId). HoldSamples c.roots (map_at c (after_regrid 0)) i b.cells (walls_around c.roots c.side (λ _. g) 0)) (sym named)
    (subst (λ (h : Grid). HoldSamples c.roots (map_at c (after_regrid 0)) (root_id 0) h (walls_around c.roots c.side (λ _. g) 0)) same
    (walls_hold c 0 0 (λ _. g) runs.valid (inl none) (omega arith)
    (λ k around. let below = around_is_root c.roots 0 k runs.valid.sized.shape (omega arith) around in
    let only : 0 ≡ k = omega arith in
    subst (λ n. cells_at (model c 0) (root_id n) ≡ Some g) only (found ∙ ap Some (sym same)))))))

pub surround-requires-clause-given : goal.surround-requires-clause-given
surround-requires-clause-given c = λ k around. record {
  there = tt;
  fits = c.cells.ensures.side ∙ ap (λ (k : Case). k.side) c.requires.case ∙ sym c.side.ensures.value ∙ sym (ap (λ (w : Walls). w.side) c.in_ok-shell.ensures);
}

pub stepped-requires-clause-side : goal.stepped-requires-clause-side
stepped-requires-clause-side c =
    c.surround.ensures.side ∙ ap (λ (w : Walls). w.side) c.in_ok-shell.ensures ∙ c.side.ensures.value ∙ ap (λ (k : Case). k.side) (sym c.requires.case)
    ∙ sym c.cells.ensures.side ∙ ap (λ (g : Grid). g.side) c.cells.ensures.cells

pub stepped-requires-clause-samples : goal.stepped-requires-clause-samples
stepped-requires-clause-samples c =
    let case = case_of c.args.setup.now in
    let side : c.in_ok-shell.shell.side ≡ case.side = ap (λ (w : Walls). w.side) c.in_ok-shell.ensures ∙ c.side.ensures.value in
    subst (λ (w : Walls). HoldSamples c.args.block.case.roots (map_at c.args.block.case c.args.block.point) c.args.block.id c.args.block.cells w)
    (sym (c.surround.ensures.walls
    ∙ ap (λ (s : Shape). walls_around s c.in_ok-shell.shell.side (λ _. c.cells.result.now) 0) c.roots.ensures.value
    ∙ ap (λ n. walls_around case.roots n (λ _. c.cells.result.now) 0) side))
    (lone_holds case c.args.block c.cells.result.now (every_setup_runs c.args.setup.now) c.requires.rests c.cells.ensures.model c.requires.case c.requires.point c.requires.id
    c.requires.lone c.cells.ensures.cells)
