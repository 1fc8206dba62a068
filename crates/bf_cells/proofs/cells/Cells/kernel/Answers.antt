use Rattle.std.proofs.Common.{◌≡◌, ◌*◌, ◌∙◌, ap, length, subst, sym, List, ℕ}
use Rattle.std.specs.Vec.{with_items}
use Rattle.std.proofs.lemmas.List.{with_items_is}
use Rattle.bf_cells.specs.Grid.{Grid, IsGrid}
use Rattle.bf_cells.specs.Kernel.{relaxed_grid}
use Rattle.bf_cells.proofs.KernelLemmas.{relaxed_grid_by_lists, IsGrid-relaxed_grid}
use Rattle.bf_cells.proofs.cells.Cells.kernel.Goals as goal

-- a grid of the side of `into`
abbrev with_values : goal.After-into-1 → List ℕ → Grid
with_values c v = record { side = c.into.inside.side; values = v }

-- what the vector holds is what was written
written : (c : goal.After-into-1) → with_values c (with_items c.into.inside.values c.relax_cube.new.into).items ≡ with_values c c.relax_cube.new.into
written c =
    ap (with_values c) (with_items_is c.into.inside.values c.relax_cube.new.into (c.relax_cube.auto.into ∙ c.as_mut_slice.ensures.len))

-- and that makes the grid after a step
stepped : (c : goal.After-into-1) → with_values c c.relax_cube.new.into ≡ relaxed_grid c.args.self.now c.args.shell.now
stepped c =
    let cube = c.around.result in
    let e = c.around.ensures in
    let values : Grid → List ℕ = λ g. g.values in
    let side : Grid → ℕ = λ g. g.side in
    let full : length c.relax_cube.new.into ≡ c.into.inside.side * c.into.inside.side * c.into.inside.side =
    c.relax_cube.auto.into ∙ ap length c.as_mut_slice.ensures.value ∙ c.into.invariant.full in
    relaxed_grid_by_lists c.args.self.now c.args.shell.now (with_values c c.relax_cube.new.into)
    cube.side cube.cells.now cube.x_low.now cube.x_high.now cube.y_low.now cube.y_high.now cube.z_low.now cube.z_high.now
    (ap side c.into.view_is ∙ c.requires.into) full (e.side ∙ c.requires.shell)
    (e.cells ∙ c.as_slice.ensures.value ∙ ap values c.self.view_is) e.x_low e.x_high e.y_low e.y_high e.z_low e.z_high
    c.relax_cube.ensures

pub invariant_of-into : goal.invariant_of-into
invariant_of-into c =
    let before : IsGrid c.args.self.now = subst IsGrid c.self.view_is c.self.invariant in
    subst IsGrid (sym (written c ∙ stepped c)) (IsGrid-relaxed_grid c.args.self.now c.args.shell.now before c.around.ensures.valid)

pub returns-clause-cells : goal.returns-clause-cells
returns-clause-cells c = written c ∙ stepped c
