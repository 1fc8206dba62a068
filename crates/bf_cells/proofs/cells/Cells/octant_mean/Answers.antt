use Rattle.std.proofs.Common.{◌≡◌, ◌*◌, ◌∙◌, ap, length, subst, sym, List, ℕ}
use Rattle.std.specs.Vec.{with_items}
use Rattle.std.proofs.lemmas.List.{with_items_is}
use Rattle.bf_cells.specs.Grid.{Grid, IsGrid, grid_with}
use Rattle.bf_cells.specs.Octant.{with_octant_mean}
use Rattle.bf_cells.proofs.OctantLemmas.{octant_mean_by_lists, IsGrid-with_octant_mean}
use Rattle.bf_cells.proofs.cells.Cells.octant_mean.Goals as goal

-- what the vector holds is the grid with the means
meant : (c : goal.After-into-1)
    → grid_with c.into.inside.side (with_items c.into.inside.values c.mean_part.new.into).items ≡ with_octant_mean c.args.self.now c.args.octant c.args.into.now
meant c =
    let side : Grid → ℕ = λ g. g.side in
    let values : Grid → List ℕ = λ g. g.values in
    let s = c.self.inside.side in
    let low = c.octant_low-x0.result in
    let part = c.octant_low-x0.ensures in
    let own : s ≡ c.args.self.now.side = ap side c.self.view_is in
    let same : c.args.into.now.side ≡ s = c.requires.sides ∙ sym own in
    let other : c.into.inside.side ≡ s = ap side c.into.view_is ∙ same in
    let full : length c.mean_part.new.into ≡ s * s * s =
    c.mean_part.auto.into ∙ ap length c.as_mut_slice.ensures.value ∙ c.into.invariant.full ∙ ap (λ n. n * n * n) other in
    ap (grid_with c.into.inside.side) (with_items_is c.into.inside.values c.mean_part.new.into (c.mean_part.auto.into ∙ c.as_mut_slice.ensures.len))
    ∙ ap (λ n. grid_with n c.mean_part.new.into) other
    ∙ octant_mean_by_lists c.args.self.now c.args.octant c.args.into.now s low.0 low.1 low.2 c.as_slice.result.now c.as_mut_slice.result.now
    c.mean_part.new.into own same (c.as_slice.ensures.value ∙ ap values c.self.view_is) (c.as_mut_slice.ensures.value ∙ ap values c.into.view_is)
    part.x part.y part.z c.requires.octant c.self.invariant.even c.self.invariant.low full c.mean_part.ensures

pub invariant_of-into : goal.invariant_of-into
invariant_of-into c =
    let before : IsGrid c.args.self.now = subst IsGrid c.self.view_is c.self.invariant in
    let there : IsGrid c.args.into.now = subst IsGrid c.into.view_is c.into.invariant in
    subst IsGrid (sym (meant c)) (IsGrid-with_octant_mean c.args.self.now c.args.octant c.args.into.now before there)

pub returns-clause-cells : goal.returns-clause-cells
returns-clause-cells c = meant c
