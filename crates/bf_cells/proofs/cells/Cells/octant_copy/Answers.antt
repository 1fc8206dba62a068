use Rattle.std.proofs.Common.{◌≡◌, ◌*◌, ◌∙◌, ap, length, subst, sym, List, ℕ}
use Rattle.std.specs.Vec.{with_items}
use Rattle.std.proofs.lemmas.List.{with_items_is}
use Rattle.bf_cells.specs.Grid.{Grid, IsGrid, grid_with}
use Rattle.bf_cells.specs.Octant.{octant_copy_of}
use Rattle.bf_cells.proofs.OctantLemmas.{octant_copy_by_lists, IsGrid-octant_copy_of}
use Rattle.bf_cells.proofs.cells.Cells.octant_copy.Goals as goal

-- what the vector holds is the copy of the octant
copied : (c : goal.After-values-3-1)
    → grid_with c.self.inside.side (with_items c.in_ok-values.values c.copy_part.new.into).items ≡ octant_copy_of c.args.self.now c.args.octant
copied c =
    let side : Grid → ℕ = λ g. g.side in
    let values : Grid → List ℕ = λ g. g.values in
    let s = c.self.inside.side in
    let low = c.octant_low-x0.result in
    let part = c.octant_low-x0.ensures in
    let full : length c.copy_part.new.into ≡ s * s * s =
    c.copy_part.auto.into ∙ c.as_mut_slice.ensures.len ∙ c.in_ok-values.ensures.len in
    ap (grid_with s) (with_items_is c.in_ok-values.values c.copy_part.new.into (c.copy_part.auto.into ∙ c.as_mut_slice.ensures.len))
    ∙ octant_copy_by_lists c.args.self.now c.args.octant s low.0 low.1 low.2 c.as_slice.result.now c.copy_part.new.into
    (ap side c.self.view_is) (c.as_slice.ensures.value ∙ ap values c.self.view_is) part.x part.y part.z full c.copy_part.ensures

pub invariant_of-result : goal.invariant_of-result
invariant_of-result c =
    let before : IsGrid c.args.self.now = subst IsGrid c.self.view_is c.self.invariant in
    subst IsGrid (sym (copied c)) (IsGrid-octant_copy_of c.args.self.now c.args.octant before)

pub returns-clause-cells : goal.returns-clause-cells
returns-clause-cells c = copied c
