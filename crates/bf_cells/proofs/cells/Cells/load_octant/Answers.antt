use Rattle.std.proofs.Common.{rules, ◌≡◌, ◌*◌, ◌^◌, ◌<◌, ◌∙◌, ap, length, subst, sym}
use Rattle.std.specs.Vec.{with_items}
use Rattle.std.proofs.lemmas.List.{with_items_is}
use Rattle.std.proofs.lemmas.List.Elements.{All-from_get_or}
use Rattle.bf_cells.specs.Grid.{Grid, IsGrid, grid_with}
use Rattle.bf_cells.specs.Means.{with_octant}
use Rattle.bf_cells.proofs.MeanLemmas.{octant_loaded, IsGrid-with_octant}
use Rattle.bf_cells.proofs.cells.Cells.load_octant.Goals as goal

-- what the vector holds is the grid with the octant
loaded : (c : goal.After-self-1)
    → grid_with c.self.inside.side (with_items c.self.inside.values c.load_part.new.into).items ≡ with_octant c.args.self.now c.args.octant c.args.values.now
loaded c =
    let s = c.self.inside.side in
    let low = c.octant_low-x0.result in
    let part = c.octant_low-x0.ensures in
    let full : length c.load_part.new.into ≡ s * s * s = c.load_part.auto.into ∙ ap length c.as_mut_slice.ensures.value ∙ c.self.invariant.full in
    ap (grid_with s) (with_items_is c.self.inside.values c.load_part.new.into (c.load_part.auto.into ∙ c.as_mut_slice.ensures.len))
    ∙ octant_loaded c.args.self.now c.args.octant s low.0 low.1 low.2 c.args.values.now c.as_mut_slice.result.now c.load_part.new.into
    (ap (λ (g : Grid). g.side) c.self.view_is) (c.as_mut_slice.ensures.value ∙ ap (λ (g : Grid). g.values) c.self.view_is) part.x part.y part.z c.requires.octant
    c.self.invariant.even c.self.invariant.low full c.load_part.ensures

pub invariant_of-self : goal.invariant_of-self
invariant_of-self c =
    let before : IsGrid c.args.self.now = subst IsGrid c.self.view_is c.self.invariant in
    subst IsGrid (sym (loaded c)) (IsGrid-with_octant c.args.self.now c.args.octant c.args.values.now before
    (All-from_get_or (λ n. n < 2 ^ 32) c.args.values.now 0 (λ k within. let fits = c.type_inv.values k in search rules)))

pub returns-clause-cells : goal.returns-clause-cells
returns-clause-cells c = loaded c
