use Rattle.std.proofs.Common.{◌≡◌, ◌*◌, ◌+◌, ◌-◌, ◌≤◌, ◌∙◌, arith, ap, length, List, ℕ}
use Rattle.std.proofs.lemmas.List.{with_items_is}
use Rattle.std.proofs.lemmas.List.Edits.{length-between}
use Rattle.bf_cells.specs.Grid.{Grid}
use Rattle.bf_cells.proofs.FillLemmas.{with_row_by_lists, length-put_mid}
use Rattle.bf_cells.proofs.PlaceLemmas.{cube_row_fits}
use Rattle.bf_cells.proofs.cells.Cells.put_row.Goals as goal

pub returns-clause-cells : goal.returns-clause-cells
returns-clause-cells c =
    let side : Grid → ℕ = λ g. g.side in
    let values : Grid → List ℕ = λ g. g.values in
    let s = c.self.inside.side in
    let start = c.row_start-start.result in
    let old = c.deref_mut.result.now in
    let row = c.fill_between.new.row in
    let own : s ≡ c.args.self.now.side = ap side c.self.view_is in
    let full : length old ≡ s * s * s = ap length c.deref_mut.ensures.value ∙ c.self.invariant.full in
    let fits : start + s ≤ length old =
    omega (arith, cube_row_fits s c.args.y c.args.z (length old) full (omega arith) (omega arith), c.row_start-start.ensures) in
    let size : start + s - start ≡ s = omega arith in
    let kept = length-put_mid start (start + s - start) old row (omega arith) (c.fill_between.auto.row ∙ length-between old start (start + s) fits) in
    with_row_by_lists c.args.self.now s start c.args.x c.args.end c.args.y c.args.z c.args.value (start + s - start) old row _
    own (c.deref_mut.ensures.value ∙ ap values c.self.view_is) c.row_start-start.ensures size full (omega arith) (omega arith)
    c.fill_between.auto.row (with_items_is c.self.inside.values _ (kept ∙ c.deref_mut.ensures.len)) c.fill_between.ensures
