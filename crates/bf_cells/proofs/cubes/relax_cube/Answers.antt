use Rattle.std.proofs.Common.{arith, ℕ, ◌≡◌, ◌<◌, ◌≤◌, ◌+◌, ◌-◌, ◌*◌, ◌/◌, ◌%◌, ◌∙◌, ap, sym, length, get_or}
use Rattle.bf_cells.specs.Rows.{cube_cell}
use Rattle.bf_cells.proofs.PlaneLemmas.{pieces_more}
use Rattle.bf_cells.proofs.PlaceLemmas.{row_fits, row_of_place}
use Rattle.bf_cells.proofs.cubes.relax_cube.Goals as goal

pub loop-z-preserved : goal.loop-z-preserved
loop-z-preserved c =
    let u = c.args.cube in
    let n = u.side * u.side in
    let f = λ (k z : ℕ). cube_cell u.side u.cells.now u.x_low.now u.x_high.now u.y_low.now u.y_high.now u.z_low.now u.z_high.now (k % u.side) (k / u.side) z in
    let size : n * c.loop-z.z + n - n * c.loop-z.z ≡ n = omega arith in
    let fits : n * c.loop-z.z + n ≤ length c.loop-z.into = omega (arith, row_fits n u.side c.loop-z.z (omega arith)) in
    let plane = c.relax_plane_at.new.into in
    let here : (k : ℕ) → k < n → get_or plane k 0 ≡ f k c.loop-z.z = λ k hk.
    let at = row_of_place u.side u.side k hk in
    ap (λ i. get_or plane i 0) (sym at.2) ∙ c.relax_plane_at.ensures (k % u.side) (k / u.side) at.0 at.1 in
    pieces_more f c.loop-z.into plane n c.loop-z.z _ size fits (omega arith) here c.loop-z.invariant
