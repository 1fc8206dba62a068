use Rattle.std.proofs.Common.{◌≡◌, ℕ, ◌*◌, ◌/◌, ◌%◌, ◌<◌}
use Rattle.bf_cells.specs.Rows.{cube_cell, piece_at}
use Rattle.bf_cells.proofs.cubes.relax_cube.Given as goal

abbrev pub invariant-loop-z : goal.invariant-loop-z
invariant-loop-z l =
    let c = l.fn.cube in
    (k b : ℕ) → k < c.side * c.side → b < l.z → piece_at l.into (c.side * c.side) b k
    ≡ cube_cell c.side c.cells.now c.x_low.now c.x_high.now c.y_low.now c.y_high.now c.z_low.now c.z_high.now (k % c.side) (k / c.side) b
