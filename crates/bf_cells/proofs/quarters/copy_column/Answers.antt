use Rattle.std.proofs.Common.{arith, ◌+◌, ◌<◌, length}
use Rattle.bf_cells.specs.Grid.{grid_with, cell_at}
use Rattle.bf_cells.proofs.PlaceLemmas.{cube_row_fits}
use Rattle.bf_cells.proofs.RowLemmas.{set_next}
use Rattle.bf_cells.proofs.quarters.copy_column.Goals as goal

pub piece-requires : goal.piece-requires
piece-requires c =
    let a = c.args in
    cube_row_fits a.side (a.y0 + c.loop-k.k) a.z _ c.requires.values (omega arith) c.requires.z_below

pub loop-k-preserved : goal.loop-k-preserved
loop-k-preserved c =
    let a = c.args in
    let within : c.loop-k.k < length c.loop-k.into = omega arith in
    set_next (λ k. cell_at (grid_with a.side a.values.now) a.x (a.y0 + k) a.z) c.loop-k.into c.loop-k.k _ within
    (c.piece.ensures.cells a.x c.requires.x_below) c.loop-k.invariant
