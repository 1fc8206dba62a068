use Rattle.std.proofs.Common.{arith, ◌<◌, ◌+◌, ◌*◌, ◌/◌, ◌%◌, ◌∙◌}
use Rattle.std.proofs.lemmas.List.Edits.{get_or-between}
use Rattle.bf_cells.specs.Octant.{part_cell}
use Rattle.bf_cells.proofs.OctantLemmas.{part_row_below, half_below}
use Rattle.bf_cells.proofs.PlaceLemmas.{row_fits}
use Rattle.bf_cells.proofs.octants.copy_part_row.Goals as goal

pub piece-source-requires : goal.piece-source-requires
piece-source-requires c =
    let a = c.args in
    let r = c.requires in
    omega (
      arith,
      row_fits a.side (a.side * a.side) (a.y0 + a.row % a.side / 2 + a.side * (a.z0 + a.row / a.side / 2))
          (part_row_below a.side a.y0 a.z0 a.row r.even r.y_fits r.z_fits r.row),
    )

pub returns : goal.returns
unfolding part_cell
returns c k hk =
    let a = c.args in
    let r = c.requires in
    let inside : a.x0 + k / 2 < a.x0 + a.side / 2 = omega arith in
    c.double_row.ensures k (omega arith)
    ∙ get_or-between c.piece-source.result.now a.x0 (a.x0 + a.side / 2) (k / 2) 0 inside
    ∙ c.piece-source.ensures.cells (a.x0 + k / 2) (half_below a.side a.x0 k r.even r.x_fits hk)
