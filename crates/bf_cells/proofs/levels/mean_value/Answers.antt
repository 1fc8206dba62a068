use Rattle.std.proofs.Common.{arith, ◌<◌, ◌+◌, ◌*◌, ◌∙◌, refl}
use Rattle.bf_cells.specs.Octant.{mean_of_rows, part_mean}
use Rattle.bf_cells.proofs.PlaceLemmas.{cube_row_fits}
use Rattle.bf_cells.proofs.levels.mean_value.Goals as goal

pub piece-first-requires : goal.piece-first-requires
piece-first-requires c = cube_row_fits c.args.side (2 * c.args.y) (2 * c.args.z) _ c.requires.values (omega arith) (omega arith)

pub piece-second-requires : goal.piece-second-requires
piece-second-requires c = cube_row_fits c.args.side (2 * c.args.y + 1) (2 * c.args.z) _ c.requires.values (omega arith) (omega arith)

pub piece-third-requires : goal.piece-third-requires
piece-third-requires c = cube_row_fits c.args.side (2 * c.args.y) (2 * c.args.z + 1) _ c.requires.values (omega arith) (omega arith)

pub piece-fourth-requires : goal.piece-fourth-requires
piece-fourth-requires c = cube_row_fits c.args.side (2 * c.args.y + 1) (2 * c.args.z + 1) _ c.requires.values (omega arith) (omega arith)

pub returns : goal.returns
unfolding mean_of_rows part_mean
returns c =
    let k = c.args.x in
    let even : 2 * k < c.args.side = omega arith in
    let odd : 2 * k + 1 < c.args.side = omega arith in
    let a = c.piece-first.ensures.cells in
    let b = c.piece-second.ensures.cells in
    let d = c.piece-third.ensures.cells in
    let e = c.piece-fourth.ensures.cells in
    c.mean_of_pairs.ensures
    ∙ rw (
      a (2 * k) even,
      a (2 * k + 1) odd,
      b (2 * k) even,
      b (2 * k + 1) odd,
      d (2 * k) even,
      d (2 * k + 1) odd,
      e (2 * k) even,
      e (2 * k + 1) odd,
    ) refl
