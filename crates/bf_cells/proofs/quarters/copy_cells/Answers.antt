use Rattle.std.proofs.Common.{arith, ◌<◌, ◌+◌, ◌/◌, ◌∙◌, ap, get_or}
use Rattle.std.proofs.lemmas.List.Edits.{get_or-between}
use Rattle.bf_cells.proofs.PlaceLemmas.{cube_row_fits}
use Rattle.bf_cells.proofs.quarters.copy_cells.Goals as goal

pub piece-source-requires : goal.piece-source-requires
piece-source-requires c = cube_row_fits c.args.side c.args.y c.args.z _ c.requires.values c.requires.y_below c.requires.z_below

pub returns : goal.returns
returns c k hk =
    let a = c.args in
    let inside : a.x0 + k < a.x0 + a.side / 2 = omega arith in
    ap (λ l. get_or l k 0) c.copy_from_slice.ensures.after
    ∙ get_or-between c.piece-source.result.now a.x0 (a.x0 + a.side / 2) k 0 inside
    ∙ c.piece-source.ensures.cells (a.x0 + k) (omega arith)
