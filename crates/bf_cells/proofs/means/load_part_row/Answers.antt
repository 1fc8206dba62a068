use Rattle.std.proofs.Common.{arith, ◌≡◌, ◌+◌, ◌-◌, ◌/◌, ◌%◌, ◌∙◌, sym, ap, get_or, length}
use Rattle.bf_cells.specs.Grid.{cell_at, grid_with}
use Rattle.bf_cells.proofs.OctantLemmas.{crossed, uncrossed, crossed_row}
use Rattle.bf_cells.proofs.means.load_part_row.Goals as goal

pub piece-requires : goal.piece-requires
piece-requires c =
    let a = c.args in
    omega (arith, crossed_row (a.side / 2) a.y0 a.z0 (a.row % a.side) (a.row / a.side) (length a.part.now) c.requires.part (sym c.crosses.ensures ∙ c.if-crosses.true))

pub returns-then-crosses : goal.returns-then-crosses
returns-then-crosses c =
    let a = c.args in
    let size : a.x0 + a.side / 2 - a.x0 ≡ a.side / 2 = omega arith in
    crossed a.side a.x0 a.y0 a.z0 (a.row % a.side) (a.row / a.side) _ (cell_at (grid_with (a.side / 2) a.part.now)) a.into.now c.copy_from_slice.new.self size
    c.requires.x_fits c.requires.into (ap length c.copy_from_slice.ensures.after ∙ c.piece.ensures.len) (sym c.crosses.ensures ∙ c.if-crosses.true)
    (λ k hk. ap (λ l. get_or l k 0) c.copy_from_slice.ensures.after ∙ c.piece.ensures.cells k hk)

pub returns-else-crosses : goal.returns-else-crosses
returns-else-crosses c k hk =
    let a = c.args in
    uncrossed a.side a.x0 a.y0 a.z0 (a.row % a.side) (a.row / a.side) k (get_or a.into.now k 0) (cell_at (grid_with (a.side / 2) a.part.now))
    (sym c.crosses.ensures ∙ c.if-crosses.false)
