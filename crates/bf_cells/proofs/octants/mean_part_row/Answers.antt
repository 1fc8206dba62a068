use Rattle.std.proofs.Common.{arith, ◌≡◌, ◌+◌, ◌-◌, ◌/◌, ◌%◌, ◌∙◌, sym, get_or}
use Rattle.bf_cells.specs.Octant.{part_mean}
use Rattle.bf_cells.proofs.OctantLemmas.{crossed, uncrossed}
use Rattle.bf_cells.proofs.octants.mean_part_row.Goals as goal

pub returns-then-crosses : goal.returns-then-crosses
returns-then-crosses c =
    let a = c.args in
    let size : a.x0 + a.side / 2 - a.x0 ≡ a.side / 2 = omega arith in
    crossed a.side a.x0 a.y0 a.z0 (a.row % a.side) (a.row / a.side) _ (part_mean a.side a.values.now) a.into.now c.mean_cells.new.into size c.requires.x_fits
    c.requires.into (omega arith) (sym c.crosses.ensures ∙ c.if-crosses.true) c.mean_cells.ensures

pub returns-else-crosses : goal.returns-else-crosses
returns-else-crosses c k hk =
    let a = c.args in
    uncrossed a.side a.x0 a.y0 a.z0 (a.row % a.side) (a.row / a.side) k (get_or a.into.now k 0) (part_mean a.side a.values.now)
    (sym c.crosses.ensures ∙ c.if-crosses.false)
