use Rattle.std.proofs.Common.{arith, rules, ◌≡◌, ◌≤◌, ◌<◌, ◌+◌, ◌-◌, ◌*◌, ◌/◌, length}
use Rattle.bf_cells.specs.Grid.{grid_with}
use Rattle.bf_cells.specs.Shell.{face_cell}
use Rattle.bf_cells.proofs.LevelLemmas.{half_fits, quarter_values_is}
use Rattle.bf_cells.proofs.PlaneLemmas.{pieces_more}
use Rattle.bf_cells.proofs.PlaceLemmas.{row_fits}
use Rattle.bf_cells.proofs.quarters.copy_quarter.Goals as goal

pub copy_face_row-requires : goal.copy_face_row-requires
copy_face_row-requires c =
    let a = c.args in
    let r = c.requires in
    let wide = half_fits a.side a.half_a r.even r.half_a in
    let high = half_fits a.side a.half_b r.even r.half_b in
    let below : a.half_b * (a.side / 2) + c.loop-b.b < a.side = omega arith in
    search rules

pub loop-b-preserved : goal.loop-b-preserved
loop-b-preserved c =
    let a = c.args in
    let half = a.side / 2 in
    let b = c.loop-b.b in
    let size : half * b + half - half * b ≡ half = omega arith in
    let fits : half * b + half ≤ length c.loop-b.into = omega (arith, row_fits half half b (omega arith)) in
    pieces_more (λ k j. face_cell (grid_with a.side a.values.now) a.face (a.half_a * half + k) (a.half_b * half + j)) c.loop-b.into
    c.copy_face_row.new.into half b _ size fits (omega arith) c.copy_face_row.ensures c.loop-b.invariant

pub returns : goal.returns
returns c =
    let a = c.args in
    quarter_values_is (grid_with a.side a.values.now) a.face a.half_a a.half_b c.loop-b.into (omega arith)
    (λ k j hk hj. c.loop-b.invariant k j hk (omega arith))
