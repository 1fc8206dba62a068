use Rattle.std.proofs.Common.{arith, rules, ◌≡◌, ◌≤◌, ◌+◌, ◌-◌, ◌*◌, ◌/◌, length}
use Rattle.bf_cells.specs.Grid.{grid_with}
use Rattle.bf_cells.specs.Shell.{face_cell}
use Rattle.bf_cells.proofs.LevelLemmas.{doubled_face_is, half_fits}
use Rattle.bf_cells.proofs.OctantLemmas.{half_below}
use Rattle.bf_cells.proofs.PlaneLemmas.{pieces_more}
use Rattle.bf_cells.proofs.PlaceLemmas.{row_fits}
use Rattle.bf_cells.proofs.levels.double_face.Goals as goal

pub double_face_row-requires : goal.double_face_row-requires
double_face_row-requires c =
    let a = c.args in
    let r = c.requires in
    let b = c.loop-b.b in
    let wide = half_fits a.side a.half_a r.even r.half_a in
    let high = half_fits a.side a.half_b r.even r.half_b in
    let below = half_below a.side (a.half_b * (a.side / 2)) b r.even high (omega arith) in
    search rules

pub loop-b-preserved : goal.loop-b-preserved
loop-b-preserved c =
    let a = c.args in
    let s = a.side in
    let b = c.loop-b.b in
    let size : s * b + s - s * b ≡ s = omega arith in
    let fits : s * b + s ≤ length c.loop-b.into = omega (arith, row_fits s s b (omega arith)) in
    pieces_more (λ k j. face_cell (grid_with s a.values.now) a.face (a.half_a * (s / 2) + k / 2) (a.half_b * (s / 2) + j / 2)) c.loop-b.into
    c.double_face_row.new.into s b _ size fits (omega arith) c.double_face_row.ensures c.loop-b.invariant

pub returns : goal.returns
returns c =
    let a = c.args in
    doubled_face_is (grid_with a.side a.values.now) a.face a.half_a a.half_b c.loop-b.into (omega arith)
    (λ k j hk hj. c.loop-b.invariant k j hk (omega arith))
