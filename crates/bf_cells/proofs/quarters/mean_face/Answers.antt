use Rattle.std.proofs.Common.{arith, ◌≡◌, ◌≤◌, ◌+◌, ◌-◌, ◌*◌, ◌/◌, length}
use Rattle.bf_cells.specs.Grid.{grid_with}
use Rattle.bf_cells.specs.Levels.{face_mean}
use Rattle.bf_cells.proofs.LevelLemmas.{mean_values_is}
use Rattle.bf_cells.proofs.PlaneLemmas.{pieces_more}
use Rattle.bf_cells.proofs.PlaceLemmas.{row_fits}
use Rattle.bf_cells.proofs.quarters.mean_face.Goals as goal

pub loop-b-preserved : goal.loop-b-preserved
loop-b-preserved c =
    let a = c.args in
    let half = a.side / 2 in
    let b = c.loop-b.b in
    let size : half * b + half - half * b ≡ half = omega arith in
    let fits : half * b + half ≤ length c.loop-b.into = omega (arith, row_fits half half b (omega arith)) in
    pieces_more (face_mean (grid_with a.side a.values.now) a.face) c.loop-b.into
    c.mean_face_row.new.into half b _ size fits (omega arith) c.mean_face_row.ensures c.loop-b.invariant

pub returns : goal.returns
returns c =
    let a = c.args in
    mean_values_is (grid_with a.side a.values.now) a.face c.loop-b.into (omega arith)
    (λ k j hk hj. c.loop-b.invariant k j hk (omega arith))
