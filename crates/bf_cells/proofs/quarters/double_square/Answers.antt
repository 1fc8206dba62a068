use Rattle.std.proofs.Common.{arith, ℕ, ◌≡◌, ◌<◌, ◌≤◌, ◌+◌, ◌-◌, ◌*◌, ◌/◌, ◌∙◌, length, get_or}
use Rattle.bf_cells.specs.Levels.{square_at}
use Rattle.bf_cells.proofs.LevelLemmas.{doubled_square_is}
use Rattle.bf_cells.proofs.PlaneLemmas.{pieces_more}
use Rattle.bf_cells.proofs.PlaceLemmas.{row_fits}
use Rattle.bf_cells.proofs.quarters.double_square.Goals as goal

pub piece-requires : goal.piece-requires
piece-requires c =
    let half = c.args.side / 2 in
    omega (arith, row_fits half half (c.loop-b.b / 2) (omega arith))

pub loop-b-preserved : goal.loop-b-preserved
loop-b-preserved c =
    let a = c.args in
    let s = a.side in
    let b = c.loop-b.b in
    let size : s * b + s - s * b ≡ s = omega arith in
    let fits : s * b + s ≤ length c.loop-b.into = omega (arith, row_fits s s b (omega arith)) in
    let here : (k : ℕ) → k < s → get_or c.double_row.new.into k 0 ≡ square_at (s / 2) a.source.now (k / 2) (b / 2) = λ k hk.
    c.double_row.ensures k (omega arith) ∙ c.piece.ensures.cells (k / 2) (omega arith) in
    pieces_more (λ k j. square_at (s / 2) a.source.now (k / 2) (j / 2)) c.loop-b.into
    c.double_row.new.into s b _ size fits (omega arith) here c.loop-b.invariant

pub returns : goal.returns
returns c =
    let a = c.args in
    doubled_square_is a.side a.source.now c.loop-b.into (omega arith)
    (λ k j hk hj. c.loop-b.invariant k j hk (omega arith))
