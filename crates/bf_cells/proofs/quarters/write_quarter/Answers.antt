use Rattle.std.proofs.Common.{arith, rules, ℕ, ◌≡◌, ◌<◌, ◌≤◌, ◌+◌, ◌-◌, ◌*◌, ◌/◌, ◌∙◌, ap, length, get_or}
use Rattle.std.proofs.lemmas.List.Edits.{get_or-between}
use Rattle.bf_cells.specs.Levels.{square_at, quarter_value}
use Rattle.bf_cells.specs.Rows.{piece_at}
use Rattle.bf_cells.proofs.LevelLemmas.{half_fits, with_quarter_is}
use Rattle.bf_cells.proofs.PlaneLemmas.{pieces_more, pieces_rest}
use Rattle.bf_cells.proofs.PlaceLemmas.{row_fits}
use Rattle.bf_cells.proofs.quarters.write_quarter.Goals as goal

pub write_quarter_row-requires : goal.write_quarter_row-requires
write_quarter_row-requires c =
    let a = c.args in
    let r = c.requires in
    let wide = half_fits a.side a.half_a r.even r.half_a in
    let high = half_fits a.side a.half_b r.even r.half_b in
    search rules

pub loop-b-preserved : goal.loop-b-preserved
loop-b-preserved c =
    let a = c.args in
    let s = a.side in
    let b = c.loop-b.b in
    let old = a.into.now in
    let part = c.write_quarter_row.new.into in
    let size : s * b + s - s * b ≡ s = omega arith in
    let fits : s * b + s ≤ length c.loop-b.into = omega (arith, row_fits s s b (omega arith)) in
    let len : length part ≡ s = omega arith in
    let cell = λ (k j : ℕ). λ (v : ℕ).
    quarter_value (s / 2) (a.half_a * (s / 2)) (a.half_b * (s / 2)) (square_at (s / 2) a.source.now) v k j in
    let here : (k : ℕ) → k < s → get_or part k 0 ≡ cell k b (piece_at old s b k) = λ k hk.
    let inside : s * b + k < s * b + s = omega arith in
    let turned : s * b + k ≡ k + s * b = omega arith in
    c.write_quarter_row.ensures k hk
    ∙ ap (cell k b) (get_or-between c.loop-b.into (s * b) (s * b + s) k 0 inside
    ∙ ap (λ i. get_or c.loop-b.into i 0) turned ∙ c.loop-b.invariant.1 k b hk (omega arith)) in (
      pieces_more (λ k j. cell k j (piece_at old s j k)) c.loop-b.into part s b _ size fits len here c.loop-b.invariant.0,
      λ k j hk hj. pieces_rest c.loop-b.into part s b _ size fits len k j hk (omega arith) ∙ c.loop-b.invariant.1 k j hk (omega arith),
    )

pub returns : goal.returns
returns c =
    let a = c.args in
    let r = c.requires in
    with_quarter_is a.side a.half_a a.half_b (square_at (a.side / 2) a.source.now) a.into.now c.loop-b.into r.even r.low r.half_a r.half_b
    (omega arith) (λ k j hk hj. c.loop-b.invariant.0 k j hk (omega arith))
