use Rattle.std.proofs.Common.{arith, ℕ, ◌≡◌, ◌<◌, ◌≤◌, ◌+◌, ◌-◌, ◌*◌, ◌∙◌, ap, length, get_or}
use Rattle.bf_cells.proofs.PlaneLemmas.{pieces_more}
use Rattle.bf_cells.proofs.PlaceLemmas.{row_fits}
use Rattle.bf_cells.proofs.faces.copy_at_y.Goals as goal

pub loop-z-preserved : goal.loop-z-preserved
loop-z-preserved c =
    let s = c.args.side in
    let z = c.loop-z.z in
    let values = c.args.values.now in
    let size : s * z + s - s * z ≡ s = omega arith in
    let fits : s * z + s ≤ length c.loop-z.into = omega (arith, row_fits s s z (omega arith)) in
    let same = c.copy_from_slice.ensures.after in
    let len : length c.copy_from_slice.new.self ≡ s = ap length same ∙ c.piece.ensures.len in
    let here : (k : ℕ) → k < s → get_or c.copy_from_slice.new.self k 0 ≡ get_or values (k + s * (c.args.y + s * z)) 0 = λ k hk.
    ap (λ l. get_or l k 0) same ∙ c.piece.ensures.cells k hk in
    pieces_more (λ k b. get_or values (k + s * (c.args.y + s * b)) 0) c.loop-z.into c.copy_from_slice.new.self s z _ size fits len here c.loop-z.invariant
