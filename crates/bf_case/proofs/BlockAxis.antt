-- Steps along one axis, from a cell of a block to the next one, which may lie beyond the block's wall.
use Rattle.std.proofs.Common.{◌≡◌, ℕ, zero, suc, ◌+◌, ◌-◌, ◌*◌, ◌<◌, ◌≤◌, ◌≢◌, cond, eqb, sym, ◌∙◌, ap, arith, inl, inr}
use Rattle.std.proofs.lemmas.Bool.{cases_order}
use Rattle.bf_id.specs.Axis.{Axis, is_first, is_last, back, on}
use Rattle.bf_id.proofs.Steps.{choose-same, choose-other, first-elsewhere, last-elsewhere, not_first, not_last, back-inner, on-inner}

-- only the first cell begins at 0
not_at_0 : (start scale x : ℕ) → 0 < scale → start + suc x * scale ≢ 0
not_at_0 start scale x wide e = omega (arith, e)

one_back : (start scale x : ℕ) → start + suc x * scale - scale ≡ start + x * scale
one_back start scale x = omega arith

-- the neighbour below: beyond the wall at the block's first cell, and else inside the block
pub below_along : (axis : Axis) (at own : ℕ → ℕ) (start scale side x wall : ℕ) → 0 < scale → x < side
    → ((u : ℕ) → u < side → at (start + u * scale) ≡ own u)
    → wall ≡ cond (is_first axis (start + 0 * scale)) (own 0) (at (back axis scale (start + 0 * scale)))
    → cond (is_first axis (start + x * scale)) (at (start + x * scale)) (at (back axis scale (start + x * scale))) ≡ cond (eqb x 0) wall (own (x - 1))
below_along axis at own start scale side zero wall wide small inside beyond =
    ap (λ n. cond (is_first axis (start + 0 * scale)) n (at (back axis scale (start + 0 * scale)))) (inside 0 small) ∙ sym beyond
below_along axis at own start scale side (suc x) wall wide small inside beyond =
    first-elsewhere axis (start + suc x * scale) _ _ (not_first axis (start + suc x * scale) (not_at_0 start scale x wide))
    ∙ ap at (back-inner axis scale (start + suc x * scale) (not_at_0 start scale x wide) ∙ one_back start scale x) ∙ inside x (omega arith)
    ∙ ap own (let e : x ≡ suc x - 1 = omega arith in e) ∙ sym (choose-other (suc x) 0 wall (own (suc x - 1)) (λ e. omega arith))

-- only the last cell ends where the block does
ends_before : (start scale x more end : ℕ) → 0 < scale → start + (x + 1 + suc more) * scale ≤ end → start + x * scale + scale ≢ end
ends_before start scale x more end wide fits e = omega (arith, e)

one_on : (start scale x : ℕ) → start + x * scale + scale ≡ start + (x + 1) * scale
one_on start scale x = omega arith

-- the neighbour above, likewise; the domain ends where the block does, or later
pub above_along : (axis : Axis) (at own : ℕ → ℕ) (start scale side x wall : ℕ) → 0 < scale → x < side → start + side * scale ≤ axis.extent
    → ((u : ℕ) → u < side → at (start + u * scale) ≡ own u)
    → wall ≡ cond (is_last axis (start + (side - 1) * scale + scale)) (own (side - 1)) (at (on axis scale (start + (side - 1) * scale)))
    → cond (is_last axis (start + x * scale + scale)) (at (start + x * scale)) (at (on axis scale (start + x * scale))) ≡ cond (eqb (x + 1) side) wall (own (x + 1))
above_along axis at own start scale side x wall wide small fits inside beyond =
    elim (cases_order (x + 1) side) [
      | inl last ↦ let e : side - 1 ≡ x = omega arith in
          ap (λ n. cond (is_last axis (start + x * scale + scale)) n (at (on axis scale (start + x * scale)))) (inside x small)
          ∙ sym (rw e at beyond) ∙ sym (choose-same (x + 1) side wall (own (x + 1)) last)
      | inr more ↦ let later : x + 1 < side = elim more [ inl lt ↦ lt | inr gt ↦ absurd (omega arith) ] in
          let rest : side ≡ x + 1 + suc (side - (x + 1) - 1) = omega arith in
          let before = ends_before start scale x (side - (x + 1) - 1) axis.extent wide (rw rest at fits) in
          last-elsewhere axis (start + x * scale + scale) _ _ (not_last axis (start + x * scale + scale) before)
          ∙ ap at (on-inner axis scale (start + x * scale) before ∙ one_on start scale x) ∙ inside (x + 1) later
          ∙ sym (choose-other (x + 1) side wall (own (x + 1)) (λ f. omega arith))
    ]
