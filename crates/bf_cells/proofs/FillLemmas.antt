-- A grid whose row was filled in part.
use Rattle.std.proofs.Common.{◌≡◌, ◌≢◌, ℕ, ◌+◌, ◌*◌, ◌/◌, ◌%◌, ◌<◌, ◌≤◌, arith, ap, sym, ◌∙◌, List, length, get_or, cond, eqb, ltb, leb, Bool, false, inl, inr, ◌&&◌}
use Rattle.std.proofs.lemmas.List.{length-append, length-take, length-drop}
use Rattle.std.proofs.lemmas.List.Edits.{get_or-between, length-between}
use Rattle.std.specs.List.{between}
use borrow.Rule.Slice.PartMut.{put_mid}
use Rattle.std.proofs.lemmas.Bool.{cases_lt, cases_eq}
use Rattle.std.proofs.lemmas.Bool.Decides.{nat_tests}
use Rattle.bf_cells.specs.Grid.{Grid, grid_with, place, cell_at, with_row}
use Rattle.bf_cells.specs.Rows.{piece_at}
use Rattle.bf_cells.proofs.PlaceLemmas.{row_place_below, row_place-mod, row_place-div, row_of_place, row_fits}
use Rattle.bf_cells.proofs.PlaneLemmas.{pieces_more, pieces_rest}
use Rattle.bf_cells.proofs.OctantLemmas.{table_by_rows}

-- another row is not the one at y and z
other_row : (s r y z : ℕ) (p : Bool) → r % s + s * (r / s) ≡ r → r ≢ y + s * z → (p && eqb (r % s) y && eqb (r / s) z) ≡ false
other_row s r y z p whole apart =
    elim (cases_eq (r % s) y) [
      | inl ey ↦ elim (cases_eq (r / s) z) [
        | inl ez ↦ absurd (apart (sym whole ∙ ap (λ n. n + s * (r / s)) ey ∙ ap (λ n. y + s * n) ez))
        | inr nz ↦ grind (arith, nat_tests)
      ]
      | inr ny ↦ grind (arith, nat_tests)
    ]

-- the row at y and z passes both tests
same_row : (s y z : ℕ) (p : Bool) → y < s → (p && eqb ((y + s * z) % s) y && eqb ((y + s * z) / s) z) ≡ p
same_row s y z p hy =
    let ey = row_place-mod s y z hy in
    let ez = row_place-div s y z hy in
    rw (ey, ez) (grind (arith, nat_tests))

-- a row that was filled in part, in its place in the list
pub with_row_is : (s from end y z value n : ℕ) (old row : List ℕ) → n ≡ s → length old ≡ s * s * s → y < s → z < s → length row ≡ s
    → length (put_mid (s * (y + s * z)) n old row) ≡ s * s * s
    → ((k : ℕ) → k < s → get_or row k 0 ≡ cond (leb from k && ltb k end) value (get_or (between (s * (y + s * z)) (s * (y + s * z) + s) old) k 0))
    → grid_with s (put_mid (s * (y + s * z)) n old row) ≡ with_row (grid_with s old) from end y z value
unfolding with_row
with_row_is s from end y z value n old row size full hy hz len whole filled =
    let i = y + s * z in
    let new = put_mid (s * i) n old row in
    let cell = λ (a b c : ℕ). cond (leb from a && ltb a end && eqb b y && eqb c z) value (cell_at (grid_with s old) a b c) in
    let f = λ (k r : ℕ). cell k (r % s) (r / s) in
    let below : i < s * s = row_place_below s s y z hy hz in
    let fits : s * i + s ≤ length old = omega (arith, row_fits s (s * s) i below) in
    let stays : (k r : ℕ) → k < s → r < s * s → r ≢ i → piece_at old s r k ≡ f k r = λ k r hk hr apart.
    let at = row_of_place s s r hr in
    let where_is : get_or old (k + s * r) 0 ≡ get_or old (place s k (r % s) (r / s)) 0 = ap (λ m. get_or old (k + s * m) 0) (sym at.2) in
    rw (other_row s r y z (leb from k && ltb k end) at.2 apart) where_is in
    let here : (k : ℕ) → k < s → get_or row k 0 ≡ f k i = λ k hk.
    let at = row_of_place s s i below in
    let inside : s * i + k < s * i + s = omega arith in
    let turned : s * i + k ≡ k + s * i = omega arith in
    let was : get_or (between (s * i) (s * i + s) old) k 0 ≡ get_or old (place s k (i % s) (i / s)) 0 =
    get_or-between old (s * i) (s * i + s) k 0 inside ∙ ap (λ m. get_or old m 0) turned ∙ ap (λ m. get_or old (k + s * m) 0) (sym at.2) in
    filled k hk ∙ ap (cond (leb from k && ltb k end) value) was
    ∙ ap (λ b. cond b value (get_or old (place s k (i % s) (i / s)) 0)) (sym (same_row s y z (leb from k && ltb k end) hy)) in
    table_by_rows (grid_with s new) cell whole (λ k r hk hr.
    elim (cases_lt r (i + 1)) [
      | inl done ↦ pieces_more f old row s i n size fits len here (λ k' j hk' hj. stays k' j hk' (omega arith) (omega arith)) k r hk done
      | inr rest ↦ pieces_rest old row s i n size fits len k r hk (omega arith) ∙ stays k r hk hr (omega arith)
    ])

-- a part that is written keeps the length of the list
pub length-put_mid : (a n : ℕ) (xs ys : List ℕ) → a + n ≤ length xs → length ys ≡ n → length (put_mid a n xs ys) ≡ length xs
length-put_mid a n xs ys fits len = simp (length-append, length-take, length-drop) (omega arith)

-- the same, by the numbers and lists that were read
pub with_row_by_lists : (g : Grid) (s start from end y z value n : ℕ) (old row items : List ℕ) → s ≡ g.side → old ≡ g.values
    → start ≡ s * (y + s * z) → n ≡ s → length old ≡ s * s * s → y < s → z < s → length row ≡ length (between start (start + s) old)
    → items ≡ put_mid start n old row
    → ((k : ℕ) → k < length (between start (start + s) old)
    → get_or row k 0 ≡ cond (leb from k && ltb k end) value (get_or (between start (start + s) old) k 0))
    → grid_with s items ≡ with_row g from end y z value
with_row_by_lists g s start from end y z value n old row items es eo ea size full hy hz len held filled =
    let a = s * (y + s * z) in
    let fits : a + s ≤ length old = omega (arith, row_fits s (s * s) (y + s * z) (row_place_below s s y z hy hz)) in
    let whole : length (between a (a + s) old) ≡ s = length-between old a (a + s) fits ∙ omega arith in
    let row_len : length row ≡ s = (rw ea at len) ∙ whole in
    let filled_here = rw ea at filled in
    let kept : length (put_mid a n old row) ≡ s * s * s = length-put_mid a n old row (omega arith) (omega arith) ∙ full in
    let source : grid_with s old ≡ g = ap (λ k. grid_with k old) es ∙ ap (grid_with g.side) eo in
    ap (grid_with s) (held ∙ ap (λ k. put_mid k n old row) ea)
    ∙ with_row_is s from end y z value n old row size full hy hz row_len kept (λ k hk. filled_here k (omega arith))
    ∙ ap (λ h. with_row h from end y z value) source
