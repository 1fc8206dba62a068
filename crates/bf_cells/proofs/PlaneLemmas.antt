-- Planes of cells as rows, and lists that are written piece by piece.
use Rattle.std.proofs.Common.{◌≡◌, ℕ, ◌+◌, ◌-◌, ◌*◌, ◌<◌, ◌≤◌, arith, ap, sym, ◌∙◌, refl, List, length, get_or, take, drop, ◌++◌, inl, inr, cond, eqb}
use Rattle.std.proofs.lemmas.List.{get_or-take, get_or-drop, get_or_append_left, get_or-append_right, length-take-le}
use Rattle.std.proofs.Math.Nat.{mul-le-mul_left}
use borrow.Rule.Slice.PartMut.{put_mid}
use Rattle.std.proofs.lemmas.Bool.{cases_eq}
use Rattle.std.proofs.lemmas.Bool.Decides.{nat_tests}
use Rattle.bf_cells.specs.Grid.{place}
use Rattle.bf_cells.specs.Rows.{row_cell, plane_cell, cube_cell, piece_at, piece_below_at, piece_above_at}
use Rattle.bf_cells.proofs.PlaceLemmas.{row_place_below, place_by_squares}

-- a row with what stands next to it is the row of the plane
pub row_cell-of_plane : (side y : ℕ) (cells x_low x_high y_low y_high z_low z_high row y_below y_above z_below z_above : List ℕ) (left right : ℕ)
    → length row ≡ side
    → ((k : ℕ) → k < side → get_or row k 0 ≡ piece_at cells side y k)
    → left ≡ get_or x_low y 0 → right ≡ get_or x_high y 0
    → ((k : ℕ) → k < side → get_or y_below k 0 ≡ piece_below_at cells y_low side y k)
    → ((k : ℕ) → k < side → get_or y_above k 0 ≡ piece_above_at cells y_high side side y k)
    → ((k : ℕ) → k < side → get_or z_below k 0 ≡ piece_at z_low side y k)
    → ((k : ℕ) → k < side → get_or z_above k 0 ≡ piece_at z_high side y k)
    → (x : ℕ) → x < side
    → row_cell row left right y_below y_above z_below z_above x ≡ plane_cell side cells x_low x_high y_low y_high z_low z_high x y
unfolding row_cell plane_cell
row_cell-of_plane side y cells x_low x_high y_low y_high z_low z_high row y_below y_above z_below z_above left right len cells_are left_is right_is below above z_below_is z_above_is x hx =
    let here = cells_are x hx in
    let west : cond (eqb x 0) left (get_or row (x - 1) 0) ≡ cond (eqb x 0) (get_or x_low y 0) (piece_at cells side y (x - 1)) =
    elim (cases_eq x 0) [ inl e ↦ grind (arith, nat_tests) | inr n ↦ let at = cells_are (x - 1) (omega arith) in grind (arith, nat_tests) ] in
    let east : cond (eqb (x + 1) (length row)) right (get_or row (x + 1) 0) ≡ cond (eqb (x + 1) side) (get_or x_high y 0) (piece_at cells side y (x + 1)) =
    elim (cases_eq (x + 1) side) [ inl e ↦ grind (arith, nat_tests) | inr n ↦ let at = cells_are (x + 1) (omega arith) in grind (arith, nat_tests) ] in
    let south = below x hx in
    let north = above x hx in
    let down = z_below_is x hx in
    let up = z_above_is x hx in
    rw (here, west, east, south, north, down, up) refl

-- one more piece of a list that holds a function
pub pieces_more : (f : ℕ → ℕ → ℕ) (into part : List ℕ) (size i n : ℕ) → n ≡ size → size * i + size ≤ length into
    → length part ≡ size → ((k : ℕ) → k < size → get_or part k 0 ≡ f k i)
    → ((k j : ℕ) → k < size → j < i → piece_at into size j k ≡ f k j)
    → (k j : ℕ) → k < size → j < i + 1 → piece_at (put_mid (size * i) n into part) size j k ≡ f k j
pieces_more f into part size i n same within len here before k j hk hj =
    let a = size * i in
    let rest = drop n (drop a into) in
    let front : length (take a into) ≡ a = length-take-le a into (omega arith) in
    elim (cases_eq j i) [
      | inl e ↦
          let back : k + a - a ≡ k = omega arith in
          ap (λ m. get_or (take a into ++ (part ++ rest)) (k + size * m) 0) e
          ∙ get_or-append_right (take a into) (part ++ rest) a (k + a) 0 front (omega arith)
          ∙ ap (λ m. get_or (part ++ rest) m 0) back
          ∙ get_or_append_left part rest 0 k (omega arith)
          ∙ here k hk
          ∙ ap (f k) (sym e)
      | inr other ↦
          let below : k + size * j < a = row_place_below size i k j hk (omega arith) in
          get_or_append_left (take a into) (part ++ rest) 0 (k + size * j) (omega arith)
          ∙ get_or-take a into (k + size * j) 0 below
          ∙ before k j hk (omega arith)
    ]

-- the pieces of a plane are those of the cube
pub plane_cell-of_cube : (side z : ℕ) (cells x_low x_high y_low y_high z_low z_high plane w e s n below above : List ℕ)
    → ((k : ℕ) → k < side * side → get_or plane k 0 ≡ piece_at cells (side * side) z k)
    → ((k : ℕ) → k < side → get_or w k 0 ≡ piece_at x_low side z k)
    → ((k : ℕ) → k < side → get_or e k 0 ≡ piece_at x_high side z k)
    → ((k : ℕ) → k < side → get_or s k 0 ≡ piece_at y_low side z k)
    → ((k : ℕ) → k < side → get_or n k 0 ≡ piece_at y_high side z k)
    → ((k : ℕ) → k < side * side → get_or below k 0 ≡ piece_below_at cells z_low (side * side) z k)
    → ((k : ℕ) → k < side * side → get_or above k 0 ≡ piece_above_at cells z_high (side * side) side z k)
    → (x y : ℕ) → x < side → y < side
    → plane_cell side plane w e s n below above x y ≡ cube_cell side cells x_low x_high y_low y_high z_low z_high x y z
unfolding plane_cell cube_cell
plane_cell-of_cube side z cells x_low x_high y_low y_high z_low z_high plane w e s n below above cells_are w_is e_is s_is n_is below_is above_is x y hx hy =
    let at : (a b : ℕ) → a < side → b < side → get_or plane (a + side * b) 0 ≡ get_or cells (place side a b z) 0 = λ a b ha hb.
    cells_are (a + side * b) (row_place_below side side a b ha hb) ∙ ap (λ k. get_or cells k 0) (sym (place_by_squares side a b z)) in
    let west : cond (eqb x 0) (get_or w y 0) (get_or plane (x - 1 + side * y) 0) ≡ cond (eqb x 0) (get_or x_low (y + side * z) 0) (get_or cells (place side (x - 1) y z) 0) =
    elim (cases_eq x 0) [ inl same ↦ let edge = w_is y hy in grind (arith, nat_tests) | inr other ↦ let inner = at (x - 1) y (omega arith) hy in grind (arith, nat_tests) ] in
    let east : cond (eqb (x + 1) side) (get_or e y 0) (get_or plane (x + 1 + side * y) 0) ≡ cond (eqb (x + 1) side) (get_or x_high (y + side * z) 0) (get_or cells (place side (x + 1) y z) 0) =
    elim (cases_eq (x + 1) side) [ inl same ↦ let edge = e_is y hy in grind (arith, nat_tests) | inr other ↦ let inner = at (x + 1) y (omega arith) hy in grind (arith, nat_tests) ] in
    let south : cond (eqb y 0) (get_or s x 0) (get_or plane (x + side * (y - 1)) 0) ≡ cond (eqb y 0) (get_or y_low (x + side * z) 0) (get_or cells (place side x (y - 1) z) 0) =
    elim (cases_eq y 0) [ inl same ↦ let edge = s_is x hx in grind (arith, nat_tests) | inr other ↦ let inner = at x (y - 1) hx (omega arith) in grind (arith, nat_tests) ] in
    let north : cond (eqb (y + 1) side) (get_or n x 0) (get_or plane (x + side * (y + 1)) 0) ≡ cond (eqb (y + 1) side) (get_or y_high (x + side * z) 0) (get_or cells (place side x (y + 1) z) 0) =
    elim (cases_eq (y + 1) side) [ inl same ↦ let edge = n_is x hx in grind (arith, nat_tests) | inr other ↦ let inner = at x (y + 1) hx (omega arith) in grind (arith, nat_tests) ] in
    let inside : x + side * y < side * side = row_place_below side side x y hx hy in
    let down = below_is (x + side * y) inside ∙ ap (λ k. cond (eqb z 0) (get_or z_low (x + side * y) 0) (get_or cells k 0)) (sym (place_by_squares side x y (z - 1))) in
    let up = above_is (x + side * y) inside ∙ ap (λ k. cond (eqb (z + 1) side) (get_or z_high (x + side * y) 0) (get_or cells k 0)) (sym (place_by_squares side x y (z + 1))) in
    let here = at x y hx hy in
    rw (here, west, east, south, north, down, up) refl

-- the pieces after the one that was written stay
pub pieces_rest : (into part : List ℕ) (size i n : ℕ) → n ≡ size → size * i + size ≤ length into → length part ≡ size
    → (k j : ℕ) → k < size → i < j → piece_at (put_mid (size * i) n into part) size j k ≡ piece_at into size j k
pieces_rest into part size i n same within len k j hk hj =
    let a = size * i in
    let rest = drop n (drop a into) in
    let at = k + size * j in
    let front : length (take a into) ≡ a = length-take-le a into (omega arith) in
    let next : i + 1 ≤ j = omega arith in
    let past : a + size ≤ at = omega (arith, mul-le-mul_left size next) in
    let back : a + (n + (at - a - size)) ≡ at = omega arith in
    get_or-append_right (take a into) (part ++ rest) a at 0 front (omega arith)
    ∙ get_or-append_right part rest size (at - a) 0 len (omega arith)
    ∙ get_or-drop n (drop a into) (at - a - size) 0
    ∙ get_or-drop a into (n + (at - a - size)) 0
    ∙ ap (λ m. get_or into m 0) back
