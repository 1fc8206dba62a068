-- Octants: parts of half the side.
use Rattle.std.proofs.Common.{◌≡◌, ℕ, ◌+◌, ◌-◌, ◌*◌, ◌/◌, ◌%◌, ◌^◌, ◌<◌, ◌≤◌, arith, ap, sym, ◌∙◌, refl, List, length, get_or, cond, eqb, Bool, true, false, inl, inr, ◌&&◌, take, drop, ◌++◌}
use Rattle.std.proofs.lemmas.List.{get_or-take, get_or-drop, get_or_append_left, get_or-append_right, length-take-le}
use Rattle.std.specs.List.{between}
use Rattle.std.proofs.lemmas.List.Edits.{get_or-between}
use borrow.Rule.Slice.PartMut.{put_mid}
use Rattle.std.proofs.lemmas.Bool.{cases_lt, cases_eq, false≢true}
use Rattle.std.proofs.lemmas.Bool.Decides.{nat_tests}
use Rattle.std.proofs.Math.Nat.{div-eq_of_lt, mod-eq_of_lt, div-eq_of_lt-le, div-add-mod}
use Rattle.bf_cells.specs.Grid.{Grid, IsGrid, grid_with, cell_at, table}
use Rattle.bf_cells.specs.Rows.{piece_at}
use Rattle.bf_cells.specs.Octant.{octant_x, octant_y, octant_z, octant_copy_of, mean_at, in_octant, with_octant_mean, part_cell, is_within, in_part, part_mean, part_value}
use Rattle.bf_cells.proofs.GridLemmas.{table_is, cell_small, cond_small, IsGrid-table}
use Rattle.bf_cells.proofs.PlaceLemmas.{row_place_below, row_place-mod, row_place-div, row_of_place, row_fits, cube_row_fits}
use Rattle.bf_cells.proofs.PlaneLemmas.{pieces_more, pieces_rest}

-- a grid whose rows, counted by y and then z, hold the cells of a function
pub table_by_rows : (g : Grid) (f : ℕ → ℕ → ℕ → ℕ) → length g.values ≡ g.side * g.side * g.side
    → ((k row : ℕ) → k < g.side → row < g.side * g.side → piece_at g.values g.side row k ≡ f k (row % g.side) (row / g.side))
    → g ≡ table g.side f
table_by_rows g f full rows = table_is g f full (λ x y z hx hy hz.
    let s = g.side in
    let row = y + s * z in
    rows x row hx (row_place_below s s y z hy hz)
    ∙ ap (λ b. f x b (row / s)) (row_place-mod s y z hy) ∙ ap (f x y) (row_place-div s y z hy))

-- half a coordinate, counted from where a part of half the side begins
pub half_below : (s low k : ℕ) → s % 2 ≡ 0 → low + s / 2 ≤ s → k < s → low + k / 2 < s
half_below s low k even fits below = omega arith

-- the row of a part from which a row is copied is a row of the cube
pub part_row_below : (s y0 z0 row : ℕ) → s % 2 ≡ 0 → y0 + s / 2 ≤ s → z0 + s / 2 ≤ s → row < s * s
    → y0 + row % s / 2 + s * (z0 + row / s / 2) < s * s
part_row_below s y0 z0 row even fy fz below =
    let at = row_of_place s s row below in
    row_place_below s s (y0 + row % s / 2) (z0 + row / s / 2) (half_below s y0 (row % s) even fy at.0) (half_below s z0 (row / s) even fz at.1)

-- the tests of a number against a part
pub is_within-true : (low count n : ℕ) → low ≤ n → n < low + count → is_within low count n ≡ true
is_within-true low count n above below = grind (arith, nat_tests)

pub within_from_test : (low count n : ℕ) → is_within low count n ≡ true → (low ≤ n) × (n < low + count)
within_from_test low count n holds = grind (arith, nat_tests)

pub is_within-false_below : (low count n : ℕ) → n < low → is_within low count n ≡ false
is_within-false_below low count n below = grind (arith, nat_tests)

pub is_within-false_above : (low count n : ℕ) → low + count ≤ n → is_within low count n ≡ false
is_within-false_above low count n above = grind (arith, nat_tests)

-- two tests that both hold
pub and-true : (a b : Bool) → (a && b) ≡ true → (a ≡ true) × (b ≡ true)
and-true true true e = (refl, refl)
and-true true false e = (refl, e)
and-true false b e = (e, absurd (false≢true e))

-- a part of a list that is written
pub part_written : (xs part : List ℕ) (a n k : ℕ) → a + n ≤ length xs → length part ≡ n
    → get_or (put_mid a n xs part) k 0 ≡ cond (is_within a n k) (get_or part (k - a) 0) (get_or xs k 0)
part_written xs part a n k fits len =
    let rest = drop n (drop a xs) in
    let front : length (take a xs) ≡ a = length-take-le a xs (omega arith) in
    elim (cases_lt k a) [
      | inl before ↦
          let test = is_within-false_below a n k before in
          rw test (get_or_append_left (take a xs) (part ++ rest) 0 k (omega arith) ∙ get_or-take a xs k 0 before)
      | inr from ↦ elim (cases_lt k (a + n)) [
        | inl inside ↦
            let test = is_within-true a n k from inside in
            rw test (get_or-append_right (take a xs) (part ++ rest) a k 0 front from ∙ get_or_append_left part rest 0 (k - a) (omega arith))
        | inr past ↦
            let test = is_within-false_above a n k past in
            let back : a + (n + (k - a - n)) ≡ k = omega arith in
            rw test (get_or-append_right (take a xs) (part ++ rest) a k 0 front from
            ∙ get_or-append_right part rest n (k - a) 0 len (omega arith)
            ∙ get_or-drop n (drop a xs) (k - a - n) 0 ∙ get_or-drop a xs (n + (k - a - n)) 0 ∙ ap (λ m. get_or xs m 0) back)
      ]
    ]

-- what is known of the part's values where they were written
pub within_part : (a n k m m' old : ℕ) → (k - a < n → m ≡ m') → cond (is_within a n k) m old ≡ cond (is_within a n k) m' old
within_part a n k m m' old same =
    elim (cases_lt k a) [
      | inl before ↦ let test = is_within-false_below a n k before in rw test refl
      | inr from ↦ elim (cases_lt k (a + n)) [
        | inl inside ↦ let test = is_within-true a n k from inside in rw test (same (omega arith))
        | inr past ↦ let test = is_within-false_above a n k past in rw test refl
      ]
    ]

-- a row of a cube where it crosses a part: the part's cells are written, the others stay
pub crossed : (side x0 y0 z0 y z n : ℕ) (f : ℕ → ℕ → ℕ → ℕ) (into part : List ℕ) → n ≡ side / 2 → x0 + side / 2 ≤ side
    → length into ≡ side → length part ≡ side / 2
    → (is_within y0 (side / 2) y && is_within z0 (side / 2) z) ≡ true
    → ((k : ℕ) → k < side / 2 → get_or part k 0 ≡ f k (y - y0) (z - z0))
    → (k : ℕ) → k < side
    → get_or (put_mid x0 n into part) k 0 ≡ part_value side f x0 y0 z0 (get_or into k 0) k y z
unfolding part_value in_part
crossed side x0 y0 z0 y z n f into part size fits full len across values k hk =
    let half = side / 2 in
    let both = and-true (is_within y0 half y) (is_within z0 half z) across in
    let wy = both.0 in
    let wz = both.1 in
    rw (size, wy, wz) (part_written into part x0 half k (omega arith) len ∙ within_part x0 half k _ _ _ (values (k - x0)) ∙ dropped (is_within x0 half k) _ _)
  where
    dropped : (b : Bool) (m n : ℕ) → cond b m n ≡ cond ((b && true) && true) m n
    dropped true m n = refl
    dropped false m n = refl

and_none : (a b c : Bool) → (b && c) ≡ false → (a && b && c) ≡ false
and_none true b c e = e
and_none false b c e = refl

-- a row of a cube that does not cross a part stays
pub uncrossed : (side x0 y0 z0 y z k old : ℕ) (f : ℕ → ℕ → ℕ → ℕ)
    → (is_within y0 (side / 2) y && is_within z0 (side / 2) z) ≡ false → old ≡ part_value side f x0 y0 z0 old k y z
unfolding part_value in_part
uncrossed side x0 y0 z0 y z k old f apart =
    let half = side / 2 in
    rw (and_none (is_within x0 half k) (is_within y0 half y) (is_within z0 half z) apart) refl

-- which row of a part a row of a cube crosses
pub crossed_row : (half y0 z0 y z count : ℕ) → count ≡ half * half * half → (is_within y0 half y && is_within z0 half z) ≡ true
    → half * (y - y0 + half * (z - z0)) + half ≤ count
crossed_row half y0 z0 y z count full across =
    let both = and-true (is_within y0 half y) (is_within z0 half z) across in
    cube_row_fits half (y - y0) (z - z0) count full (inside y0 y both.0) (inside z0 z both.1)
  where
    inside : (low k : ℕ) → is_within low half k ≡ true → k - low < half
    inside low k test = grind (arith, nat_tests)

-- the first rows of a cube are written where they cross a part, and the others are as before
abbrev pub AreWritten : (s x0 y0 z0 : ℕ) → (ℕ → ℕ → ℕ → ℕ) → (old : List ℕ) → (rows : ℕ) → List ℕ → Type 0
AreWritten s x0 y0 z0 f old rows into =
    ((k b : ℕ) → k < s → b < rows → piece_at into s b k ≡ part_value s f x0 y0 z0 (piece_at old s b k) k (b % s) (b / s))
    × ((k b : ℕ) → k < s → rows ≤ b → piece_at into s b k ≡ piece_at old s b k)

-- one more row
pub row_written : (s x0 y0 z0 row n : ℕ) (f : ℕ → ℕ → ℕ → ℕ) (old into part : List ℕ) → n ≡ s → row < s * s → length into ≡ s * s * s → length part ≡ s
    → ((k : ℕ) → k < s → get_or part k 0 ≡ part_value s f x0 y0 z0 (get_or (between (s * row) (s * row + s) into) k 0) k (row % s) (row / s))
    → AreWritten s x0 y0 z0 f old row into → AreWritten s x0 y0 z0 f old (row + 1) (put_mid (s * row) n into part)
row_written s x0 y0 z0 row n f old into part size below full len written before =
    let fits : s * row + s ≤ length into = omega (arith, row_fits s (s * s) row below) in
    let cell = λ (k b : ℕ). λ (v : ℕ). part_value s f x0 y0 z0 v k (b % s) (b / s) in
    let here : (k : ℕ) → k < s → get_or part k 0 ≡ cell k row (piece_at old s row k) = λ k hk.
    let inside : s * row + k < s * row + s = omega arith in
    let turned : s * row + k ≡ k + s * row = omega arith in
    written k hk
    ∙ ap (cell k row) (get_or-between into (s * row) (s * row + s) k 0 inside
    ∙ ap (λ i. get_or into i 0) turned ∙ before.1 k row hk (omega arith)) in (
      pieces_more (λ k b. cell k b (piece_at old s b k)) into part s row n size fits len here before.0,
      λ k b hk hb. pieces_rest into part s row n size fits len k b hk (omega arith) ∙ before.1 k b hk (omega arith),
    )

-- a list whose rows copy an octant makes the copy of the octant
pub octant_copy_is : (g : Grid) (octant : ℕ) (values : List ℕ) → length values ≡ g.side * g.side * g.side
    → ((k row : ℕ) → k < g.side → row < g.side * g.side → piece_at values g.side row k
    ≡ part_cell g.side g.values (octant_x octant * (g.side / 2)) (octant_y octant * (g.side / 2)) (octant_z octant * (g.side / 2)) k (row % g.side) (row / g.side))
    → record { side = g.side; values = values } ≡ octant_copy_of g octant
unfolding octant_copy_of part_cell
octant_copy_is g octant values full rows =
    let h : Grid = record { side = g.side; values = values } in
    table_by_rows h (λ x y z. cell_at g (octant_x octant * (g.side / 2) + x / 2) (octant_y octant * (g.side / 2) + y / 2) (octant_z octant * (g.side / 2) + z / 2)) full rows

-- the copy of an octant is a grid
pub IsGrid-octant_copy_of : (g : Grid) (octant : ℕ) → IsGrid g → IsGrid (octant_copy_of g octant)
unfolding octant_copy_of
IsGrid-octant_copy_of g octant valid =
    IsGrid-table g.side _ valid.even valid.low valid.high (λ x y z _ _ _. cell_small g valid
    (octant_x octant * (g.side / 2) + x / 2) (octant_y octant * (g.side / 2) + y / 2) (octant_z octant * (g.side / 2) + z / 2))

-- on one axis: a coordinate lies in a half exactly where its quotient is the half's number, and then its remainder counts from there
pub record IsHalf (half o n : ℕ) : Type 0 where
  pub test : is_within (o * half) half n ≡ eqb (n / half) o
  pub rest : eqb (n / half) o ≡ true → n - o * half ≡ n % half

pub half_axis : (half o n : ℕ) → 0 < half → n < half + half → o < 2 → IsHalf half o n
half_axis half o n pos below bit =
    elim (cases_lt n half) [
      | inl first ↦
          let q : n / half ≡ 0 = div-eq_of_lt first in
          let r : n % half ≡ n = mod-eq_of_lt first in
          elim (cases_eq o 0) [
            | inl zero ↦ rw zero (record { test = grind (arith, nat_tests); rest = λ _. omega arith })
            | inr one ↦ let is : o ≡ 1 = omega arith in rw is (record { test = grind (arith, nat_tests); rest = λ e. absurd (false≢true (grind (arith, nat_tests))) })
          ]
      | inr second ↦
          let q : n / half ≡ 1 = div-eq_of_lt-le half (omega arith) (omega arith) in
          let r : n % half ≡ n - half = let whole = div-add-mod n half in omega (arith, rw q at whole) in
          elim (cases_eq o 0) [
            | inl zero ↦ rw zero (record { test = grind (arith, nat_tests); rest = λ e. absurd (false≢true (grind (arith, nat_tests))) })
            | inr one ↦ let is : o ≡ 1 = omega arith in rw is (record { test = grind (arith, nat_tests); rest = λ _. omega arith })
          ]
    ]

-- a choice between equal values
chosen : (b : Bool) (m n m' n' : ℕ) → (b ≡ true → m ≡ m') → n ≡ n' → cond b m n ≡ cond b m' n'
chosen true m n m' n' e f = e refl
chosen false m n m' n' e f = f

-- a list whose rows hold other values in an octant makes the table with them
pub octant_table : (s octant : ℕ) (f : ℕ → ℕ → ℕ → ℕ) (old values : List ℕ) → octant < 8 → s % 2 ≡ 0 → 2 ≤ s → length values ≡ s * s * s
    → ((k row : ℕ) → k < s → row < s * s → piece_at values s row k
    ≡ part_value s f (octant_x octant * (s / 2)) (octant_y octant * (s / 2)) (octant_z octant * (s / 2)) (piece_at old s row k) k (row % s) (row / s))
    → grid_with s values ≡ table s (λ x y z. cond (in_octant s octant x y z) (f (x % (s / 2)) (y % (s / 2)) (z % (s / 2))) (cell_at (grid_with s old) x y z))
unfolding part_value in_part
octant_table s octant f old values low even two full rows =
    let half = s / 2 in
    let pos : 0 < half = omega arith in
    let twice : half + half ≡ s = omega arith in
    let at = λ (x y z : ℕ). cond (in_octant s octant x y z) (f (x % half) (y % half) (z % half)) (cell_at (grid_with s old) x y z) in
    table_by_rows (grid_with s values) at full (λ k row hk hrow.
    let y = row % s in
    let z = row / s in
    let place_is = row_of_place s s row hrow in
    let ax = half_axis half (octant_x octant) k pos (omega arith) (omega arith) in
    let ay = half_axis half (octant_y octant) y pos (omega (arith, place_is.0)) (omega arith) in
    let az = half_axis half (octant_z octant) z pos (omega (arith, place_is.1)) (omega arith) in
    let same : in_octant s octant k y z ≡ true → f (k - octant_x octant * half) (y - octant_y octant * half) (z - octant_z octant * half) ≡ f (k % half) (y % half) (z % half) = λ e.
    let outer = and-true (eqb (k / half) (octant_x octant) && eqb (y / half) (octant_y octant)) (eqb (z / half) (octant_z octant)) e in
    let inner = and-true (eqb (k / half) (octant_x octant)) (eqb (y / half) (octant_y octant)) outer.0 in
    rw (ax.rest inner.0, ay.rest inner.1, az.rest outer.1) refl
    in
    rows k row hk hrow ∙ rw (ax.test, ay.test, az.test) (chosen (in_octant s octant k y z) _ _ _ _ same (ap (λ r. get_or old (k + s * r) 0) (sym place_is.2))))

-- the same, by the numbers and lists that were read
pub octant_copy_by_lists : (g : Grid) (octant side x0 y0 z0 : ℕ) (cells values : List ℕ) → side ≡ g.side → cells ≡ g.values
    → x0 ≡ octant_x octant * (side / 2) → y0 ≡ octant_y octant * (side / 2) → z0 ≡ octant_z octant * (side / 2)
    → length values ≡ side * side * side
    → ((k row : ℕ) → k < side → row < side * side → piece_at values side row k ≡ part_cell side cells x0 y0 z0 k (row % side) (row / side))
    → grid_with side values ≡ octant_copy_of g octant
octant_copy_by_lists g octant side x0 y0 z0 cells values es ec ex ey ez full rows =
    rw es (octant_copy_is g octant values (rw es at full) (rw (ex, ey, ez, es, ec) at rows))

pub octant_mean_by_lists : (g : Grid) (octant : ℕ) (into : Grid) (side x0 y0 z0 : ℕ) (from old values : List ℕ)
    → side ≡ g.side → into.side ≡ side → from ≡ g.values → old ≡ into.values
    → x0 ≡ octant_x octant * (side / 2) → y0 ≡ octant_y octant * (side / 2) → z0 ≡ octant_z octant * (side / 2)
    → octant < 8 → side % 2 ≡ 0 → 2 ≤ side → length values ≡ side * side * side
    → ((k row : ℕ) → k < side → row < side * side → piece_at values side row k
    ≡ part_value side (part_mean side from) x0 y0 z0 (piece_at old side row k) k (row % side) (row / side))
    → grid_with side values ≡ with_octant_mean g octant into
unfolding with_octant_mean part_mean
octant_mean_by_lists g octant into side x0 y0 z0 from old values es ei ef eo ex ey ez low even two full rows =
    let made : grid_with side values ≡ with_octant_mean (grid_with side from) octant (grid_with side old) =
    octant_table side octant (part_mean side from) old values low even two full (rw (ex, ey, ez) at rows) in
    let source : grid_with side from ≡ g = ap (λ s. grid_with s from) es ∙ ap (grid_with g.side) ef in
    let target : grid_with side old ≡ into = ap (λ s. grid_with s old) (sym ei) ∙ ap (grid_with into.side) eo in
    made ∙ ap (λ h. with_octant_mean h octant (grid_with side old)) source ∙ ap (with_octant_mean g octant) target

pub eighth_small : (a b c d e f g h : ℕ) → a < 2 ^ 32 → b < 2 ^ 32 → c < 2 ^ 32 → d < 2 ^ 32 → e < 2 ^ 32 → f < 2 ^ 32 → g < 2 ^ 32
    → h < 2 ^ 32 → (a + b + c + d + e + f + g + h) / 8 < 2 ^ 32
eighth_small a b c d e f g h ha hb hc hd he hf hg hh = omega arith

-- the mean of eight small values is small
pub mean_small : (g : Grid) → IsGrid g → (x y z : ℕ) → mean_at g x y z < 2 ^ 32
mean_small g valid x y z =
    let v = cell_small g valid in
    eighth_small _ _ _ _ _ _ _ _ (v (2 * x) (2 * y) (2 * z)) (v (2 * x + 1) (2 * y) (2 * z)) (v (2 * x) (2 * y + 1) (2 * z))
    (v (2 * x + 1) (2 * y + 1) (2 * z)) (v (2 * x) (2 * y) (2 * z + 1)) (v (2 * x + 1) (2 * y) (2 * z + 1))
    (v (2 * x) (2 * y + 1) (2 * z + 1)) (v (2 * x + 1) (2 * y + 1) (2 * z + 1))

-- a grid with the means in an octant is a grid
pub IsGrid-with_octant_mean : (g : Grid) (octant : ℕ) (into : Grid) → IsGrid g → IsGrid into → IsGrid (with_octant_mean g octant into)
unfolding with_octant_mean
IsGrid-with_octant_mean g octant into valid valid' =
    IsGrid-table into.side _ valid'.even valid'.low valid'.high (λ x y z _ _ _.
    cond_small (in_octant into.side octant x y z) _ _
    (mean_small g valid (x % (into.side / 2)) (y % (into.side / 2)) (z % (into.side / 2))) (cell_small into valid' x y z))
