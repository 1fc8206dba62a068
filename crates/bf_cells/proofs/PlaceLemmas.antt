-- Places in rows, squares and cubes that lie in a list one after the other.
use Rattle.std.proofs.Common.{◌≡◌, ℕ, ◌+◌, ◌*◌, ◌/◌, ◌%◌, ◌<◌, ◌≤◌, arith, ap, sym, ◌∙◌, zero-add}
use Rattle.std.proofs.Math.Nat.{mul-le-mul_left, add-mul-mod_self_left, add-mul-div_left, mod-eq_of_lt, div-eq_of_lt, div-div-eq-div-mul, mod-add-div, mod-lt}
use Rattle.std.proofs.lemmas.Nat.{div_below}
use Rattle.bf_cells.specs.Grid.{place}

-- a place of a row that is one of n rows
pub row_place_below : (s n x y : ℕ) → x < s → y < n → x + s * y < s * n
row_place_below s n x y hx hy =
    let next : y + 1 ≤ n = omega arith in
    omega (arith, mul-le-mul_left s next)

-- which place of its row it is, and which row
pub row_place-mod : (s x y : ℕ) → x < s → (x + s * y) % s ≡ x
row_place-mod s x y hx = add-mul-mod_self_left x s y ∙ mod-eq_of_lt hx

pub row_place-div : (s x y : ℕ) → x < s → (x + s * y) / s ≡ y
row_place-div s x y hx =
    let pos : 0 < s = omega arith in
    let first : x / s ≡ 0 = div-eq_of_lt hx in
    add-mul-div_left x y pos ∙ ap (λ n. n + y) first ∙ zero-add y

-- a place below n rows is a place of one of them
pub row_of_place : (s n k : ℕ) → k < s * n → (k % s < s) × (k / s < n) × (k % s + s * (k / s) ≡ k)
row_of_place s n k h =
    let pos : 0 < s = grind arith in
    (mod-lt k pos, div_below k s n pos (omega arith), mod-add-div k s)

-- a place of a cube
pub place_below : (s x y z : ℕ) → x < s → y < s → z < s → place s x y z < s * s * s
place_below s x y z hx hy hz =
    let inner : y + s * z < s * s = row_place_below s s y z hy hz in
    let outer : x + s * (y + s * z) < s * (s * s) = row_place_below s (s * s) x (y + s * z) hx inner in
    omega arith

-- the coordinates of a place
pub place-x : (s x y z : ℕ) → x < s → place s x y z % s ≡ x
place-x s x y z hx = row_place-mod s x (y + s * z) hx

pub place-y : (s x y z : ℕ) → x < s → y < s → place s x y z / s % s ≡ y
place-y s x y z hx hy = ap (λ n. n % s) (row_place-div s x (y + s * z) hx) ∙ row_place-mod s y z hy

pub place-z : (s x y z : ℕ) → x < s → y < s → place s x y z / (s * s) ≡ z
place-z s x y z hx hy =
    sym (div-div-eq-div-mul (place s x y z) s s) ∙ ap (λ n. n / s) (row_place-div s x (y + s * z) hx) ∙ row_place-div s y z hy

-- each place of a cube has coordinates
pub record HasCoordinates (s k : ℕ) : Type 0 where
  pub x_below : k % s < s
  pub y_below : k / s % s < s
  pub z_below : k / (s * s) < s
  pub is : place s (k % s) (k / s % s) (k / (s * s)) ≡ k

pub coordinates : (s k : ℕ) → k < s * s * s → HasCoordinates s k
coordinates s k h =
    let rows = row_of_place s (s * s) k (omega arith) in
    let planes = row_of_place s s (k / s) rows.1 in
    let twice : k / s / s ≡ k / (s * s) = div-div-eq-div-mul k s s in
    let whole : k / s % s + s * (k / (s * s)) ≡ k / s = ap (λ n. k / s % s + s * n) (sym twice) ∙ planes.2 in
    record {
      x_below = rows.0;
      y_below = planes.0;
      z_below = omega (arith, planes.1, twice);
      is = ap (λ n. k % s + s * n) whole ∙ rows.2;
    }

-- the same place, by squares: a place of a square, and which square
pub place_by_squares : (s x y z : ℕ) → place s x y z ≡ x + s * y + s * s * z
place_by_squares s x y z = omega arith

-- one row of n fits below n rows
pub row_fits : (s n y : ℕ) → y < n → s * y + s ≤ s * n
row_fits s n y hy =
    let next : y + 1 ≤ n = omega arith in
    omega (arith, mul-le-mul_left s next)

-- the row at y and z fits in the list of a cube
pub cube_row_fits : (s y z n : ℕ) → n ≡ s * s * s → y < s → z < s → s * (y + s * z) + s ≤ n
cube_row_fits s y z n full hy hz =
    let fits : s * (y + s * z) + s ≤ s * (s * s) = row_fits s (s * s) (y + s * z) (row_place_below s s y z hy hz) in
    omega arith
