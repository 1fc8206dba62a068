-- Walls by their face, and a grid's own cells on a face.
use Rattle.std.proofs.Common.{◌≡◌, ◌≢◌, ℕ, ◌+◌, ◌-◌, ◌*◌, ◌/◌, ◌%◌, ◌^◌, ◌<◌, ◌≤◌, arith, ap, refl, sym, ◌∙◌, zero-add, subst, List, length, get_or, replicate, set, lit<, inl, inr}
use Rattle.std.proofs.lemmas.List.FromFn.{length-map-range_with_len, get_or-map-range_with_len, fill_by_all}
use Rattle.std.proofs.lemmas.List.{get_or_past, length-replicate, length-set}
use Rattle.std.proofs.lemmas.List.Elements.{All-from_get_or, All-replicate, All-set}
use Rattle.std.proofs.lemmas.Bool.{cases_lt}
use Rattle.bf_face.specs.declared.face.Face.{Face}
use Rattle.bf_face.specs.declared.face.Face.TheVariants.{XLow, XHigh, YLow, YHigh, ZLow, ZHigh}
use Rattle.bf_cells.specs.Grid.{Grid, IsGrid, grid_with}
use Rattle.bf_cells.specs.Shell.{Walls, IsWall, IsShell, wall_at, wall_of, with_wall, wall_place, blank_walls, face_cell, face_values, square}
use Rattle.bf_cells.proofs.PlaceLemmas.{row_place_below, row_place-mod, row_place-div, row_of_place}
use Rattle.bf_cells.proofs.GridLemmas.{cell_small}

-- the square of a face after it was replaced
pub wall_of-with_wall_same : (w : Walls) (face : Face) (wall : List ℕ) → wall_of (with_wall w face wall) face ≡ wall
wall_of-with_wall_same w XLow wall = refl
wall_of-with_wall_same w XHigh wall = refl
wall_of-with_wall_same w YLow wall = refl
wall_of-with_wall_same w YHigh wall = refl
wall_of-with_wall_same w ZLow wall = refl
wall_of-with_wall_same w ZHigh wall = refl

-- the square of another face
pub wall_of-with_wall_other : (w : Walls) (face other : Face) (wall : List ℕ) → other ≢ face
    → wall_of (with_wall w face wall) other ≡ wall_of w other
wall_of-with_wall_other w XLow XLow wall apart = absurd (apart refl)
wall_of-with_wall_other w XHigh XHigh wall apart = absurd (apart refl)
wall_of-with_wall_other w YLow YLow wall apart = absurd (apart refl)
wall_of-with_wall_other w YHigh YHigh wall apart = absurd (apart refl)
wall_of-with_wall_other w ZLow ZLow wall apart = absurd (apart refl)
wall_of-with_wall_other w ZHigh ZHigh wall apart = absurd (apart refl)
wall_of-with_wall_other w face other wall apart = refl

pub side-with_wall : (w : Walls) (face : Face) (wall : List ℕ) → (with_wall w face wall).side ≡ w.side
side-with_wall w XLow wall = refl
side-with_wall w XHigh wall = refl
side-with_wall w YLow wall = refl
side-with_wall w YHigh wall = refl
side-with_wall w ZLow wall = refl
side-with_wall w ZHigh wall = refl

-- a value beside a face after its square or that of another face was replaced
pub wall_at-with_wall_same : (w : Walls) (face : Face) (wall : List ℕ) (a b : ℕ) → wall_at (with_wall w face wall) face a b ≡ get_or wall (wall_place w.side a b) 0
wall_at-with_wall_same w face wall a b =
    ap (λ l. get_or l (wall_place (with_wall w face wall).side a b) 0) (wall_of-with_wall_same w face wall)
    ∙ ap (λ s. get_or wall (wall_place s a b) 0) (side-with_wall w face wall)

pub wall_at-with_wall_other : (w : Walls) (face other : Face) (wall : List ℕ) (a b : ℕ) → other ≢ face → wall_at (with_wall w face wall) other a b ≡ wall_at w other a b
wall_at-with_wall_other w face other wall a b apart =
    ap (λ l. get_or l (wall_place (with_wall w face wall).side a b) 0) (wall_of-with_wall_other w face other wall apart)
    ∙ ap (λ s. get_or (wall_of w other) (wall_place s a b) 0) (side-with_wall w face wall)

-- walls of one side whose squares are the same are the same
pub same_walls : (w v : Walls) → w.side ≡ v.side → ((face : Face) → wall_of w face ≡ wall_of v face) → w ≡ v
same_walls w v side walls =
    ap (λ s. record w { side = s }) side
    ∙ ap (λ l. record w { side = v.side; x_low = l }) (walls XLow)
    ∙ ap (λ l. record w { side = v.side; x_low = v.x_low; x_high = l }) (walls XHigh)
    ∙ ap (λ l. record v { y_low = l; y_high = w.y_high; z_low = w.z_low; z_high = w.z_high }) (walls YLow)
    ∙ ap (λ l. record v { y_high = l; z_low = w.z_low; z_high = w.z_high }) (walls YHigh)
    ∙ ap (λ l. record v { z_low = l; z_high = w.z_high }) (walls ZLow)
    ∙ ap (λ l. record v { z_high = l }) (walls ZHigh)

-- what holds of a square that is laid, and of each square before, holds of each square after
of_each_wall : (P : List ℕ → Type 0) (w : Walls) (face : Face) (wall : List ℕ) → P wall → ((other : Face) → P (wall_of w other))
    → (other : Face) → P (wall_of (with_wall w face wall) other)
of_each_wall P w XLow wall new old XLow = new
of_each_wall P w XHigh wall new old XHigh = new
of_each_wall P w YLow wall new old YLow = new
of_each_wall P w YHigh wall new old YHigh = new
of_each_wall P w ZLow wall new old ZLow = new
of_each_wall P w ZHigh wall new old ZHigh = new
of_each_wall P w face wall new old other = old other

-- a square in the place of another leaves walls that are full
pub IsShell-with_wall : (w : Walls) (face : Face) (wall : List ℕ) → IsShell w → IsWall w.side wall → IsShell (with_wall w face wall)
IsShell-with_wall w face wall valid full =
    let side = side-with_wall w face wall in record {
      even = rw side valid.even;
      low = rw side valid.low;
      high = rw side valid.high;
      full = subst (λ s. (other : Face) → IsWall s (wall_of (with_wall w face wall) other)) (sym side) (of_each_wall (IsWall w.side) w face wall full valid.full);
    }

-- a full square with another value
pub IsWall-set : (side : ℕ) (wall : List ℕ) (at value : ℕ) → IsWall side wall → value < 2 ^ 32 → IsWall side (set wall at value)
IsWall-set side wall at value valid small = record {
  full = length-set wall at value ∙ valid.full;
  small = All-set (λ v. v < 2 ^ 32) wall at value small valid.small;
}

-- walls of zeros
wall_of-blank : (side : ℕ) (face : Face) → wall_of (blank_walls side) face ≡ replicate (side * side) 0
wall_of-blank side XLow = refl
wall_of-blank side XHigh = refl
wall_of-blank side YLow = refl
wall_of-blank side YHigh = refl
wall_of-blank side ZLow = refl
wall_of-blank side ZHigh = refl

pub IsShell-blank : (side : ℕ) → side % 2 ≡ 0 → 2 ≤ side → side ≤ 16 → IsShell (blank_walls side)
IsShell-blank side even low high = record {
  even = even;
  low = low;
  high = high;
  full = λ face. subst (IsWall side) (sym (wall_of-blank side face)) (record {
    full = length-replicate (side * side) 0;
    small = All-replicate (λ v. v < 2 ^ 32) (side * side) 0 (lit< tt);
  });
}

-- a square that is made of a function
pub length-square : (s : ℕ) (f : ℕ → ℕ → ℕ) → length (square s f) ≡ s * s
length-square s f = length-map-range_with_len (λ k. f (k % s) (k / s)) 0 (s * s)

pub get_or-square : (s : ℕ) (f : ℕ → ℕ → ℕ) (a b : ℕ) → a < s → b < s → get_or (square s f) (wall_place s a b) 0 ≡ f a b
get_or-square s f a b ha hb =
    let k = wall_place s a b in
    get_or-map-range_with_len (λ k. f (k % s) (k / s)) 0 (s * s) k k 0 (row_place_below s s a b ha hb) (zero-add k)
    ∙ ap (λ c. f c (k / s)) (row_place-mod s a b ha) ∙ ap (f a) (row_place-div s a b ha)

-- a full list with the values of a function is its square
pub square_is : (s : ℕ) (f : ℕ → ℕ → ℕ) (wall : List ℕ) → length wall ≡ s * s
    → ((a b : ℕ) → a < s → b < s → get_or wall (wall_place s a b) 0 ≡ f a b) → wall ≡ square s f
square_is s f wall full values =
    fill_by_all (λ k. f (k % s) (k / s)) wall (s * s) 0 full (λ k h.
    let at = row_of_place s s k h in
    ap (λ i. get_or wall i 0) (sym at.2) ∙ values (k % s) (k / s) at.0 at.1)

-- a square of small values is a wall
pub IsWall-square : (s : ℕ) (f : ℕ → ℕ → ℕ) → ((a b : ℕ) → f a b < 2 ^ 32) → IsWall s (square s f)
IsWall-square s f small = record {
  full = length-square s f;
  small = All-from_get_or (λ v. v < 2 ^ 32) (square s f) 0 (λ k h.
      let within : k < s * s = omega (arith, length-square s f) in
      let made = get_or-map-range_with_len (λ k. f (k % s) (k / s)) 0 (s * s) k k 0 within (zero-add k) in
      omega (arith, made, small (k % s) (k / s)));
}

-- a grid's own cells on a face
pub get_or-face_values : (g : Grid) (face : Face) (a b : ℕ) → a < g.side → b < g.side
    → get_or (face_values g face) (wall_place g.side a b) 0 ≡ face_cell g face a b
unfolding face_values
get_or-face_values g face a b ha hb = get_or-square g.side (face_cell g face) a b ha hb

pub length-face_values : (g : Grid) (face : Face) → length (face_values g face) ≡ g.side * g.side
unfolding face_values
length-face_values g face = length-square g.side (face_cell g face)

pub face_cell_small : (g : Grid) → IsGrid g → (face : Face) (a b : ℕ) → face_cell g face a b < 2 ^ 32
unfolding face_cell
face_cell_small g valid XLow a b = cell_small g valid 0 a b
face_cell_small g valid XHigh a b = cell_small g valid (g.side - 1) a b
face_cell_small g valid YLow a b = cell_small g valid a 0 b
face_cell_small g valid YHigh a b = cell_small g valid a (g.side - 1) b
face_cell_small g valid ZLow a b = cell_small g valid a b 0
face_cell_small g valid ZHigh a b = cell_small g valid a b (g.side - 1)

pub IsWall-face_values : (g : Grid) (face : Face) → IsGrid g → IsWall g.side (face_values g face)
unfolding face_values
IsWall-face_values g face valid = IsWall-square g.side (face_cell g face) (face_cell_small g valid face)

-- each value of a full square has 32 bits; past the end it counts as 0
pub wall_small : (side : ℕ) (wall : List ℕ) → IsWall side wall → (k : ℕ) → get_or wall k 0 < 2 ^ 32
wall_small side wall valid k =
    elim (cases_lt k (length wall)) [
      | inl within ↦ valid.small k 0 within
      | inr past ↦ rw (get_or_past wall k 0 past) (lit< tt)
    ]

-- a square that holds the cells of a face
pub face_values_is : (g : Grid) (face : Face) (wall : List ℕ) → length wall ≡ g.side * g.side
    → ((a b : ℕ) → a < g.side → b < g.side → get_or wall (a + g.side * b) 0 ≡ face_cell g face a b) → wall ≡ face_values g face
unfolding face_values
face_values_is g face wall full cells = square_is g.side (face_cell g face) wall full cells

-- a grid by the numbers that were read
pub read_grid : (g : Grid) (side of : ℕ) (values : List ℕ) → g.side ≡ of → side ≡ of → values ≡ g.values → grid_with side values ≡ g
read_grid g side of values sides side_is values_are = ap (λ s. grid_with s values) (side_is ∙ sym sides) ∙ ap (grid_with g.side) values_are
