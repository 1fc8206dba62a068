use Rattle.std.specs.Prelude.{◌≡◌, ℕ, ◌+◌, ◌-◌, ◌*◌, ◌/◌, ◌%◌, ◌^◌, ◌<◌, ◌≤◌, List, length, slice_index, slice_set, map, replicate, All}
use Rattle.std.specs.List.{range_with_len}
use Rattle.bf_face.specs.declared.face.Face.{Face}
use Rattle.bf_face.specs.declared.face.Face.TheVariants.{XLow, XHigh, YLow, YHigh, ZLow, ZHigh}
use Rattle.bf_cells.specs.Grid.{Grid, cell_at}

-- what lies outside a block, next to its six faces: one square of values for each face
pub record Walls : Type 0 where
  pub side : ℕ
  pub x_low : List ℕ
  pub x_high : List ℕ
  pub y_low : List ℕ
  pub y_high : List ℕ
  pub z_low : List ℕ
  pub z_high : List ℕ

-- one square, full of values of 32 bits
pub record IsWall (side : ℕ) (wall : List ℕ) : Type 0 where
  pub full : length wall ≡ side * side
  pub small : All (λ v. v < 2 ^ 32) wall

-- the square of a face
abbrev pub wall_of : Walls → Face → List ℕ
wall_of w XLow = w.x_low
wall_of w XHigh = w.x_high
wall_of w YLow = w.y_low
wall_of w YHigh = w.y_high
wall_of w ZLow = w.z_low
wall_of w ZHigh = w.z_high

-- the walls with another square at a face
abbrev pub with_wall : Walls → Face → List ℕ → Walls
with_wall w XLow wall = record w { x_low = wall }
with_wall w XHigh wall = record w { x_high = wall }
with_wall w YLow wall = record w { y_low = wall }
with_wall w YHigh wall = record w { y_high = wall }
with_wall w ZLow wall = record w { z_low = wall }
with_wall w ZHigh wall = record w { z_high = wall }

-- the side is even, from 2 to 16, and the square of each face is full
pub record IsShell (w : Walls) : Type 0 where
  pub even : w.side % 2 ≡ 0
  pub low : 2 ≤ w.side
  pub high : w.side ≤ 16
  pub full : (face : Face) → IsWall w.side (wall_of w face)

-- where the value next to a face's cell stands, by the cell's two other coordinates
abbrev pub wall_place : ℕ → ℕ → ℕ → ℕ
wall_place side a b = a + side * b

-- the value next to a face's cell
abbrev pub wall_at : Walls → Face → ℕ → ℕ → ℕ
wall_at w face a b = slice_index (wall_of w face) (wall_place w.side a b)

-- the walls with another value next to a face's cell
abbrev pub with_value : Walls → Face → ℕ → ℕ → ℕ → Walls
with_value w face a b value = with_wall w face (slice_set (wall_of w face) (wall_place w.side a b) value)

-- walls of zeros
abbrev pub blank_walls : ℕ → Walls
blank_walls n = record {
  side = n;
  x_low = replicate (n * n) 0;
  x_high = replicate (n * n) 0;
  y_low = replicate (n * n) 0;
  y_high = replicate (n * n) 0;
  z_low = replicate (n * n) 0;
  z_high = replicate (n * n) 0;
}

-- a grid's own cell on its face, by the two other coordinates
unfoldable pub face_cell : Grid → Face → ℕ → ℕ → ℕ
face_cell g XLow a b = cell_at g 0 a b
face_cell g XHigh a b = cell_at g (g.side - 1) a b
face_cell g YLow a b = cell_at g a 0 b
face_cell g YHigh a b = cell_at g a (g.side - 1) b
face_cell g ZLow a b = cell_at g a b 0
face_cell g ZHigh a b = cell_at g a b (g.side - 1)

-- the square whose value at a, b is f a b
abbrev pub square : ℕ → (ℕ → ℕ → ℕ) → List ℕ
square side f = map (λ k. f (k % side) (k / side)) (range_with_len 0 (side * side))

-- a grid's own cells on its face, as a square
unfoldable pub face_values : Grid → Face → List ℕ
face_values g face = square g.side (face_cell g face)
