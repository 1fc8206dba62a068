-- Walls between blocks that are one level apart. The halves of a face along each of its two axes are 0 and 1.
use Rattle.std.specs.Prelude.{ℕ, ◌+◌, ◌-◌, ◌*◌, ◌/◌, ◌%◌, ◌==◌, ◌&&◌, if◌then◌else◌, Bool, List, slice_index}
use Rattle.bf_face.specs.declared.face.Face.{Face}
use Rattle.bf_face.specs.declared.face.Face.TheVariants.{XLow, XHigh, YLow, YHigh, ZLow, ZHigh}
use Rattle.bf_cells.specs.Grid.{Grid}
use Rattle.bf_cells.specs.Octant.{mean_at, is_within}
use Rattle.bf_cells.specs.Shell.{face_cell, square, wall_place}

-- a quarter of a grid's face, each cell at four places
unfoldable pub doubled_face : Grid → Face → ℕ → ℕ → List ℕ
doubled_face g face half_a half_b =
    square g.side (λ a b. face_cell g face (half_a * (g.side / 2) + a / 2) (half_b * (g.side / 2) + b / 2))

-- the mean of the eight cells that form a cube next to a grid's face, rounded down; a, b count such cubes along the face
unfoldable pub face_mean : Grid → Face → ℕ → ℕ → ℕ
face_mean g XLow a b = mean_at g 0 a b
face_mean g XHigh a b = mean_at g (g.side / 2 - 1) a b
face_mean g YLow a b = mean_at g a 0 b
face_mean g YHigh a b = mean_at g a (g.side / 2 - 1) b
face_mean g ZLow a b = mean_at g a b 0
face_mean g ZHigh a b = mean_at g a b (g.side / 2 - 1)

-- a quarter of a grid's face, as a square of half the side
unfoldable pub quarter_values : Grid → Face → ℕ → ℕ → List ℕ
quarter_values g face half_a half_b =
    square (g.side / 2) (λ a b. face_cell g face (half_a * (g.side / 2) + a) (half_b * (g.side / 2) + b))

-- the means of all cubes of eight cells next to a grid's face, as a square of half the side
unfoldable pub mean_values : Grid → Face → List ℕ
mean_values g face = square (g.side / 2) (face_mean g face)

-- a value of a square of this side
abbrev pub square_at : ℕ → List ℕ → ℕ → ℕ → ℕ
square_at side values a b = slice_index values (wall_place side a b)

-- a square in which each value of one of half the side stands at four places
unfoldable pub doubled_square : ℕ → List ℕ → List ℕ
doubled_square side values = square side (λ a b. square_at (side / 2) values (a / 2) (b / 2))

-- whether a place of a square with this side lies in a quarter
abbrev pub in_quarter : ℕ → ℕ → ℕ → ℕ → ℕ → Bool
in_quarter side half_a half_b a b = a / (side / 2) == half_a && b / (side / 2) == half_b

-- a square in whose quarter other values stand, which are counted from the quarter's beginning
unfoldable pub with_quarter : ℕ → ℕ → ℕ → (ℕ → ℕ → ℕ) → List ℕ → List ℕ
with_quarter side half_a half_b value wall =
    square side (λ a b.
    if in_quarter side half_a half_b a b
    then value (a % (side / 2)) (b % (side / 2))
    else slice_index wall (wall_place side a b))

-- a value of such a square, where the quarter begins at a0, b0; it was `old` before
abbrev pub quarter_value : ℕ → ℕ → ℕ → (ℕ → ℕ → ℕ) → ℕ → ℕ → ℕ → ℕ
quarter_value half a0 b0 value old a b =
    if is_within b0 half b then (if is_within a0 half a then value (a - a0) (b - b0) else old) else old
