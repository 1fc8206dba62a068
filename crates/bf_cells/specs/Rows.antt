use Rattle.std.specs.Prelude.{ℕ, ◌+◌, ◌-◌, ◌*◌, ◌==◌, if◌then◌else◌, List, length, slice_index}
use Rattle.bf_cells.specs.Kernel.{relaxed, relaxed_cell}

-- a cell of a row after a step: its two neighbours in x stand in the row or at its ends, the other four in rows beside it
unfoldable pub row_cell : List ℕ → ℕ → ℕ → List ℕ → List ℕ → List ℕ → List ℕ → ℕ → ℕ
row_cell cells left right y_below y_above z_below z_above k =
    relaxed (slice_index cells k) (if k == 0 then left else slice_index cells (k - 1))
    (if k + 1 == length cells then right else slice_index cells (k + 1)) (slice_index y_below k) (slice_index y_above k)
    (slice_index z_below k) (slice_index z_above k)

-- a cell inside a row, away from its ends
unfoldable pub inside_cell : List ℕ → List ℕ → List ℕ → List ℕ → List ℕ → ℕ → ℕ
inside_cell cells y_below y_above z_below z_above k =
    relaxed (slice_index cells k) (slice_index cells (k - 1)) (slice_index cells (k + 1)) (slice_index y_below k)
    (slice_index y_above k) (slice_index z_below k) (slice_index z_above k)

-- a place of one piece of a list that is cut into pieces of one size
abbrev pub piece_at : List ℕ → ℕ → ℕ → ℕ → ℕ
piece_at list size index k = slice_index list (k + size * index)

-- the same of the piece before, or of the edge where there is none
abbrev pub piece_below_at : List ℕ → List ℕ → ℕ → ℕ → ℕ → ℕ
piece_below_at list edge size index k = if index == 0 then slice_index edge k else piece_at list size (index - 1) k

-- the same of the piece after, or of the edge where there is none
abbrev pub piece_above_at : List ℕ → List ℕ → ℕ → ℕ → ℕ → ℕ → ℕ
piece_above_at list edge size count index k =
    if index + 1 == count then slice_index edge k else piece_at list size (index + 1) k

-- a cell of a plane after a step: z is one number, the walls of x and y are rows, and those of z planes
unfoldable pub plane_cell : ℕ → List ℕ → List ℕ → List ℕ → List ℕ → List ℕ → List ℕ → List ℕ → ℕ → ℕ → ℕ
plane_cell side cells x_low x_high y_low y_high z_below z_above x y =
    relaxed (piece_at cells side y x) (if x == 0 then slice_index x_low y else piece_at cells side y (x - 1))
    (if x + 1 == side then slice_index x_high y else piece_at cells side y (x + 1))
    (piece_below_at cells y_low side y x) (piece_above_at cells y_high side side y x) (piece_at z_below side y x)
    (piece_at z_above side y x)

-- a cell of a cube after a step, by the lists of the cube and its walls
unfoldable pub cube_cell : ℕ → List ℕ → List ℕ → List ℕ → List ℕ → List ℕ → List ℕ → List ℕ → ℕ → ℕ → ℕ → ℕ
cube_cell side cells x_low x_high y_low y_high z_low z_high =
    relaxed_cell (record { side = side; values = cells }) (record {
      side = side;
      x_low = x_low;
      x_high = x_high;
      y_low = y_low;
      y_high = y_high;
      z_low = z_low;
      z_high = z_high;
    })
