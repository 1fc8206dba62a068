use Rattle.std.specs.Prelude.{ℕ, ◌+◌, ◌-◌, ◌*◌, ◌/◌, ◌%◌, ◌==◌, ◌&&◌, if◌then◌else◌, Bool, List, slice_index, nat_le, nat_lt}
use Rattle.bf_cells.specs.Grid.{Grid, place, cell_at, table}

-- on which half of each axis an octant lies: its number is dx + 2 dy + 4 dz
abbrev pub octant_x : ℕ → ℕ
octant_x octant = octant % 2

abbrev pub octant_y : ℕ → ℕ
octant_y octant = octant / 2 % 2

abbrev pub octant_z : ℕ → ℕ
octant_z octant = octant / 4

-- each cell of an octant, eight times
unfoldable pub octant_copy_of : Grid → ℕ → Grid
octant_copy_of g octant =
    table g.side (λ x y z. cell_at g
    (octant_x octant * (g.side / 2) + x / 2)
    (octant_y octant * (g.side / 2) + y / 2)
    (octant_z octant * (g.side / 2) + z / 2))

-- the mean of eight cells that form a cube, rounded down; x, y, z count such cubes
abbrev pub mean_at : Grid → ℕ → ℕ → ℕ → ℕ
mean_at g x y z =
    (cell_at g (2 * x) (2 * y) (2 * z) + cell_at g (2 * x + 1) (2 * y) (2 * z)
    + cell_at g (2 * x) (2 * y + 1) (2 * z) + cell_at g (2 * x + 1) (2 * y + 1) (2 * z)
    + cell_at g (2 * x) (2 * y) (2 * z + 1) + cell_at g (2 * x + 1) (2 * y) (2 * z + 1)
    + cell_at g (2 * x) (2 * y + 1) (2 * z + 1) + cell_at g (2 * x + 1) (2 * y + 1) (2 * z + 1)) / 8

-- whether a cell of a grid with this side lies in an octant
abbrev pub in_octant : ℕ → ℕ → ℕ → ℕ → ℕ → Bool
in_octant side octant x y z =
    x / (side / 2) == octant_x octant && y / (side / 2) == octant_y octant && z / (side / 2) == octant_z octant

-- a grid in whose octant the means of all cells of another stand
unfoldable pub with_octant_mean : Grid → ℕ → Grid → Grid
with_octant_mean g octant into =
    table into.side (λ x y z.
    if in_octant into.side octant x y z
    then mean_at g (x % (into.side / 2)) (y % (into.side / 2)) (z % (into.side / 2))
    else cell_at into x y z)

-- a cell of a part of a cube, by its place when each cell of the part fills eight; the part begins at x0, y0, z0
unfoldable pub part_cell : ℕ → List ℕ → ℕ → ℕ → ℕ → ℕ → ℕ → ℕ → ℕ
part_cell side values x0 y0 z0 x y z = slice_index values (place side (x0 + x / 2) (y0 + y / 2) (z0 + z / 2))

-- whether a number is one of `count` from `low` on
abbrev pub is_within : ℕ → ℕ → ℕ → Bool
is_within low count n = nat_le low n && nat_lt n (low + count)

-- whether a cell lies in the part that begins at x0, y0, z0 and has half the side
unfoldable pub in_part : ℕ → ℕ → ℕ → ℕ → ℕ → ℕ → ℕ → Bool
in_part side x0 y0 z0 x y z =
    is_within x0 (side / 2) x && is_within y0 (side / 2) y && is_within z0 (side / 2) z

-- the mean of eight cells of a cube that is given by its list
unfoldable pub part_mean : ℕ → List ℕ → ℕ → ℕ → ℕ → ℕ
part_mean side values = mean_at (record { side = side; values = values })

-- the mean of eight cells that stand in four rows, by y and then by z
unfoldable pub mean_of_rows : List ℕ → List ℕ → List ℕ → List ℕ → ℕ → ℕ
mean_of_rows first second third fourth k =
    (slice_index first (2 * k) + slice_index first (2 * k + 1) + slice_index second (2 * k) + slice_index second (2 * k + 1)
    + slice_index third (2 * k) + slice_index third (2 * k + 1) + slice_index fourth (2 * k) + slice_index fourth (2 * k + 1)) / 8

-- a cell of a cube in whose part other values stand, which count from where the part begins; it was `old` before
unfoldable pub part_value : ℕ → (ℕ → ℕ → ℕ → ℕ) → ℕ → ℕ → ℕ → ℕ → ℕ → ℕ → ℕ → ℕ
part_value side f x0 y0 z0 old x y z = if in_part side x0 y0 z0 x y z then f (x - x0) (y - y0) (z - z0) else old
