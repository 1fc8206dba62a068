use Rattle.std.specs.Prelude.{ℕ, ◌+◌, ◌-◌, ◌*◌, ◌/◌, ◌==◌, if◌then◌else◌, slice_index}
use Rattle.bf_cells.specs.Grid.{Grid, cell_at, table}
use Rattle.bf_cells.specs.Shell.{Walls, wall_place}

-- the six neighbours of a cell: the next cell of the grid, or at the grid's edge the value of the wall
abbrev pub x_below : Grid → Walls → ℕ → ℕ → ℕ → ℕ
x_below g w x y z = if x == 0 then slice_index w.x_low (wall_place g.side y z) else cell_at g (x - 1) y z

abbrev pub x_above : Grid → Walls → ℕ → ℕ → ℕ → ℕ
x_above g w x y z = if x + 1 == g.side then slice_index w.x_high (wall_place g.side y z) else cell_at g (x + 1) y z

abbrev pub y_below : Grid → Walls → ℕ → ℕ → ℕ → ℕ
y_below g w x y z = if y == 0 then slice_index w.y_low (wall_place g.side x z) else cell_at g x (y - 1) z

abbrev pub y_above : Grid → Walls → ℕ → ℕ → ℕ → ℕ
y_above g w x y z = if y + 1 == g.side then slice_index w.y_high (wall_place g.side x z) else cell_at g x (y + 1) z

abbrev pub z_below : Grid → Walls → ℕ → ℕ → ℕ → ℕ
z_below g w x y z = if z == 0 then slice_index w.z_low (wall_place g.side x y) else cell_at g x y (z - 1)

abbrev pub z_above : Grid → Walls → ℕ → ℕ → ℕ → ℕ
z_above g w x y z = if z + 1 == g.side then slice_index w.z_high (wall_place g.side x y) else cell_at g x y (z + 1)

-- the mean of a cell, which counts twice, and its six neighbours, rounded down
abbrev pub relaxed : ℕ → ℕ → ℕ → ℕ → ℕ → ℕ → ℕ → ℕ
relaxed v s1 s2 s3 s4 s5 s6 = (2 * v + s1 + s2 + s3 + s4 + s5 + s6) / 8

-- one cell after a step
abbrev pub relaxed_cell : Grid → Walls → ℕ → ℕ → ℕ → ℕ
relaxed_cell g w x y z =
    relaxed (cell_at g x y z) (x_below g w x y z) (x_above g w x y z) (y_below g w x y z) (y_above g w x y z)
    (z_below g w x y z) (z_above g w x y z)

-- the grid after a step
unfoldable pub relaxed_grid : Grid → Walls → Grid
relaxed_grid g w = table g.side (relaxed_cell g w)
