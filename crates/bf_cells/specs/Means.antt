-- The means of a cube's cells as a list of their own, and an octant that takes such a list.
use Rattle.std.specs.Prelude.{ℕ, ◌/◌, ◌%◌, if◌then◌else◌, List}
use Rattle.bf_cells.specs.Grid.{Grid, grid_with, cell_at, table}
use Rattle.bf_cells.specs.Octant.{mean_at, in_octant}

-- the means, rounded down, of each eight cells that form a cube
unfoldable pub means_of : Grid → Grid
means_of g = table (g.side / 2) (mean_at g)

-- the grid with these values in an octant, x fastest, then y, then z
unfoldable pub with_octant : Grid → (octant : ℕ) → List ℕ → Grid
with_octant g octant values =
    table g.side (λ x y z.
    if in_octant g.side octant x y z
    then cell_at (grid_with (g.side / 2) values) (x % (g.side / 2)) (y % (g.side / 2)) (z % (g.side / 2))
    else cell_at g x y z)
