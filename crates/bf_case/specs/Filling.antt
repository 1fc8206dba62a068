-- Filling boxes of cells.
use Rattle.std.specs.Prelude.{ℕ, ◌+◌, ◌^◌, ◌<◌, ◌&&◌, nat_lt, nat_le, if◌then◌else◌, Bool, List, slice_index}
use Rattle.bf_id.specs.Cube.{Voxel}
use Rattle.bf_cells.specs.Grid.{Grid, cell_at, table}
use Rattle.bf_case.specs.declared.case.Fill.{Fill}
use Rattle.bf_case.specs.Model.{has_cell, filled_value}
use Rattle.bf_case.specs.Sample.{moved}

-- the cells along one axis from one up to another, which is not among them
abbrev pub is_within : ℕ → ℕ → ℕ → Bool
is_within from end cell = nat_le from cell && nat_lt cell end

-- the grid with one value in a box of its cells
unfoldable pub with_box : Grid → ℕ → ℕ → ℕ → ℕ → ℕ → ℕ → ℕ → Grid
with_box g x_from x_end y_from y_end z_from z_end value =
    table g.side (λ x y z.
    if is_within x_from x_end x && is_within y_from y_end y && is_within z_from z_end z then value else cell_at g x y z)

-- the grid after a fill, where its first cell stands at this place of the domain
unfoldable pub with_fill : Grid → Voxel → Fill → Grid
with_fill g first f =
    table g.side (λ x y z. if has_cell f (moved first x y z) then f.value else cell_at g x y z)

-- the cells of a block after all fills in turn, where its first cell stands at this place of the domain
unfoldable pub filled_grid : ℕ → Voxel → List Fill → Grid
filled_grid side first fills = table side (λ x y z. filled_value fills (moved first x y z))

-- a place of the domain, by its coordinates x, y, z
abbrev pub voxel_at : List ℕ → Voxel
voxel_at place = record { x = slice_index place 0; y = slice_index place 1; z = slice_index place 2 }

-- one more than each coordinate of the high corner has 32 bits
pub record HasRoom (f : Fill) : Type 0 where
  pub along_x : slice_index f.high 0 + 1 < 2 ^ 32
  pub along_y : slice_index f.high 1 + 1 < 2 ^ 32
  pub along_z : slice_index f.high 2 + 1 < 2 ^ 32
