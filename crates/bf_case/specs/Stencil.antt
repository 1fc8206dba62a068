-- One step of every cell.
use Rattle.std.specs.Prelude.{ℕ, ◌+◌, ◌*◌, if◌then◌else◌, List, map}
use Rattle.bf_id.specs.declared.shape.Shape.{Shape}
use Rattle.bf_id.specs.Cube.{Voxel}
use Rattle.bf_id.specs.Axis.{Axis, is_first, is_last, back, on, in_parts}
use Rattle.bf_id.specs.Shape.{root_edge, axis_x, axis_y, axis_z}
use Rattle.bf_id.specs.Id.{level_of}
use Rattle.bf_cells.specs.Grid.{table}
use Rattle.bf_cells.specs.Kernel.{relaxed}
use Rattle.bf_case.specs.Map.{Leaf}
use Rattle.bf_case.specs.Sample.{scale_of, cell_corner, sample}

-- how many finest cells there are along an axis with so many roots
abbrev pub extent_of : ℕ → ℕ → ℕ
extent_of side roots = side * (root_edge * roots)

-- the three axes, in finest cells
abbrev pub cells_x : Shape → ℕ → Axis
cells_x shape side = in_parts side (axis_x shape)

abbrev pub cells_y : Shape → ℕ → Axis
cells_y shape side = in_parts side (axis_y shape)

abbrev pub cells_z : Shape → ℕ → Axis
cells_z shape side = in_parts side (axis_z shape)

-- the new value at the cell of this level whose low corner this is: the mean, rounded down, of the cell, which counts twice, and its
-- six face neighbours of the same level; a neighbour outside the domain counts as the cell
abbrev pub stepped_value : Shape → ℕ → List Leaf → ℕ → Voxel → ℕ
stepped_value shape side leaves level p =
    let scale = scale_of level in
    let at : Voxel → ℕ = sample shape side leaves level in
    relaxed (at p)
    (if is_first (cells_x shape side) p.x then at p else at (record p { x = back (cells_x shape side) scale p.x }))
    (if is_last (cells_x shape side) (p.x + scale) then at p else at (record p { x = on (cells_x shape side) scale p.x }))
    (if is_first (cells_y shape side) p.y then at p else at (record p { y = back (cells_y shape side) scale p.y }))
    (if is_last (cells_y shape side) (p.y + scale) then at p else at (record p { y = on (cells_y shape side) scale p.y }))
    (if is_first (cells_z shape side) p.z then at p else at (record p { z = back (cells_z shape side) scale p.z }))
    (if is_last (cells_z shape side) (p.z + scale) then at p else at (record p { z = on (cells_z shape side) scale p.z }))

-- the same leaves, with every cell stepped
unfoldable pub stencil : Shape → ℕ → List Leaf → List Leaf
stencil shape side leaves =
    map (λ (leaf : Leaf). (
      leaf.0,
      table side (λ x y z. stepped_value shape side leaves (level_of leaf.0) (cell_corner shape side leaf.0 x y z)),
    )) leaves
