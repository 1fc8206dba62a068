-- Looking up values of a map by coordinates. A place is told in finest cells: a block of level 4 has `side` of them along an edge, and
-- so has a unit.
use Rattle.std.specs.Prelude.{ℕ, ◌+◌, ◌-◌, ◌*◌, ◌/◌, ◌^◌, nat_le, if◌then◌else◌, List, Option, find}
use Rattle.std.specs.Option.{option_map_or}
use Rattle.bf_id.specs.declared.shape.Shape.{Shape}
use Rattle.bf_id.specs.Cube.{Voxel, holds}
use Rattle.bf_id.specs.Id.{BlockId, level_of, box_of}
use Rattle.bf_cells.specs.Grid.{cell_at}
use Rattle.bf_case.specs.Map.{Leaf}

-- how many finest cells there are along the edge of a cell of this level
abbrev pub scale_of : ℕ → ℕ
scale_of level = 2 ^ (4 - level)

-- the unit that has a finest cell
abbrev pub unit_of : ℕ → Voxel → Voxel
unit_of side p = record { x = p.x / side; y = p.y / side; z = p.z / side }

-- the place so many finest cells farther along each axis
abbrev pub moved : Voxel → ℕ → ℕ → ℕ → Voxel
moved p x y z = record { x = p.x + x; y = p.y + y; z = p.z + z }

-- the low corner of a block
abbrev pub corner_of : Shape → ℕ → BlockId → Voxel
corner_of shape side i =
    let box = box_of shape i in record { x = side * box.x; y = side * box.y; z = side * box.z }

-- the low corner of a block's cell
abbrev pub cell_corner : Shape → ℕ → BlockId → ℕ → ℕ → ℕ → Voxel
cell_corner shape side i x y z =
    let scale = scale_of (level_of i) in moved (corner_of shape side i) (x * scale) (y * scale) (z * scale)

-- the leaf that has a finest cell
abbrev pub leaf_at : Shape → ℕ → List Leaf → Voxel → Option Leaf
leaf_at shape side leaves p = find (λ (leaf : Leaf). holds (box_of shape leaf.0) (unit_of side p)) leaves

-- the value of the leaf's cell that has a finest cell
abbrev pub value_at : Shape → ℕ → Leaf → Voxel → ℕ
value_at shape side leaf p =
    let corner = corner_of shape side leaf.0 in
    let scale = scale_of (level_of leaf.0) in
    cell_at leaf.1 ((p.x - corner.x) / scale) ((p.y - corner.y) / scale) ((p.z - corner.z) / scale)

-- the mean, rounded down, of the leaf's eight cells in the cell one level coarser whose low corner this is
abbrev pub mean_of_eight : Shape → ℕ → Leaf → Voxel → ℕ
mean_of_eight shape side leaf p =
    let scale = scale_of (level_of leaf.0) in
    (value_at shape side leaf p + value_at shape side leaf (moved p scale 0 0)
    + value_at shape side leaf (moved p 0 scale 0) + value_at shape side leaf (moved p scale scale 0)
    + value_at shape side leaf (moved p 0 0 scale) + value_at shape side leaf (moved p scale 0 scale)
    + value_at shape side leaf (moved p 0 scale scale) + value_at shape side leaf (moved p scale scale scale)) / 8

-- what a leaf says of the cell of this level whose low corner this is: its own cell there, or the mean where the leaf is finer
abbrev pub sample_of : Shape → ℕ → ℕ → Voxel → Leaf → ℕ
sample_of shape side level p leaf =
    if nat_le (level_of leaf.0) level then value_at shape side leaf p else mean_of_eight shape side leaf p

-- the value at the cell of this level whose low corner this is, by the one leaf that has this corner; 0 outside the domain
unfoldable pub sample : Shape → ℕ → List Leaf → ℕ → Voxel → ℕ
sample shape side leaves level p = option_map_or (sample_of shape side level p) (leaf_at shape side leaves p) 0
