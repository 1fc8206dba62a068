-- What lies beside the faces of a block in a map.
use Rattle.std.specs.Prelude.{◌≡◌, ℕ, ◌+◌, ◌-◌, ◌<◌, if◌then◌else◌, List, Contains}
use Rattle.bf_id.specs.declared.shape.Shape.{Shape}
use Rattle.bf_face.specs.declared.face.Face.{Face}
use Rattle.bf_face.specs.declared.face.Face.TheVariants.{XLow, XHigh, YLow, YHigh, ZLow, ZHigh}
use Rattle.bf_id.specs.Cube.{Cube, Voxel, Holds}
use Rattle.bf_id.specs.Axis.{is_first, is_last, back, on}
use Rattle.bf_id.specs.Id.{BlockId, level_of, box_of}
use Rattle.bf_id.specs.Neighbours.{unit_across, IsAtEdge}
use Rattle.bf_cells.specs.Grid.{Grid}
use Rattle.bf_cells.specs.Shell.{Walls, wall_at, face_cell}
use Rattle.bf_case.specs.Map.{Leaf, IsMap}
use Rattle.bf_case.specs.Sample.{scale_of, cell_corner, sample}
use Rattle.bf_case.specs.Stencil.{cells_x, cells_y, cells_z}

-- the low corner of a block's cell at a face, by the cell's two other coordinates
abbrev pub face_corner : Shape → ℕ → BlockId → Face → ℕ → ℕ → Voxel
face_corner shape side i XLow a b = cell_corner shape side i 0 a b
face_corner shape side i XHigh a b = cell_corner shape side i (side - 1) a b
face_corner shape side i YLow a b = cell_corner shape side i a 0 b
face_corner shape side i YHigh a b = cell_corner shape side i a (side - 1) b
face_corner shape side i ZLow a b = cell_corner shape side i a b 0
face_corner shape side i ZHigh a b = cell_corner shape side i a b (side - 1)

-- the value that counts as the neighbour across a face of the cell whose low corner this is: the sample there, or the cell's own value
-- at the domain's edge
abbrev pub value_across : Shape → ℕ → (Voxel → ℕ) → ℕ → Face → Voxel → ℕ → ℕ
value_across shape side at scale XLow p own = if is_first (cells_x shape side) p.x then own else at (record p { x = back (cells_x shape side) scale p.x })
value_across shape side at scale XHigh p own = if is_last (cells_x shape side) (p.x + scale) then own else at (record p { x = on (cells_x shape side) scale p.x })
value_across shape side at scale YLow p own = if is_first (cells_y shape side) p.y then own else at (record p { y = back (cells_y shape side) scale p.y })
value_across shape side at scale YHigh p own = if is_last (cells_y shape side) (p.y + scale) then own else at (record p { y = on (cells_y shape side) scale p.y })
value_across shape side at scale ZLow p own = if is_first (cells_z shape side) p.z then own else at (record p { z = back (cells_z shape side) scale p.z })
value_across shape side at scale ZHigh p own = if is_last (cells_z shape side) (p.z + scale) then own else at (record p { z = on (cells_z shape side) scale p.z })

-- the value beside a face's cell in a map: what counts as its neighbour across the face
abbrev pub value_beside : Shape → List Leaf → BlockId → Grid → Face → ℕ → ℕ → ℕ
value_beside shape leaves i g face a b =
    value_across shape g.side (sample shape g.side leaves (level_of i)) (scale_of (level_of i)) face
    (face_corner shape g.side i face a b) (face_cell g face a b)

-- the walls hold what lies beside each cell of this face: the sample of the block's level there, or at the domain's edge the block's own
-- cell
abbrev pub HoldsBeside : Shape → List Leaf → BlockId → Grid → Walls → Face → Type 0
HoldsBeside shape leaves i g walls face =
    (a b : ℕ) → a < g.side → b < g.side → wall_at walls face a b ≡ value_beside shape leaves i g face a b

-- the same of each face
abbrev pub HoldSamples : Shape → List Leaf → BlockId → Grid → Walls → Type 0
HoldSamples shape leaves i g walls = (face : Face) → HoldsBeside shape leaves i g walls face

-- where a box begins along the first and the second of a face's two axes, in the order x, y, z
abbrev pub first_low : Face → Cube → ℕ
first_low XLow box = box.y
first_low XHigh box = box.y
first_low YLow box = box.x
first_low YHigh box = box.x
first_low ZLow box = box.x
first_low ZHigh box = box.x

abbrev pub second_low : Face → Cube → ℕ
second_low XLow box = box.z
second_low XHigh box = box.z
second_low YLow box = box.z
second_low YHigh box = box.z
second_low ZLow box = box.y
second_low ZHigh box = box.y

-- two leaves of a map, of which the other has the unit just across a face of the first, so many units on along the face's two axes
pub record LiesAcross (shape : Shape) (side : ℕ) (leaves : List Leaf) (own : Leaf) (face : Face) (a b : ℕ) (other : Leaf) : Type 0 where
  pub map : IsMap shape side leaves
  pub own_in : Contains leaves own
  pub other_in : Contains leaves other
  pub inner : IsAtEdge shape (box_of shape own.0) face → ⊥
  pub held : Holds (box_of shape other.0) (unit_across shape (box_of shape own.0) face a b)
