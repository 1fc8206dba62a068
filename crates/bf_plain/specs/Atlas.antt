-- Which leaf has a place of the domain.
use Rattle.std.specs.Prelude.{◌≡◌, ℕ, ◌+◌, ◌*◌, ◌/◌, ◌%◌, ◌^◌, ◌<◌, List, length, slice_index}
use Rattle.std.specs.List.{slice_index_or}
use Rattle.bf_id.specs.declared.shape.Shape.{Shape}
use Rattle.bf_id.specs.Cube.{Cube, Voxel, Holds}
use Rattle.bf_id.specs.Shape.{InDomain}
use Rattle.bf_id.specs.Id.{BlockId, box_of, root_id}
use Rattle.bf_case.specs.Sample.{scale_of}

-- the domain cut into boxes of one level, with a number for each: x runs fastest, then y, then z
pub record Chart : Type 0 where
  pub shape : Shape
  pub level : ℕ
  pub numbers : List ℕ

-- how many boxes of a level there are along so many roots
abbrev pub boxes_along : ℕ → ℕ → ℕ
boxes_along roots level = roots * 2 ^ level

-- the place of a box among all boxes of a domain of so many along x and along y
abbrev pub place_of : ℕ → ℕ → Voxel → ℕ
place_of wide deep box = box.x + wide * (box.y + deep * box.z)

-- and the box at a place
abbrev pub box_at : ℕ → ℕ → ℕ → Voxel
box_at wide deep place = record { x = place % wide; y = place / wide % deep; z = place / wide / deep }

-- the box of a level that has a unit
abbrev pub box_with : ℕ → Voxel → Voxel
box_with level v = let edge = scale_of level in record { x = v.x / edge; y = v.y / edge; z = v.z / edge }

-- the boxes of a cube in turn
abbrev pub box_in : Cube → ℕ → Voxel
box_in c step = record { x = c.x + step % c.edge; y = c.y + step / c.edge % c.edge; z = c.z + step / c.edge / c.edge }

-- where the list has the number for a unit
abbrev pub chart_place : Shape → ℕ → Voxel → ℕ
chart_place shape level v = place_of (boxes_along shape.nx level) (boxes_along shape.ny level) (box_with level v)

-- the number for a unit
abbrev pub number_at : Chart → Voxel → ℕ
number_at chart v = slice_index chart.numbers (chart_place chart.shape chart.level v)

-- the id of a number
abbrev pub id_at : List BlockId → ℕ → BlockId
id_at ids k = slice_index_or ids k (root_id 0)

-- the number is that of a leaf whose box holds the unit
pub record HasUnit (shape : Shape) (ids : List BlockId) (v : Voxel) (k : ℕ) : Type 0 where
  pub below : k < length ids
  pub holds : Holds (box_of shape (id_at ids k)) v

-- the chart is one of this domain, and has for each unit the leaf that holds it
pub record Charts (shape : Shape) (ids : List BlockId) (chart : Chart) : Type 0 where
  pub same_shape : chart.shape ≡ shape
  pub leaves : (v : Voxel) → InDomain shape v → HasUnit shape ids v (number_at chart v)
