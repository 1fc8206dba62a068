-- How a block lies in its parent, along the two axes of a face.
use Rattle.std.specs.Prelude.{ℕ, ◌/◌, ◌%◌, nat_lt, Bool, true, if◌then◌else◌, List, Contains}
use Rattle.bf_id.specs.declared.shape.Shape.{Shape}
use Rattle.bf_face.specs.declared.face.Face.{Face}
use Rattle.bf_face.specs.declared.face.Face.TheVariants.{XLow, XHigh, YLow, YHigh, ZLow, ZHigh}
use Rattle.bf_id.specs.Face.{SharesFace}
use Rattle.bf_id.specs.Id.{BlockId, level_of, box_of, octant_of}
use Rattle.bf_id.specs.Shape.{IsShape}
use Rattle.bf_case.specs.Map.{Leaf, IsMap}
use Rattle.bf_cells.specs.Levels.{in_quarter}

-- on which half of its parent a block lies along the first and the second of a face's two axes, by its octant
abbrev pub first_half : Face → ℕ → ℕ
first_half XLow octant = octant / 2 % 2
first_half XHigh octant = octant / 2 % 2
first_half YLow octant = octant % 2
first_half YHigh octant = octant % 2
first_half ZLow octant = octant % 2
first_half ZHigh octant = octant % 2

abbrev pub second_half : Face → ℕ → ℕ
second_half XLow octant = octant / 4
second_half XHigh octant = octant / 4
second_half YLow octant = octant / 4
second_half YHigh octant = octant / 4
second_half ZLow octant = octant / 2 % 2
second_half ZHigh octant = octant / 2 % 2

-- two leaves of a map that share a face of the first
pub record ShareFace (shape : Shape) (side : ℕ) (leaves : List Leaf) (own : Leaf) (face : Face) (other : Leaf) : Type 0 where
  pub domain : IsShape shape
  pub map : IsMap shape side leaves
  pub own_in : Contains leaves own
  pub other_in : Contains leaves other
  pub share : SharesFace shape face (box_of shape own.0) (box_of shape other.0)

-- whether a cell at a face of one block lies beside another, which shares the face: a finer one lies beside a quarter of it
abbrev pub is_opposite : ℕ → Face → BlockId → BlockId → ℕ → ℕ → Bool
is_opposite side face i j a b =
    if nat_lt (level_of i) (level_of j)
    then in_quarter side (first_half face (octant_of j)) (second_half face (octant_of j)) a b
    else true
