-- Which face two cubes share, by tests.
use Rattle.std.specs.Prelude.{ℕ, ◌+◌, ◌==◌, ◌&&◌, nat_lt, Bool, Option, find}
use Rattle.bf_face.specs.Face.{all_faces}
use Rattle.bf_face.specs.declared.face.Face.{Face}
use Rattle.bf_face.specs.declared.face.Face.TheVariants.{XLow, XHigh, YLow, YHigh, ZLow, ZHigh}
use Rattle.bf_id.specs.Axis.{Axis, somewhere}
use Rattle.bf_id.specs.Cube.{Cube}
use Rattle.bf_id.specs.Shape.{axis_x, axis_y, axis_z}
use Rattle.bf_id.specs.declared.shape.Shape.{Shape}

-- along one axis, whether two stretches share a unit
abbrev pub overlaps : ℕ → ℕ → ℕ → ℕ → Bool
overlaps low length other_low other_length = nat_lt low (other_low + other_length) && nat_lt other_low (low + length)

abbrev pub overlaps_on : Axis → ℕ → ℕ → ℕ → ℕ → Bool
overlaps_on axis low length other_low other_length = somewhere axis (λ a b. overlaps a length b other_length) low other_low

-- whether the other stretch begins where one ends
abbrev pub joins_on : Axis → ℕ → ℕ → Bool
joins_on axis end low = somewhere axis (λ a b. a == b) end low

-- the same of two cubes
abbrev pub overlaps_x : Shape → Cube → Cube → Bool
overlaps_x shape c d = overlaps_on (axis_x shape) c.x c.edge d.x d.edge

abbrev pub overlaps_y : Shape → Cube → Cube → Bool
overlaps_y shape c d = overlaps_on (axis_y shape) c.y c.edge d.y d.edge

abbrev pub overlaps_z : Shape → Cube → Cube → Bool
overlaps_z shape c d = overlaps_on (axis_z shape) c.z c.edge d.z d.edge

abbrev pub joins_x : Shape → Cube → Cube → Bool
joins_x shape c d = joins_on (axis_x shape) (c.x + c.edge) d.x

abbrev pub joins_y : Shape → Cube → Cube → Bool
joins_y shape c d = joins_on (axis_y shape) (c.y + c.edge) d.y

abbrev pub joins_z : Shape → Cube → Cube → Bool
joins_z shape c d = joins_on (axis_z shape) (c.z + c.edge) d.z

-- whether this face of the first cube shares a part that has area with the second cube
unfoldable pub shares_face : Shape → Face → Cube → Cube → Bool
shares_face shape XLow c d = joins_x shape d c && overlaps_y shape c d && overlaps_z shape c d
shares_face shape XHigh c d = joins_x shape c d && overlaps_y shape c d && overlaps_z shape c d
shares_face shape YLow c d = joins_y shape d c && overlaps_x shape c d && overlaps_z shape c d
shares_face shape YHigh c d = joins_y shape c d && overlaps_x shape c d && overlaps_z shape c d
shares_face shape ZLow c d = joins_z shape d c && overlaps_x shape c d && overlaps_y shape c d
shares_face shape ZHigh c d = joins_z shape c d && overlaps_x shape c d && overlaps_y shape c d

-- the face of the first cube that it shares with the second, if there is one
unfoldable pub shared_face : Shape → Cube → Cube → Option Face
shared_face shape c d = find (λ face. shares_face shape face c d) all_faces
