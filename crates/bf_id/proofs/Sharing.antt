-- The tests of a face that two cubes share.
use Rattle.std.proofs.Common.{◌≡◌, ℕ, ◌+◌, ◌&&◌, Bool, Decides}
use Rattle.std.specs.Prelude.{◌==◌, nat_lt}
use Rattle.std.proofs.lemmas.Bool.Decides.{Decides-and, Decides-eqb, Decides-like, Decides-ltb}
use Rattle.bf_face.specs.declared.face.Face.{Face}
use Rattle.bf_face.specs.declared.face.Face.TheVariants.{XLow, XHigh, YLow, YHigh, ZLow, ZHigh}
use Rattle.bf_id.specs.Axis.{Axis, JoinsOn, OverlapsOn}
use Rattle.bf_id.specs.Cube.{Cube, Overlaps}
use Rattle.bf_id.specs.Face.{OverlapsX, OverlapsY, OverlapsZ, JoinsX, JoinsY, JoinsZ, SharesFace}
use Rattle.bf_id.specs.Shape.{axis_x, axis_y, axis_z}
use Rattle.bf_id.specs.Sharing.{overlaps, overlaps_on, overlaps_x, overlaps_y, overlaps_z, joins_on, joins_x, joins_y, joins_z, shares_face}
use Rattle.bf_id.specs.declared.shape.Shape.{Shape}
use Rattle.bf_id.proofs.Axes.{somewhere_decides}

overlaps_decides : (low length other other_length : ℕ) → Decides (overlaps low length other other_length) (Overlaps low length other other_length)
overlaps_decides low length other other_length =
    Decides-and (nat_lt low (other + other_length)) (nat_lt other (low + length)) (Decides-ltb low (other + other_length)) (Decides-ltb other (low + length))

overlaps_on_decides : (axis : Axis) (low length other other_length : ℕ) → Decides (overlaps_on axis low length other other_length) (OverlapsOn axis low length other other_length)
overlaps_on_decides axis low length other other_length =
    somewhere_decides axis (λ a b. overlaps a length b other_length) (λ a b. Overlaps a length b other_length) low other (λ a b. overlaps_decides a length b other_length)

joins_on_decides : (axis : Axis) (end low : ℕ) → Decides (joins_on axis end low) (JoinsOn axis end low)
joins_on_decides axis end low = somewhere_decides axis (λ a b. a == b) (λ a b. a ≡ b) end low Decides-eqb

-- ---- cubes

x_overlaps : (shape : Shape) (c d : Cube) → Decides (overlaps_x shape c d) (OverlapsX shape c d)
x_overlaps shape c d = overlaps_on_decides (axis_x shape) c.x c.edge d.x d.edge

y_overlaps : (shape : Shape) (c d : Cube) → Decides (overlaps_y shape c d) (OverlapsY shape c d)
y_overlaps shape c d = overlaps_on_decides (axis_y shape) c.y c.edge d.y d.edge

z_overlaps : (shape : Shape) (c d : Cube) → Decides (overlaps_z shape c d) (OverlapsZ shape c d)
z_overlaps shape c d = overlaps_on_decides (axis_z shape) c.z c.edge d.z d.edge

x_joins : (shape : Shape) (c d : Cube) → Decides (joins_x shape c d) (JoinsX shape c d)
x_joins shape c d = joins_on_decides (axis_x shape) (c.x + c.edge) d.x

y_joins : (shape : Shape) (c d : Cube) → Decides (joins_y shape c d) (JoinsY shape c d)
y_joins shape c d = joins_on_decides (axis_y shape) (c.y + c.edge) d.y

z_joins : (shape : Shape) (c d : Cube) → Decides (joins_z shape c d) (JoinsZ shape c d)
z_joins shape c d = joins_on_decides (axis_z shape) (c.z + c.edge) d.z

all_three : (P Q R : Type 0) (p q r : Bool) → Decides p P → Decides q Q → Decides r R → Decides (p && q && r) (P × Q × R)
all_three P Q R p q r first second third =
    Decides-like (p && q && r) (λ (all : (P × Q) × R). (all.0.0, all.0.1, all.1)) (λ (h : P × Q × R). ((h.0, h.1), h.2))
    (Decides-and (p && q) r (Decides-and p q first second) third)

pub shares_face_decides : (shape : Shape) (face : Face) (c d : Cube) → Decides (shares_face shape face c d) (SharesFace shape face c d)
unfolding shares_face
shares_face_decides shape XLow c d = all_three (JoinsX shape d c) (OverlapsY shape c d) (OverlapsZ shape c d) _ _ _ (x_joins shape d c) (y_overlaps shape c d) (z_overlaps shape c d)
shares_face_decides shape XHigh c d = all_three (JoinsX shape c d) (OverlapsY shape c d) (OverlapsZ shape c d) _ _ _ (x_joins shape c d) (y_overlaps shape c d) (z_overlaps shape c d)
shares_face_decides shape YLow c d = all_three (JoinsY shape d c) (OverlapsX shape c d) (OverlapsZ shape c d) _ _ _ (y_joins shape d c) (x_overlaps shape c d) (z_overlaps shape c d)
shares_face_decides shape YHigh c d = all_three (JoinsY shape c d) (OverlapsX shape c d) (OverlapsZ shape c d) _ _ _ (y_joins shape c d) (x_overlaps shape c d) (z_overlaps shape c d)
shares_face_decides shape ZLow c d = all_three (JoinsZ shape d c) (OverlapsX shape c d) (OverlapsY shape c d) _ _ _ (z_joins shape d c) (x_overlaps shape c d) (y_overlaps shape c d)
shares_face_decides shape ZHigh c d = all_three (JoinsZ shape c d) (OverlapsX shape c d) (OverlapsY shape c d) _ _ _ (z_joins shape c d) (x_overlaps shape c d) (y_overlaps shape c d)
