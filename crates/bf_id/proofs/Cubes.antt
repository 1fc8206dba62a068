-- Geometry of cubes: their halves, and the cubes that lists of octants narrow them to.
use Rattle.std.proofs.Common.{◌≡◌, ℕ, ◌+◌, ◌*◌, ◌/◌, ◌%◌, ◌^◌, ◌<◌, ◌≤◌, List, [], ◌∷◌, ◌++◌, length, refl, ap, ◌∙◌, All, arith, ◌⊎◌, inl, inr, pow-suc, suc-add, zero-add}
use Rattle.std.proofs.lemmas.List.Elements.{All-head, All-tail}
use Rattle.bf_id.specs.Axis.{MeetsOn}
use Rattle.bf_id.specs.Cube.{Cube, Voxel, Holds, Within, halved, narrowed}
use Rattle.bf_id.specs.Meeting.{Meet}
use Rattle.bf_id.specs.Shape.{IsShape, axis_x, axis_y, axis_z}
use Rattle.bf_id.specs.declared.shape.Shape.{Shape}
use Rattle.bf_face.specs.Face.{opposite_of}
use Rattle.bf_id.specs.Face.{JoinsX, JoinsY, JoinsZ, OverlapsX, OverlapsY, OverlapsZ, SharesFace}
use Rattle.bf_face.specs.declared.face.Face.{Face}
use Rattle.bf_face.specs.declared.face.Face.TheVariants.{XLow, XHigh, YLow, YHigh, ZLow, ZHigh}
use Rattle.bf_id.proofs.Steps.{IsShort}
use Rattle.bf_id.proofs.Axes.{AreShort, MeetsOn_sym, MeetsOn-within, MeetsOn-from_overlaps, MeetsOn-from_joins, OverlapsOn_sym, half_meeting_on, joins_once, joins_part, overlaps_some}
use Rattle.bf_id.proofs.Halves.{half_within, half_of, half_is_one}

-- ---- octants

-- the three steps of an octant
pub octant_steps : (o : ℕ) → o < 8 → (o % 2 < 2) × (o / 2 % 2 < 2) × (o / 4 < 2)
octant_steps o h = omega arith

-- the octant of three steps
pub octant_from : (a b c : ℕ) → a < 2 → b < 2 → c < 2 → (o : ℕ) × (o < 8) × (o % 2 ≡ a) × (o / 2 % 2 ≡ b) × (o / 4 ≡ c)
octant_from a b c p q r = (a + 2 * b + 4 * c, omega arith, omega arith, omega arith, omega arith)

-- the three steps tell the octant
pub octant_is_one : (o p : ℕ) → o % 2 ≡ p % 2 → o / 2 % 2 ≡ p / 2 % 2 → o / 4 ≡ p / 4 → o ≡ p
octant_is_one o p x y z = omega arith

-- ---- cubes

pub Within_refl : (c : Cube) → Within c c
Within_refl c = omega arith

pub Within_trans : (b c d : Cube) → Within b c → Within c d → Within b d
Within_trans b c d p q = omega arith

-- a cube holds what a cube within it holds
pub Holds-within : (c d : Cube) (v : Voxel) → Within c d → Holds c v → Holds d v
Holds-within c d v w h = omega arith

-- cubes meet where a cube within one meets the other
pub Meet-within : (shape : Shape) (b c d : Cube) → Within b c → Meet shape b d → Meet shape c d
Meet-within shape b c d w h = record {
  along_x = MeetsOn-within (axis_x shape) b.x b.edge c.x c.edge d.x d.edge w.low_x w.high_x h.along_x;
  along_y = MeetsOn-within (axis_y shape) b.y b.edge c.y c.edge d.y d.edge w.low_y w.high_y h.along_y;
  along_z = MeetsOn-within (axis_z shape) b.z b.edge c.z c.edge d.z d.edge w.low_z w.high_z h.along_z;
}

pub Meet_sym : (shape : Shape) (c d : Cube) → Meet shape c d → Meet shape d c
Meet_sym shape c d h = record {
  along_x = MeetsOn_sym (axis_x shape) c.x c.edge d.x d.edge h.along_x;
  along_y = MeetsOn_sym (axis_y shape) c.y c.edge d.y d.edge h.along_y;
  along_z = MeetsOn_sym (axis_z shape) c.z c.edge d.z d.edge h.along_z;
}

-- ---- halves of a cube

-- a half of a cube lies in the cube
pub halved_within : (c : Cube) (o : ℕ) → o < 8 → Within (halved c o) c
halved_within c o h =
    let steps = octant_steps o h in
    let x = half_within c.x c.edge (o % 2) steps.0 in
    let y = half_within c.y c.edge (o / 2 % 2) steps.1 in
    let z = half_within c.z c.edge (o / 4) steps.2 in
    record { low_x = x.0; low_y = y.0; low_z = z.0; high_x = x.1; high_y = y.1; high_z = z.1 }

-- each voxel of a cube of even edge is in one of its halves
pub halved_holding : (c : Cube) (v : Voxel) → c.edge / 2 + c.edge / 2 ≡ c.edge → Holds c v → (o : ℕ) × (o < 8) × Holds (halved c o) v
halved_holding c v even h =
    let x = half_of c.x c.edge v.x even h.along_x in
    let y = half_of c.y c.edge v.y even h.along_y in
    let z = half_of c.z c.edge v.z even h.along_z in
    let o = octant_from x.0 y.0 z.0 x.1 y.1 z.1 in
    (o.0, o.1, record { along_x = rw o.2 x.2; along_y = rw o.3 y.2; along_z = rw o.4 z.2 })

-- what a cube of even edge meets meets one of its halves
pub halved_meeting : (shape : Shape) (c d : Cube) → c.edge / 2 + c.edge / 2 ≡ c.edge → Meet shape c d → (o : ℕ) × (o < 8) × Meet shape (halved c o) d
halved_meeting shape c d even m =
    let x = half_meeting_on (axis_x shape) c.x c.edge d.x d.edge even m.along_x in
    let y = half_meeting_on (axis_y shape) c.y c.edge d.y d.edge even m.along_y in
    let z = half_meeting_on (axis_z shape) c.z c.edge d.z d.edge even m.along_z in
    let o = octant_from x.0 y.0 z.0 x.1 y.1 z.1 in
    (o.0, o.1, record { along_x = rw o.2 x.2; along_y = rw o.3 y.2; along_z = rw o.4 z.2 })

-- a voxel is in one half of a cube at most
pub halved_is_one : (c : Cube) (v : Voxel) (o p : ℕ) → o < 8 → p < 8 → Holds (halved c o) v → Holds (halved c p) v → o ≡ p
halved_is_one c v o p a b h k =
    let s = octant_steps o a in
    let t = octant_steps p b in
    octant_is_one o p
    (half_is_one c.x (c.edge / 2) v.x (o % 2) (p % 2) s.0 t.0 h.along_x k.along_x)
    (half_is_one c.y (c.edge / 2) v.y (o / 2 % 2) (p / 2 % 2) s.1 t.1 h.along_y k.along_y)
    (half_is_one c.z (c.edge / 2) v.z (o / 4) (p / 4) s.2 t.2 h.along_z k.along_z)

-- ---- narrowed cubes

-- narrowing by a list and then by another
pub narrowed-append : (ds es : List ℕ) (c : Cube) → narrowed c (ds ++ es) ≡ narrowed (narrowed c ds) es
narrowed-append [] es c = refl
narrowed-append (d ∷ ds) es c = narrowed-append ds es (halved c d)

-- narrowing by one more octant halves
pub narrowed-push : (ds : List ℕ) (o : ℕ) (c : Cube) → narrowed c (ds ++ o ∷ []) ≡ halved (narrowed c ds) o
narrowed-push ds o c = narrowed-append ds (o ∷ []) c

-- narrowing stays within the cube
pub narrowed_within : (ds : List ℕ) (c : Cube) → All (λ o. o < 8) ds → Within (narrowed c ds) c
narrowed_within [] c octal = Within_refl c
narrowed_within (d ∷ ds) c octal =
    Within_trans (narrowed (halved c d) ds) (halved c d) c
    (narrowed_within ds (halved c d) (All-tail (λ o. o < 8) d ds octal))
    (halved_within c d (All-head (λ o. o < 8) d ds octal))

-- the edge of a cube of a power of two, narrowed
pub power-narrowed : (ds : List ℕ) (c : Cube) (m : ℕ) → c.edge ≡ 2 ^ (length ds + m) → (narrowed c ds).edge ≡ 2 ^ m
power-narrowed [] c m e = e ∙ ap (λ (k : ℕ). 2 ^ k) (zero-add m)
power-narrowed (d ∷ ds) c m e =
    power-narrowed ds (halved c d) m (let p : 2 ^ (length (d ∷ ds) + m) ≡ 2 ^ (length ds + m) * 2 = ap (λ (k : ℕ). 2 ^ k) (suc-add (length ds) m) ∙ pow-suc 2 (length ds + m) in omega arith)

-- ---- faces

OverlapsX_sym : (shape : Shape) (c d : Cube) → OverlapsX shape c d → OverlapsX shape d c
OverlapsX_sym shape c d = OverlapsOn_sym (axis_x shape) c.x c.edge d.x d.edge

OverlapsY_sym : (shape : Shape) (c d : Cube) → OverlapsY shape c d → OverlapsY shape d c
OverlapsY_sym shape c d = OverlapsOn_sym (axis_y shape) c.y c.edge d.y d.edge

OverlapsZ_sym : (shape : Shape) (c d : Cube) → OverlapsZ shape c d → OverlapsZ shape d c
OverlapsZ_sym shape c d = OverlapsOn_sym (axis_z shape) c.z c.edge d.z d.edge

-- along each axis of the domain, a stretch that is no longer than a root's edge is short
pub short_x : (shape : Shape) → IsShape shape → (e : ℕ) → e ≤ 16 → IsShort (axis_x shape) e
short_x shape is e few = tt

pub short_y : (shape : Shape) → IsShape shape → (e : ℕ) → e ≤ 16 → IsShort (axis_y shape) e
short_y shape is e few = tt

pub short_z : (shape : Shape) → IsShape shape → (e : ℕ) → e ≤ 16 → IsShort (axis_z shape) e
short_z shape is e few = tt

-- a shared face lies on both cubes, on opposite sides
pub opposite_face : (shape : Shape) (f : Face) (c d : Cube) → SharesFace shape f c d → SharesFace shape (opposite_of f) d c
opposite_face shape XLow c d h = (h.0, OverlapsY_sym shape c d h.1, OverlapsZ_sym shape c d h.2)
opposite_face shape XHigh c d h = (h.0, OverlapsY_sym shape c d h.1, OverlapsZ_sym shape c d h.2)
opposite_face shape YLow c d h = (h.0, OverlapsX_sym shape c d h.1, OverlapsZ_sym shape c d h.2)
opposite_face shape YHigh c d h = (h.0, OverlapsX_sym shape c d h.1, OverlapsZ_sym shape c d h.2)
opposite_face shape ZLow c d h = (h.0, OverlapsX_sym shape c d h.1, OverlapsY_sym shape c d h.2)
opposite_face shape ZHigh c d h = (h.0, OverlapsX_sym shape c d h.1, OverlapsY_sym shape c d h.2)

-- two cubes, no wider than a root, share area of one face at most
pub one_face : (shape : Shape) (f g : Face) (c d : Cube) → IsShape shape → c.edge ≤ 16 → d.edge ≤ 16 → SharesFace shape f c d → SharesFace shape g c d → f ≡ g
one_face shape f g c d is low high h k = by f g h k
  where
    pair_x : (e f : ℕ) → e ≤ 16 → f ≤ 16 → AreShort (axis_x shape) e f
    pair_x e f p q = tt

    pair_y : (e f : ℕ) → e ≤ 16 → f ≤ 16 → AreShort (axis_y shape) e f
    pair_y e f p q = tt

    pair_z : (e f : ℕ) → e ≤ 16 → f ≤ 16 → AreShort (axis_z shape) e f
    pair_z e f p q = tt

    part_x : JoinsX shape c d ⊎ JoinsX shape d c → OverlapsX shape c d → ⊥
    part_x (inl j) o = joins_part (axis_x shape) c.x c.edge d.x d.edge (pair_x c.edge d.edge low high) j o
    part_x (inr j) o = joins_part (axis_x shape) d.x d.edge c.x c.edge (pair_x d.edge c.edge high low) j (OverlapsX_sym shape c d o)

    part_y : JoinsY shape c d ⊎ JoinsY shape d c → OverlapsY shape c d → ⊥
    part_y (inl j) o = joins_part (axis_y shape) c.y c.edge d.y d.edge (pair_y c.edge d.edge low high) j o
    part_y (inr j) o = joins_part (axis_y shape) d.y d.edge c.y c.edge (pair_y d.edge c.edge high low) j (OverlapsY_sym shape c d o)

    part_z : JoinsZ shape c d ⊎ JoinsZ shape d c → OverlapsZ shape c d → ⊥
    part_z (inl j) o = joins_part (axis_z shape) c.z c.edge d.z d.edge (pair_z c.edge d.edge low high) j o
    part_z (inr j) o = joins_part (axis_z shape) d.z d.edge c.z c.edge (pair_z d.edge c.edge high low) j (OverlapsZ_sym shape c d o)

    once_x : JoinsX shape c d → JoinsX shape d c → OverlapsY shape c d → ⊥
    once_x j k o = joins_once (axis_x shape) c.x c.edge d.x d.edge (pair_x c.edge d.edge low high) (overlaps_some (axis_y shape) c.y c.edge d.y d.edge o) j k

    once_y : JoinsY shape c d → JoinsY shape d c → OverlapsX shape c d → ⊥
    once_y j k o = joins_once (axis_y shape) c.y c.edge d.y d.edge (pair_y c.edge d.edge low high) (overlaps_some (axis_x shape) c.x c.edge d.x d.edge o) j k

    once_z : JoinsZ shape c d → JoinsZ shape d c → OverlapsX shape c d → ⊥
    once_z j k o = joins_once (axis_z shape) c.z c.edge d.z d.edge (pair_z c.edge d.edge low high) (overlaps_some (axis_x shape) c.x c.edge d.x d.edge o) j k

    by : (f g : Face) → SharesFace shape f c d → SharesFace shape g c d → f ≡ g
    by XLow XLow h k = refl
    by XLow XHigh h k = absurd (once_x k.0 h.0 h.1)
    by XLow YLow h k = absurd (part_x (inr h.0) k.1)
    by XLow YHigh h k = absurd (part_x (inr h.0) k.1)
    by XLow ZLow h k = absurd (part_x (inr h.0) k.1)
    by XLow ZHigh h k = absurd (part_x (inr h.0) k.1)
    by XHigh XLow h k = absurd (once_x h.0 k.0 h.1)
    by XHigh XHigh h k = refl
    by XHigh YLow h k = absurd (part_x (inl h.0) k.1)
    by XHigh YHigh h k = absurd (part_x (inl h.0) k.1)
    by XHigh ZLow h k = absurd (part_x (inl h.0) k.1)
    by XHigh ZHigh h k = absurd (part_x (inl h.0) k.1)
    by YLow XLow h k = absurd (part_y (inr h.0) k.1)
    by YLow XHigh h k = absurd (part_y (inr h.0) k.1)
    by YLow YLow h k = refl
    by YLow YHigh h k = absurd (once_y k.0 h.0 h.1)
    by YLow ZLow h k = absurd (part_y (inr h.0) k.2)
    by YLow ZHigh h k = absurd (part_y (inr h.0) k.2)
    by YHigh XLow h k = absurd (part_y (inl h.0) k.1)
    by YHigh XHigh h k = absurd (part_y (inl h.0) k.1)
    by YHigh YLow h k = absurd (once_y h.0 k.0 h.1)
    by YHigh YHigh h k = refl
    by YHigh ZLow h k = absurd (part_y (inl h.0) k.2)
    by YHigh ZHigh h k = absurd (part_y (inl h.0) k.2)
    by ZLow XLow h k = absurd (part_z (inr h.0) k.2)
    by ZLow XHigh h k = absurd (part_z (inr h.0) k.2)
    by ZLow YLow h k = absurd (part_z (inr h.0) k.2)
    by ZLow YHigh h k = absurd (part_z (inr h.0) k.2)
    by ZLow ZLow h k = refl
    by ZLow ZHigh h k = absurd (once_z k.0 h.0 h.1)
    by ZHigh XLow h k = absurd (part_z (inl h.0) k.2)
    by ZHigh XHigh h k = absurd (part_z (inl h.0) k.2)
    by ZHigh YLow h k = absurd (part_z (inl h.0) k.2)
    by ZHigh YHigh h k = absurd (part_z (inl h.0) k.2)
    by ZHigh ZLow h k = absurd (once_z h.0 k.0 h.1)
    by ZHigh ZHigh h k = refl

-- cubes that share area of a face meet
pub Meet-from_face : (shape : Shape) (f : Face) (c d : Cube) → SharesFace shape f c d → Meet shape c d
Meet-from_face shape f c d h = by f h
  where
    x_joins : JoinsX shape c d ⊎ JoinsX shape d c → MeetsOn (axis_x shape) c.x c.edge d.x d.edge
    x_joins (inl j) = MeetsOn-from_joins (axis_x shape) c.x c.edge d.x d.edge j
    x_joins (inr j) = MeetsOn_sym (axis_x shape) d.x d.edge c.x c.edge (MeetsOn-from_joins (axis_x shape) d.x d.edge c.x c.edge j)

    y_joins : JoinsY shape c d ⊎ JoinsY shape d c → MeetsOn (axis_y shape) c.y c.edge d.y d.edge
    y_joins (inl j) = MeetsOn-from_joins (axis_y shape) c.y c.edge d.y d.edge j
    y_joins (inr j) = MeetsOn_sym (axis_y shape) d.y d.edge c.y c.edge (MeetsOn-from_joins (axis_y shape) d.y d.edge c.y c.edge j)

    z_joins : JoinsZ shape c d ⊎ JoinsZ shape d c → MeetsOn (axis_z shape) c.z c.edge d.z d.edge
    z_joins (inl j) = MeetsOn-from_joins (axis_z shape) c.z c.edge d.z d.edge j
    z_joins (inr j) = MeetsOn_sym (axis_z shape) d.z d.edge c.z c.edge (MeetsOn-from_joins (axis_z shape) d.z d.edge c.z c.edge j)

    x_overlaps : OverlapsX shape c d → MeetsOn (axis_x shape) c.x c.edge d.x d.edge
    x_overlaps o = MeetsOn-from_overlaps (axis_x shape) c.x c.edge d.x d.edge o

    y_overlaps : OverlapsY shape c d → MeetsOn (axis_y shape) c.y c.edge d.y d.edge
    y_overlaps o = MeetsOn-from_overlaps (axis_y shape) c.y c.edge d.y d.edge o

    z_overlaps : OverlapsZ shape c d → MeetsOn (axis_z shape) c.z c.edge d.z d.edge
    z_overlaps o = MeetsOn-from_overlaps (axis_z shape) c.z c.edge d.z d.edge o

    by : (f : Face) → SharesFace shape f c d → Meet shape c d
    by XLow h = record { along_x = x_joins (inr h.0); along_y = y_overlaps h.1; along_z = z_overlaps h.2 }
    by XHigh h = record { along_x = x_joins (inl h.0); along_y = y_overlaps h.1; along_z = z_overlaps h.2 }
    by YLow h = record { along_y = y_joins (inr h.0); along_x = x_overlaps h.1; along_z = z_overlaps h.2 }
    by YHigh h = record { along_y = y_joins (inl h.0); along_x = x_overlaps h.1; along_z = z_overlaps h.2 }
    by ZLow h = record { along_z = z_joins (inr h.0); along_x = x_overlaps h.1; along_y = y_overlaps h.2 }
    by ZHigh h = record { along_z = z_joins (inl h.0); along_x = x_overlaps h.1; along_y = y_overlaps h.2 }
