-- Boxes begin at multiples of their edges.
use Rattle.std.proofs.Common.{◌≡◌, ℕ, ◌+◌, ◌-◌, ◌*◌, ◌/◌, ◌%◌, ◌^◌, ◌<◌, ◌≤◌, List, [], ◌∷◌, length, sym, ap, ◌∙◌, arith, inl, inr, pow-suc, suc-add}
use Rattle.std.proofs.Math.Nat.{mul-le-mul_left}
use Rattle.std.proofs.lemmas.Bool.{cases_lt, cases_order}
use Rattle.bf_id.specs.declared.shape.Shape.{Shape}
use Rattle.bf_face.specs.declared.face.Face.{Face}
use Rattle.bf_face.specs.declared.face.Face.TheVariants.{XLow, XHigh, YLow, YHigh, ZLow, ZHigh}
use Rattle.bf_id.specs.Shape.{root_cube}
use Rattle.bf_id.specs.Cube.{Cube, Spans, Holds, halved, narrowed}
use Rattle.bf_id.specs.Id.{BlockId, level_of, box_of}
use Rattle.bf_id.specs.Neighbours.{unit_across}
use Rattle.bf_case.specs.Beside.{first_low, second_low}

-- a number is a multiple of another
abbrev pub IsMultiple : ℕ → ℕ → Type 0
IsMultiple n of = (k : ℕ) × (n ≡ k * of)

pub record IsAligned (c : Cube) : Type 0 where
  pub along_x : IsMultiple c.x c.edge
  pub along_y : IsMultiple c.y c.edge
  pub along_z : IsMultiple c.z c.edge

half_along : (low edge t bit : ℕ) → t + t ≡ edge → IsMultiple low edge → IsMultiple (low + bit * t) t
half_along low edge t bit twice (k, is) =
    let at : low ≡ k * (t + t) = is ∙ ap (λ n. k * n) (sym twice) in
    (k + k + bit, omega arith)

pub aligned_halved : (c : Cube) (o : ℕ) → c.edge / 2 + c.edge / 2 ≡ c.edge → IsAligned c → IsAligned (halved c o)
aligned_halved c o even is = record {
  along_x = half_along c.x c.edge (c.edge / 2) (o % 2) even is.along_x;
  along_y = half_along c.y c.edge (c.edge / 2) (o / 2 % 2) even is.along_y;
  along_z = half_along c.z c.edge (c.edge / 2) (o / 4) even is.along_z;
}

pub aligned_narrowed : (ds : List ℕ) (c : Cube) (m : ℕ) → c.edge ≡ 2 ^ (length ds + m) → IsAligned c → IsAligned (narrowed c ds)
aligned_narrowed [] c m edge is = is
aligned_narrowed (d ∷ ds) c m edge is =
    let double : 2 ^ (length (d ∷ ds) + m) ≡ 2 ^ (length ds + m) * 2 = ap (λ (k : ℕ). 2 ^ k) (suc-add (length ds) m) ∙ pow-suc 2 (length ds + m) in
    aligned_narrowed ds (halved c d) m (omega arith) (aligned_halved c d (omega arith) is)

pub aligned : (shape : Shape) (i : BlockId) → level_of i ≤ 4 → IsAligned (box_of shape i)
aligned shape i shallow =
    let m = 4 - level_of i in
    let left : 4 ≡ level_of i + m = omega arith in
    aligned_narrowed i.digits (root_cube shape i.root) m (ap (λ (k : ℕ). 2 ^ k) left) (record {
      along_x = (i.root % shape.nx, omega arith);
      along_y = (i.root / shape.nx % shape.ny, omega arith);
      along_z = (i.root / shape.nx / shape.ny, omega arith);
    })

-- ---- one axis

-- multiples of one number that lie less than it apart
pub one_multiple : (k l t : ℕ) → k * t ≤ l * t → l * t < k * t + t → k ≡ l
one_multiple k l t least most =
    elim (cases_order k l) [
      | inl same ↦ same
      | inr (inl less) ↦ absurd (let room : t * (k + 1) ≤ t * l = mul-le-mul_left t (let up : k + 1 ≤ l = omega arith in up) in omega arith)
      | inr (inr more) ↦ absurd (let room : t * (l + 1) ≤ t * k = mul-le-mul_left t (let up : l + 1 ≤ k = omega arith in up) in omega arith)
    ]

-- a stretch with a unit of another begins where that one does, if both have one length
pub same_low : (low y e : ℕ) → IsMultiple y e → IsMultiple low e → Spans low e (y + 0) → low ≡ y
same_low low y e (k, is) (l, is') spans =
    let one = one_multiple l k e (omega arith) (omega arith) in
    is' ∙ ap (λ n. n * e) one ∙ sym is

-- or at one of its halves, if it is half as long
pub finer_low : (low y e t half : ℕ) → e ≡ t + t → IsMultiple y e → IsMultiple low t → Spans low t (y + half * t) → low ≡ y + half * t
finer_low low y e t half double (k, is) (l, is') spans =
    let at : y ≡ k * (t + t) = is ∙ ap (λ n. k * n) double in
    let one = one_multiple l (k + k + half) t (omega arith) (omega arith) in
    is' ∙ ap (λ n. n * t) one ∙ omega arith

-- a stretch that isn't shorter has the other's first unit where it has one of its units
pub no_finer_low : (low y e t times off : ℕ) → t ≡ e * times → off < e → IsMultiple y e → IsMultiple low t → Spans low t (y + off) → Spans low t (y + 0)
no_finer_low low y e t times off long within (k, is) (l, is') spans =
    let at : low ≡ l * (e * times) = is' ∙ ap (λ n. l * n) long in
    let least : l * times ≤ k =
    elim (cases_lt k (l * times)) [ inl below ↦ absurd (let room : e * (k + 1) ≤ e * (l * times) = mul-le-mul_left e (let up : k + 1 ≤ l * times = omega arith in up) in omega arith) | inr past ↦ past ] in
    let reach : e * (l * times) ≤ e * k = mul-le-mul_left e least in
    (omega arith, omega arith)

-- ---- along the two axes of a face

pub first_aligned : (c : Cube) (face : Face) → IsAligned c → IsMultiple (first_low face c) c.edge
first_aligned c XLow is = is.along_y
first_aligned c XHigh is = is.along_y
first_aligned c YLow is = is.along_x
first_aligned c YHigh is = is.along_x
first_aligned c ZLow is = is.along_x
first_aligned c ZHigh is = is.along_x

pub first_spans : (shape : Shape) (own other : Cube) (face : Face) (a b : ℕ) → Holds other (unit_across shape own face a b) → Spans (first_low face other) other.edge (first_low face own + a)
first_spans shape own other XLow a b held = held.along_y
first_spans shape own other XHigh a b held = held.along_y
first_spans shape own other YLow a b held = held.along_x
first_spans shape own other YHigh a b held = held.along_x
first_spans shape own other ZLow a b held = held.along_x
first_spans shape own other ZHigh a b held = held.along_x

pub second_aligned : (c : Cube) (face : Face) → IsAligned c → IsMultiple (second_low face c) c.edge
second_aligned c XLow is = is.along_z
second_aligned c XHigh is = is.along_z
second_aligned c YLow is = is.along_z
second_aligned c YHigh is = is.along_z
second_aligned c ZLow is = is.along_y
second_aligned c ZHigh is = is.along_y

pub second_spans : (shape : Shape) (own other : Cube) (face : Face) (a b : ℕ) → Holds other (unit_across shape own face a b) → Spans (second_low face other) other.edge (second_low face own + b)
second_spans shape own other XLow a b held = held.along_z
second_spans shape own other XHigh a b held = held.along_z
second_spans shape own other YLow a b held = held.along_z
second_spans shape own other YHigh a b held = held.along_z
second_spans shape own other ZLow a b held = held.along_y
second_spans shape own other ZHigh a b held = held.along_y
