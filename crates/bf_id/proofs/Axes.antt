-- Stretches along one axis.
use Rattle.std.proofs.Common.{◌≡◌, ℕ, ◌+◌, ◌*◌, ◌/◌, ◌<◌, ◌≤◌, Bool, Decides, arith}
use Rattle.std.specs.Prelude.{⊤, nat_le}
use Rattle.std.proofs.lemmas.Bool.{leb-true, le-leb}
use Rattle.std.proofs.lemmas.Bool.Decides.{Decides-and}
use Rattle.bf_id.specs.Axis.{somewhere, meets_on, Axis, Somewhere, MeetsOn, OverlapsOn, JoinsOn}
use Rattle.bf_id.specs.Cube.{Meets, Overlaps, meets}
use Rattle.bf_id.proofs.Halves.{half_meeting}

-- ---- meeting

pub MeetsOn_sym : (axis : Axis) (a e b f : ℕ) → MeetsOn axis a e b f → MeetsOn axis b f a e
MeetsOn_sym axis a e b f m = omega arith

-- what a stretch within another meets, the other meets
pub MeetsOn-within : (axis : Axis) (a e b f d g : ℕ) → b ≤ a → a + e ≤ b + f → MeetsOn axis a e d g → MeetsOn axis b f d g
MeetsOn-within axis a e b f d g low high m = omega arith

pub MeetsOn-from_overlaps : (axis : Axis) (a e b f : ℕ) → OverlapsOn axis a e b f → MeetsOn axis a e b f
MeetsOn-from_overlaps axis a e b f o = omega arith

pub MeetsOn-from_joins : (axis : Axis) (a e b f : ℕ) → JoinsOn axis (a + e) b → MeetsOn axis a e b f
MeetsOn-from_joins axis a e b f j = omega arith

-- a stretch that an even stretch meets meets one of its halves
pub half_meeting_on : (axis : Axis) (low edge other length : ℕ) → edge / 2 + edge / 2 ≡ edge → MeetsOn axis low edge other length
    → (step : ℕ) × (step < 2) × MeetsOn axis (low + step * (edge / 2)) (edge / 2) other length
half_meeting_on axis low edge other length even m = half_meeting low edge other length even m

-- ---- faces

pub OverlapsOn_sym : (axis : Axis) (a e b f : ℕ) → OverlapsOn axis a e b f → OverlapsOn axis b f a e
OverlapsOn_sym axis a e b f o = omega arith

-- stretches that share a unit aren't both empty
pub overlaps_some : (axis : Axis) (a e b f : ℕ) → OverlapsOn axis a e b f → 0 < e + f
overlaps_some axis a e b f o = omega arith

-- two stretches that are short beside the axis, which all are
abbrev pub AreShort : Axis → ℕ → ℕ → Type 0
AreShort axis e f = ⊤

-- where one begins at the other's end, they share no unit
pub joins_part : (axis : Axis) (a e b f : ℕ) → AreShort axis e f → JoinsOn axis (a + e) b → OverlapsOn axis a e b f → ⊥
joins_part axis a e b f short j o = omega arith

-- and each begins at the other's end only where both are empty
pub joins_once : (axis : Axis) (a e b f : ℕ) → AreShort axis e f → 0 < e + f → JoinsOn axis (a + e) b → JoinsOn axis (b + f) a → ⊥
joins_once axis a e b f short some j k = omega arith

-- stretches that share a unit where they stand
pub OverlapsOn-here : (axis : Axis) (a e b f : ℕ) → a < b + f → b < a + e → OverlapsOn axis a e b f
OverlapsOn-here axis a e b f p q = (p, q)

-- and where stretches of the axis share a unit, they stand so
pub Overlaps-from_axis : (axis : Axis) (a e b f : ℕ) → a + e ≤ axis.extent → b + f ≤ axis.extent → OverlapsOn axis a e b f → Overlaps a e b f
Overlaps-from_axis axis a e b f fits fits' o = o

-- ---- tests

pub Decides-leb : (a b : ℕ) → Decides (nat_le a b) (a ≤ b)
Decides-leb a b = (leb-true a b, le-leb a b)

pub meets_decides : (low length other other_length : ℕ) → Decides (meets low length other other_length) (Meets low length other other_length)
meets_decides low length other other_length =
    Decides-and (nat_le low (other + other_length)) (nat_le other (low + length)) (Decides-leb low (other + other_length)) (Decides-leb other (low + length))

pub somewhere_decides : (axis : Axis) (p : ℕ → ℕ → Bool) (P : ℕ → ℕ → Type 0) (a b : ℕ) → ((c d : ℕ) → Decides (p c d) (P c d))
    → Decides (somewhere axis p a b) (Somewhere axis P a b)
somewhere_decides axis p P a b each = each a b

pub meets_on_decides : (axis : Axis) (low length other other_length : ℕ) → Decides (meets_on axis low length other other_length) (MeetsOn axis low length other other_length)
meets_on_decides axis low length other other_length =
    somewhere_decides axis (λ a b. meets a length b other_length) (λ a b. Meets a length b other_length) low other (λ a b. meets_decides a length b other_length)
