-- One axis of the domain: how its stretches lie to each other, where it ends, and the steps along it.
use Rattle.std.specs.Prelude.{◌≡◌, ℕ, ◌+◌, ◌-◌, ◌*◌, ◌==◌, Bool, Option, Some, None, if◌then◌else◌}
use Rattle.bf_id.specs.Cube.{Meets, Overlaps, meets}

-- an axis, by its length
pub record Axis : Type 0 where
  pub extent : ℕ

-- two places of the axis stand so to each other; what asks how stretches lie to each other asks this, and steps along the
-- axis don't
abbrev pub Somewhere : Axis → (ℕ → ℕ → Type 0) → ℕ → ℕ → Type 0
Somewhere axis P a b = P a b

-- two closed stretches share a point
abbrev pub MeetsOn : Axis → ℕ → ℕ → ℕ → ℕ → Type 0
MeetsOn axis low length other_low other_length = Somewhere axis (λ a b. Meets a length b other_length) low other_low

-- two stretches share a unit
abbrev pub OverlapsOn : Axis → ℕ → ℕ → ℕ → ℕ → Type 0
OverlapsOn axis low length other_low other_length = Somewhere axis (λ a b. Overlaps a length b other_length) low other_low

-- where one stretch ends the other begins
abbrev pub JoinsOn : Axis → ℕ → ℕ → Type 0
JoinsOn axis end low = Somewhere axis (λ a b. a ≡ b) end low

-- a place at the domain's edge: at its beginning, and at its end
abbrev pub IsFirst : Axis → ℕ → Type 0
IsFirst axis place = place ≡ 0

abbrev pub IsLast : Axis → ℕ → Type 0
IsLast axis end = end ≡ axis.extent

abbrev pub is_first : Axis → ℕ → Bool
is_first axis place = place == 0

abbrev pub is_last : Axis → ℕ → Bool
is_last axis end = end == axis.extent

-- the place so far before one that isn't at the domain's edge, and so far after it
abbrev pub back : Axis → ℕ → ℕ → ℕ
back axis step place = place - step

abbrev pub on : Axis → ℕ → ℕ → ℕ
on axis step place = place + step

-- the same, or none at the domain's edge
abbrev pub before : Axis → ℕ → ℕ → Option ℕ
before axis step place = if is_first axis place then None else Some (back axis step place)

abbrev pub after : Axis → ℕ → ℕ → Option ℕ
after axis step place = if is_last axis (place + step) then None else Some (on axis step place)

-- the axis told in parts of a unit, so many along it
abbrev pub in_parts : ℕ → Axis → Axis
in_parts side axis = record { extent = side * axis.extent }

-- the test of standing so
abbrev pub somewhere : Axis → (ℕ → ℕ → Bool) → ℕ → ℕ → Bool
somewhere axis p a b = p a b

abbrev pub meets_on : Axis → ℕ → ℕ → ℕ → ℕ → Bool
meets_on axis low length other_low other_length = somewhere axis (λ a b. meets a length b other_length) low other_low
