-- Steps along one axis: the places before and after a stretch, in units and in parts of a unit.
use Rattle.std.proofs.Common.{◌≡◌, None, Some, ◌≢◌, ℕ, ◌+◌, ◌-◌, ◌*◌, ◌<◌, ◌≤◌, ◌⊎◌, ◌↔◌, cond, eqb, inl, inr, refl, sym, subst, ap, ◌∙◌, arith}
use Rattle.std.specs.Prelude.{⊤}
use Rattle.std.proofs.Math.Nat.{mul-le-mul_left}
use Rattle.std.proofs.lemmas.Bool.{cases_order}
use Rattle.std.proofs.lemmas.Bool.Decides.{eqb_tells}
use Rattle.bf_id.specs.Axis.{Axis, JoinsOn, MeetsOn, IsFirst, IsLast, is_first, is_last, back, on, before, after, in_parts}
use Rattle.bf_id.specs.Cube.{Spans}

-- ---- choices by a test of two numbers

-- the choice by a test of two equal numbers, and of two others
pub choose-same : {X : Type 0} (a b : ℕ) (x y : X) → a ≡ b → cond (eqb a b) x y ≡ x
choose-same a b x y e = elim (eqb_tells a b) [ inl p ↦ ap (λ t. cond t x y) p.0 | inr p ↦ absurd (p.1 e) ]

pub choose-other : {X : Type 0} (a b : ℕ) (x y : X) → a ≢ b → cond (eqb a b) x y ≡ y
choose-other a b x y ne = elim (eqb_tells a b) [ inl p ↦ absurd (ne p.1) | inr p ↦ ap (λ t. cond t x y) p.0 ]

-- and by the test of the domain's edge
pub first-here : {X : Type 0} (axis : Axis) (place : ℕ) (x y : X) → IsFirst axis place → cond (is_first axis place) x y ≡ x
first-here axis place x y at = choose-same place 0 x y at

pub first-elsewhere : {X : Type 0} (axis : Axis) (place : ℕ) (x y : X) → (IsFirst axis place → ⊥) → cond (is_first axis place) x y ≡ y
first-elsewhere axis place x y inner = choose-other place 0 x y inner

pub last-here : {X : Type 0} (axis : Axis) (end : ℕ) (x y : X) → IsLast axis end → cond (is_last axis end) x y ≡ x
last-here axis end x y at = choose-same end axis.extent x y at

pub last-elsewhere : {X : Type 0} (axis : Axis) (end : ℕ) (x y : X) → (IsLast axis end → ⊥) → cond (is_last axis end) x y ≡ y
last-elsewhere axis end x y inner = choose-other end axis.extent x y inner

-- a place inside the axis is no edge
pub not_first : (axis : Axis) (place : ℕ) → place ≢ 0 → IsFirst axis place → ⊥
not_first axis place ne at = ne at

pub not_last : (axis : Axis) (end : ℕ) → end ≢ axis.extent → IsLast axis end → ⊥
not_last axis end ne at = ne at

-- ---- steps

pub back-inner : (axis : Axis) (step place : ℕ) → place ≢ 0 → back axis step place ≡ place - step
back-inner axis step place ne = refl

pub on-inner : (axis : Axis) (step place : ℕ) → place + step ≢ axis.extent → on axis step place ≡ place + step
on-inner axis step place ne = refl

-- ---- the unit across

-- a stretch that has the unit before another one's first, but not that first unit, ends where the other begins
pub joins_before : (axis : Axis) (x y f : ℕ) → (IsFirst axis x → ⊥) → y + f ≤ axis.extent → Spans y f (back axis 1 x) → (Spans y f x → ⊥) → JoinsOn axis (y + f) x
joins_before axis x y f inner fits held apart =
    let outside : x < y + f → ⊥ = λ h. apart (omega (arith, inner), h) in omega (arith, inner, outside)

-- one that has the unit after another one's last, but not that last unit, begins where the other ends
pub joins_after : (axis : Axis) (x e y f : ℕ) → 0 < e → (IsLast axis (x + e) → ⊥) → Spans y f (on axis e x) → (Spans y f (x + (e - 1)) → ⊥) → JoinsOn axis (x + e) y
joins_after axis x e y f wide inner held apart =
    let outside : y ≤ x + (e - 1) → ⊥ = λ h. apart (h, omega arith) in omega (arith, outside)

-- a stretch that is short beside the axis, which all are
abbrev pub IsShort : Axis → ℕ → Type 0
IsShort axis e = ⊤

-- such a stretch has neither the unit before it nor the one after it
pub not_before_itself : (axis : Axis) (x e : ℕ) → (IsFirst axis x → ⊥) → IsShort axis e → Spans x e (back axis 1 x) → ⊥
not_before_itself axis x e inner short held = omega (arith, inner)

pub not_after_itself : (axis : Axis) (x e : ℕ) → (IsLast axis (x + e) → ⊥) → IsShort axis e → Spans x e (on axis e x) → ⊥
not_after_itself axis x e inner short held = omega arith

-- a stretch that ends where another begins has the unit before that one, and doesn't let it begin at the domain's edge
pub spans_before : (axis : Axis) (x e y f : ℕ) → 0 < e → 0 < f → x + e ≤ axis.extent → y + f ≤ axis.extent → JoinsOn axis (y + f) x → Spans y f (back axis 1 x)
spans_before axis x e y f wide wide' fits fits' joins = (omega arith, omega arith)

pub joins_inner_first : (axis : Axis) (x y f : ℕ) → 0 < f → JoinsOn axis (y + f) x → IsFirst axis x → ⊥
joins_inner_first axis x y f wide joins at = omega arith

-- one that begins where another ends has the unit after that one, and doesn't let it end at the domain's edge
pub spans_after : (axis : Axis) (x e y f : ℕ) → 0 < f → x + e ≤ axis.extent → y + f ≤ axis.extent → JoinsOn axis (x + e) y → Spans y f (on axis e x)
spans_after axis x e y f wide fits fits' joins = (omega arith, omega arith)

pub joins_inner_last : (axis : Axis) (x e y f : ℕ) → 0 < f → y + f ≤ axis.extent → JoinsOn axis (x + e) y → IsLast axis (x + e) → ⊥
joins_inner_last axis x e y f wide fits joins at = omega arith

-- none begins at its own end
pub not_joined_to_itself : (axis : Axis) (x e : ℕ) → IsShort axis e → 0 < e → JoinsOn axis (x + e) x → ⊥
not_joined_to_itself axis x e short wide joins = omega arith

-- the unit across lies on the axis
pub back-below : (axis : Axis) (x : ℕ) → (IsFirst axis x → ⊥) → 0 < axis.extent → x < axis.extent → back axis 1 x < axis.extent
back-below axis x inner some below = omega arith

pub on-below : (axis : Axis) (step x : ℕ) → (IsLast axis (x + step) → ⊥) → 0 < axis.extent → x + step ≤ axis.extent → on axis step x < axis.extent
on-below axis step x inner some fits = omega (arith, inner)

-- ---- in parts of a unit

-- where the last part of a stretch ends
end-parts : (side x e : ℕ) → 0 < side → side * x + (side - 1) * e + e ≡ side * (x + e)
end-parts side x e some =
    let m = side - 1 in
    let whole : m + 1 ≡ side = omega arith in
    subst (λ s. s * x + m * e + e ≡ s * (x + e)) whole (omega arith)

same_times : (side k l : ℕ) → 0 < side → side * k ≡ side * l → k ≡ l
same_times side k l some e = elim (cases_order k l) [
  | inl is ↦ is
  | inr (inl less) ↦ absurd (let up : k + 1 ≤ l = omega arith in let room : side * (k + 1) ≤ side * l = mul-le-mul_left side up in omega arith)
  | inr (inr more) ↦ absurd (let up : l + 1 ≤ k = omega arith in let room : side * (l + 1) ≤ side * k = mul-le-mul_left side up in omega arith)
]

-- the part before the first part of a stretch is the last of the stretch that ends there
pub back-parts : (axis : Axis) (side low t x e : ℕ) → 0 < side → 0 < t → 0 < e → low + t ≤ axis.extent → x + e ≤ axis.extent → JoinsOn axis (low + t) x
    → back (in_parts side axis) e (side * x + 0 * e) ≡ side * (low + t) - e
back-parts axis side low t x e some wide own_wide fits own_fits joins = rw joins (omega arith)

-- the part after the last part of a stretch is the first of the stretch that begins there
pub on-parts : (axis : Axis) (side low t x e : ℕ) → 0 < side → 0 < t → low + t ≤ axis.extent → x + e ≤ axis.extent → JoinsOn axis (x + e) low
    → on (in_parts side axis) e (side * x + (side - 1) * e) ≡ side * low
on-parts axis side low t x e some wide fits own_fits joins = end-parts side x e some ∙ ap (λ n. side * n) joins

-- the tests of the domain's edge in parts of a unit
pub first-parts : {X : Type 0} (axis : Axis) (side x e : ℕ) (p q : X) → IsFirst axis x → cond (is_first (in_parts side axis) (side * x + 0 * e)) p q ≡ p
first-parts axis side x e p q at = choose-same (side * x + 0 * e) 0 p q (rw at (omega arith))

pub not-first-parts : {X : Type 0} (axis : Axis) (side x e : ℕ) (p q : X) → 0 < side → (IsFirst axis x → ⊥) → cond (is_first (in_parts side axis) (side * x + 0 * e)) p q ≡ q
not-first-parts axis side x e p q some inner =
    choose-other (side * x + 0 * e) 0 p q (λ at. inner (let h = mul-le-mul_left x (let one : 1 ≤ side = omega arith in one) in omega (arith, h)))

pub last-parts : {X : Type 0} (axis : Axis) (side x e : ℕ) (p q : X) → 0 < side → IsLast axis (x + e) → cond (is_last (in_parts side axis) (side * x + (side - 1) * e + e)) p q ≡ p
last-parts axis side x e p q some at = choose-same _ (side * axis.extent) p q (end-parts side x e some ∙ ap (λ n. side * n) at)

pub not-last-parts : {X : Type 0} (axis : Axis) (side x e : ℕ) (p q : X) → 0 < side → x + e ≤ axis.extent → (IsLast axis (x + e) → ⊥)
    → cond (is_last (in_parts side axis) (side * x + (side - 1) * e + e)) p q ≡ q
not-last-parts axis side x e p q some fits inner =
    choose-other _ (side * axis.extent) p q (λ at. inner (same_times side (x + e) axis.extent some (sym (end-parts side x e some) ∙ at)))

-- ---- a whole part for a unit

-- the part before a whole one lies in the whole one before, and the part after it in the whole one after
pub back_spans : (axis : Axis) (side x : ℕ) → (IsFirst axis x → ⊥) → 0 < side → x < axis.extent → Spans (side * back axis 1 x) side (back (in_parts side axis) 1 (side * x))
back_spans axis side x inner some below =
    let m = x - 1 in
    let is : m + 1 ≡ x = omega (arith, inner) in
    let whole : side * m + side ≡ side * x = subst (λ n. side * m + side ≡ side * n) is (omega arith) in
    (omega arith, omega arith)

pub on_spans : (axis : Axis) (side x : ℕ) → 0 < side → x < axis.extent → Spans (side * on axis 1 x) side (on (in_parts side axis) side (side * x))
on_spans axis side x some below = (omega arith, omega arith)

-- a place has one before it, or lies at the domain's edge, and so has one after it
pub before_cases : (axis : Axis) (place : ℕ) → ((before axis 1 place ≡ None) × IsFirst axis place) ⊎ ((before axis 1 place ≡ Some (back axis 1 place)) × (IsFirst axis place → ⊥))
before_cases axis place = elim (cases_order place 0) [
  | inl e ↦ inl (first-here axis place _ _ e, e)
  | inr more ↦ let inner = not_first axis place (λ e. elim more [ inl lt ↦ omega arith | inr gt ↦ omega arith ]) in inr (first-elsewhere axis place _ _ inner, inner)
]

pub after_cases : (axis : Axis) (place : ℕ) → ((after axis 1 place ≡ None) × IsLast axis (place + 1)) ⊎ ((after axis 1 place ≡ Some (on axis 1 place)) × (IsLast axis (place + 1) → ⊥))
after_cases axis place = elim (cases_order (place + 1) axis.extent) [
  | inl e ↦ inl (last-here axis (place + 1) _ _ e, e)
  | inr more ↦ let inner = not_last axis (place + 1) (λ e. elim more [ inl lt ↦ omega arith | inr gt ↦ omega arith ]) in inr (last-elsewhere axis (place + 1) _ _ inner, inner)
]

-- the domain's edge, in parts
pub first_in_parts : (axis : Axis) (side place : ℕ) → 0 < side → IsFirst axis place ↔ IsFirst (in_parts side axis) (side * place)
first_in_parts axis side place some = (λ at. ap (λ n. side * n) at ∙ omega arith, λ at. (let h = mul-le-mul_left place (let one : 1 ≤ side = omega arith in one) in omega (arith, h)))

pub last_in_parts : (axis : Axis) (side end whole : ℕ) → 0 < side → whole ≡ side * end → IsLast axis end ↔ IsLast (in_parts side axis) whole
last_in_parts axis side end whole some is = (λ at. is ∙ ap (λ n. side * n) at, λ at. same_times side end axis.extent some (sym is ∙ at))

-- ---- meeting, by the units beside a stretch

-- a place is the domain's edge or it isn't
pub first_cases : (axis : Axis) (place : ℕ) → IsFirst axis place ⊎ (IsFirst axis place → ⊥)
first_cases axis place = elim (before_cases axis place) [ inl at ↦ inl at.1 | inr at ↦ inr at.1 ]

pub last_cases : (axis : Axis) (end : ℕ) → IsLast axis end ⊎ (IsLast axis end → ⊥)
last_cases axis end = elim (cases_order end axis.extent) [
  | inl e ↦ inl e
  | inr more ↦ inr (not_last axis end (λ e. elim more [ inl lt ↦ omega arith | inr gt ↦ omega arith ]))
]

-- what has a stretch's first unit meets it
pub meets_here : (axis : Axis) (a e b f : ℕ) → Spans b f a → MeetsOn axis a e b f
meets_here axis a e b f held = (omega arith, omega arith)

-- and what has the unit before it, and what has the one after it
pub meets_before : (axis : Axis) (a e b f : ℕ) → 0 < e → (IsFirst axis a → ⊥) → a + e ≤ axis.extent → Spans b f (back axis 1 a) → MeetsOn axis a e b f
meets_before axis a e b f wide inner fits held = (omega (arith, inner), omega (arith, inner))

pub meets_after : (axis : Axis) (a e b f : ℕ) → (IsLast axis (a + e) → ⊥) → Spans b f (on axis e a) → MeetsOn axis a e b f
meets_after axis a e b f inner held = (omega arith, omega arith)

-- what meets a stretch shares a unit with it, or has the unit before it or the one after it
pub meets_cases : (axis : Axis) (a e b f : ℕ) → 0 < e → 0 < f → a + e ≤ axis.extent → b + f ≤ axis.extent → MeetsOn axis a e b f
    → ((a < b + f) × (b < a + e)) ⊎ ((IsFirst axis a → ⊥) × Spans b f (back axis 1 a)) ⊎ ((IsLast axis (a + e) → ⊥) × Spans b f (on axis e a))
meets_cases axis a e b f wide wide' fits fits' m = here (cases_order (b + f) a) (cases_order (a + e) b)
  where
    here : (b + f ≡ a) ⊎ ((b + f < a) ⊎ (a < b + f)) → (a + e ≡ b) ⊎ ((a + e < b) ⊎ (b < a + e))
        → ((a < b + f) × (b < a + e)) ⊎ ((IsFirst axis a → ⊥) × Spans b f (back axis 1 a)) ⊎ ((IsLast axis (a + e) → ⊥) × Spans b f (on axis e a))
    here (inl ends) later = inr (inl (λ z. omega arith, (omega arith, omega arith)))
    here (inr before) (inl begins) = inr (inr (λ z. omega arith, (omega arith, omega arith)))
    here (inr before) (inr after) =
        inl (elim before [ inl lt ↦ absurd (omega arith) | inr gt ↦ gt ], elim after [ inl lt ↦ absurd (omega arith) | inr gt ↦ gt ])
