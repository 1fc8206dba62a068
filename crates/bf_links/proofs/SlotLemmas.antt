-- Along one axis a leaf and its rim are four slots half as wide as the leaf. A neighbour on the grid of these slots fills at least one, and which
-- one it is tells a unit that the neighbour has.
use Rattle.std.proofs.Common.{◌≡◌, ℕ, ◌+◌, ◌-◌, ◌*◌, ◌/◌, ◌<◌, ◌≤◌, max, sym, ap, ◌∙◌, arith, inl, inr, ◌⊎◌}
use Rattle.std.proofs.Math.Nat.{mul-le-mul_left, mul-div_left}
use Rattle.std.proofs.lemmas.Bool.{cases_lt, cases_eq}
use Rattle.std.proofs.lemmas.Nat.{div_below}
use Rattle.bf_id.specs.Cube.{Spans, Meets}
use Rattle.bf_case.proofs.AlignLemmas.{IsMultiple}

-- ---- one axis, in half units: the leaf has its edge e, and another one lies from low on, for a length

-- which of four slots beside the leaf, from the one before it on, the other one covers
abbrev pub slot : ℕ → ℕ → ℕ → ℕ
slot x e low = (2 * low + e - 2 * x) / e

-- a unit of the other one, in that slot or around it
abbrev pub unit_at : ℕ → ℕ → ℕ → ℕ
unit_at x e low = max (2 * low) (2 * x - e) / 2

less_times : (k l e a b : ℕ) → a ≡ 2 * k * e → b ≡ (l + 1) * e → b - a ≡ (l + 1 - 2 * k) * e
less_times k l e a b a_is b_is =
    elim (cases_lt (l + 1) (2 * k)) [
      | inl none ↦
          let room : e * (l + 1) ≤ e * (2 * k) = mul-le-mul_left e (let most : l + 1 ≤ 2 * k = omega arith in most) in
          let zero : l + 1 - 2 * k ≡ 0 = omega arith in
          rw zero (omega arith)
      | inr more ↦
          let m = l + 1 - 2 * k in
          let whole : l + 1 ≡ 2 * k + m = omega arith in
          let long : b ≡ (2 * k + m) * e = b_is ∙ ap (λ n. n * e) whole in
          omega arith
    ]

-- a slot begins at a multiple of e
slot_exact : (x e low : ℕ) → 0 < e → IsMultiple x e → IsMultiple (2 * low) e → slot x e low * e ≡ 2 * low + e - 2 * x
slot_exact x e low some (k, is) (l, is') =
    let times : 2 * low + e - 2 * x ≡ (l + 1 - 2 * k) * e = less_times k l e (2 * x) (2 * low + e) (omega arith) (omega arith) in
    ap (λ n. n / e * e) times ∙ ap (λ n. n * e) (mul-div_left (l + 1 - 2 * k) some) ∙ sym times

pub slot_below : (x e low length : ℕ) → 0 < e → Meets x e low length → slot x e low < 4
slot_below x e low length some meets = div_below (2 * low + e - 2 * x) e 4 some (omega arith)

-- the unit is the other one's
pub unit_held : (x e low length : ℕ) → 0 < e → 0 < length → Meets x e low length → Spans low length (unit_at x e low)
unit_held x e low length some wide meets = (omega arith, omega arith)

none_or_wide : (x e : ℕ) → 0 < e → IsMultiple x e → (x ≡ 0) ⊎ (e ≤ x)
none_or_wide x e some (k, is) =
    elim (cases_lt k 1) [
      | inl none ↦ let zero : k ≡ 0 = omega arith in inl (let here : x ≡ 0 * e = is ∙ ap (λ n. n * e) zero in omega arith)
      | inr one ↦ let room : e * 1 ≤ e * k = mul-le-mul_left e one in inr (omega arith)
    ]

-- the slot tells the unit
pub unit_told : (x e low other : ℕ) → 0 < e → IsMultiple x e → IsMultiple (2 * low) e → IsMultiple (2 * other) e → slot x e low ≡ slot x e other
    → unit_at x e low ≡ unit_at x e other
unit_told x e low other some x_at low_at other_at same =
    let one = slot_exact x e low some x_at low_at in
    let two = slot_exact x e other some x_at other_at in
    let both : 2 * low + e - 2 * x ≡ 2 * other + e - 2 * x = sym one ∙ ap (λ n. n * e) same ∙ two in
    ap (λ n. n / 2) (elim (none_or_wide x e some x_at) [ inl first ↦ omega arith | inr wide ↦ omega arith ])

-- and in the two inner slots it is the leaf's own
pub unit_inner : (x e low : ℕ) → 0 < e → IsMultiple x e → IsMultiple (2 * low) e → 0 < slot x e low → slot x e low < 3 → Spans x e (unit_at x e low)
unit_inner x e low some x_at low_at after before =
    let exact = slot_exact x e low some x_at low_at in
    elim (cases_eq (slot x e low) 1) [
      | inl one ↦ let here : 1 * e ≡ 2 * low + e - 2 * x = ap (λ n. n * e) (sym one) ∙ exact in (omega arith, omega arith)
      | inr more ↦
          let two : slot x e low ≡ 2 = omega arith in
          let here : 2 * e ≡ 2 * low + e - 2 * x = ap (λ n. n * e) (sym two) ∙ exact in (omega arith, omega arith)
    ]
