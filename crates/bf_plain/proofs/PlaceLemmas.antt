-- A leaf that touches a finer one holds one of the places beside it.
use Rattle.std.proofs.Common.{◌≡◌, ◌∙◌, ℕ, ◌+◌, ◌-◌, ◌*◌, ◌/◌, ◌%◌, ◌^◌, ◌<◌, ◌≤◌, ◌⊎◌, inl, inr, sym, subst, arith, pow_pos}
use Rattle.std.proofs.lemmas.Nat.{mul-le}
use Rattle.std.proofs.lemmas.Bool.{cases_eq, cases_lt}
use Rattle.bf_id.specs.declared.shape.Shape.{Shape}
use Rattle.bf_id.specs.Cube.{Cube, Spans, Holds}
use Rattle.bf_id.specs.Axis.{Axis, IsFirst, IsLast, MeetsOn, back, on}
use Rattle.bf_id.specs.Meeting.{Meet}
use Rattle.bf_id.proofs.Steps.{choose-same, choose-other, first-here, first-elsewhere, last-here, last-elsewhere, first_cases, last_cases, meets_here, meets_before, meets_after, meets_cases}
use Rattle.bf_id.specs.Shape.{IsShape, root_cube, axis_x, axis_y, axis_z}
use Rattle.bf_id.specs.Id.{BlockId, IsId, InShape, level_of, box_of}
use Rattle.bf_id.proofs.Boxes.{root_in_domain, edge-box}
use Rattle.bf_id.proofs.Cubes.{narrowed_within}
use Rattle.bf_case.specs.Sample.{scale_of}
use Rattle.bf_id.specs.Neighbours.{IsPlaced, place_beside, unit_beside}
use Rattle.bf_case.proofs.AlignLemmas.{IsMultiple}
use Rattle.bf_plain.proofs.AtlasLemmas.{OnGrid, box_on_grid, box_on_fine_grid}

-- ---- along one axis

-- what has a place beside a stretch meets it
near_meets : (axis : Axis) (low length side other other_length : ℕ) → 0 < length → low + length ≤ axis.extent
    → Spans other other_length (unit_beside axis low length side) → MeetsOn axis low length other other_length
near_meets axis low length side other other_length some room held = by (cases_eq side 0) (cases_eq side 1) (first_cases axis low) (last_cases axis (low + length))
  where
    by : (side ≡ 0) ⊎ (side ≡ 0 → ⊥) → (side ≡ 1) ⊎ (side ≡ 1 → ⊥) → IsFirst axis low ⊎ (IsFirst axis low → ⊥) → IsLast axis (low + length) ⊎ (IsLast axis (low + length) → ⊥)
        → MeetsOn axis low length other other_length
    by (inl zero_is) _ (inl first) _ =
        let u : unit_beside axis low length side ≡ low = choose-same side 0 _ _ zero_is ∙ first-here axis low _ _ first in
        meets_here axis low length other other_length (rw u at held)
    by (inl zero_is) _ (inr inner) _ =
        let u : unit_beside axis low length side ≡ back axis 1 low = choose-same side 0 _ _ zero_is ∙ first-elsewhere axis low _ _ inner in
        meets_before axis low length other other_length some inner room (rw u at held)
    by (inr not_zero) (inl one_is) _ _ =
        let u : unit_beside axis low length side ≡ low = choose-other side 0 _ _ not_zero ∙ choose-same side 1 _ _ one_is in
        meets_here axis low length other other_length (rw u at held)
    by (inr not_zero) (inr not_one) _ (inl last) =
        let u : unit_beside axis low length side ≡ low = choose-other side 0 _ _ not_zero ∙ choose-other side 1 _ _ not_one ∙ last-here axis (low + length) _ _ last in
        meets_here axis low length other other_length (rw u at held)
    by (inr not_zero) (inr not_one) _ (inr inner) =
        let u : unit_beside axis low length side ≡ on axis length low = choose-other side 0 _ _ not_zero ∙ choose-other side 1 _ _ not_one ∙ last-elsewhere axis (low + length) _ _ inner in
        meets_after axis low length other other_length inner (rw u at held)

-- of two multiples, one below the other with a unit more is no greater
no_greater : (unit low other : ℕ) → 0 < unit → IsMultiple low unit → IsMultiple other unit → other < low + unit → other ≤ low
no_greater unit low other some (a, p) (b, q) below = by (cases_lt a b)
  where
    by : (a < b) ⊎ (b ≤ a) → other ≤ low
    by (inl more) =
        let far : (a + 1) * unit ≤ b * unit = mul-le (a + 1) unit b unit (omega arith) (omega arith) in
        absurd (omega arith)
    by (inr less) =
        let near : b * unit ≤ a * unit = mul-le b unit a unit less (omega arith) in
        omega arith

-- a stretch that meets another one, which is as long or shorter, has one of its places
beside_met : (axis : Axis) (low length other other_length : ℕ) → 0 < length → 0 < other_length → IsMultiple low length → IsMultiple other length
    → low + length ≤ axis.extent → other + other_length ≤ axis.extent → MeetsOn axis low length other other_length
    → (side : ℕ) × (side < 3) × Spans other other_length (unit_beside axis low length side)
beside_met axis low length other other_length some some_other low_is other_is room inside meets = elim (meets_cases axis low length other other_length some some_other room inside meets) [
  | inl both ↦ (1, omega arith, (no_greater length low other some low_is other_is both.1, both.0))
  | inr (inl before) ↦
      let u : unit_beside axis low length 0 ≡ back axis 1 low = first-elsewhere axis low _ _ before.0 in
      (0, omega arith, rw u before.1)
  | inr (inr after) ↦
      let u : unit_beside axis low length 2 ≡ on axis length low = last-elsewhere axis (low + length) _ _ after.0 in
      (2, omega arith, rw u after.1)
]

-- ---- in space

three_sides : (a b c : ℕ) → a < 3 → b < 3 → c < 3 → let step = a + 3 * b + 9 * c in (step < 27) × (step % 3 ≡ a) × (step / 3 % 3 ≡ b) × (step / 9 ≡ c)
three_sides a b c p q r = (omega arith, omega arith, omega arith, omega arith)

-- the cube of a block of the domain
pub box_is_placed : (shape : Shape) (i : BlockId) → IsShape shape → IsId i → InShape shape i → IsPlaced shape (box_of shape i)
box_is_placed shape i is id in' =
    let root = root_in_domain shape i.root is in' in
    let within = narrowed_within i.digits (root_cube shape i.root) id.octal in
    let edge : (box_of shape i).edge ≡ 2 ^ (4 - level_of i) = edge-box shape i (4 - level_of i) (omega (arith, id.shallow)) in
    record {
      some = omega (arith, edge, pow_pos (4 - level_of i));
      along_x = omega arith;
      along_y = omega arith;
      along_z = omega arith;
    }

-- a cube that holds a place beside another meets it
pub meets_from_place : (shape : Shape) (c d : Cube) (step : ℕ) → IsPlaced shape c → Holds d (place_beside shape c step) → Meet shape c d
meets_from_place shape c d step placed holds =
    record {
      along_x = near_meets (axis_x shape) c.x c.edge (step % 3) d.x d.edge placed.some placed.along_x holds.along_x;
      along_y = near_meets (axis_y shape) c.y c.edge (step / 3 % 3) d.y d.edge placed.some placed.along_y holds.along_y;
      along_z = near_meets (axis_z shape) c.z c.edge (step / 9) d.z d.edge placed.some placed.along_z holds.along_z;
    }

-- a cube of the domain that meets another holds one of its places, if it is as great or greater
place_from_meets : (shape : Shape) (c d : Cube) → IsPlaced shape c → IsPlaced shape d → OnGrid c.edge c → OnGrid c.edge d → Meet shape c d
    → (step : ℕ) × (step < 27) × Holds d (place_beside shape c step)
place_from_meets shape c d placed in' own other meet =
    let x = beside_met (axis_x shape) c.x c.edge d.x d.edge placed.some in'.some own.x other.x placed.along_x in'.along_x meet.along_x in
    let y = beside_met (axis_y shape) c.y c.edge d.y d.edge placed.some in'.some own.y other.y placed.along_y in'.along_y meet.along_y in
    let z = beside_met (axis_z shape) c.z c.edge d.z d.edge placed.some in'.some own.z other.z placed.along_z in'.along_z meet.along_z in
    let sides = three_sides x.0 y.0 z.0 x.1 y.1 z.1 in (
      x.0 + 3 * y.0 + 9 * z.0,
      sides.0,
      record {
        along_x = rw sides.1 x.2;
        along_y = rw sides.2 y.2;
        along_z = rw sides.3 z.2;
      },
    )

pub place_from_touch : (shape : Shape) (i j : BlockId) → IsShape shape → IsId i → IsId j → InShape shape i → InShape shape j → level_of i ≤ level_of j
    → Meet shape (box_of shape j) (box_of shape i) → (step : ℕ) × (step < 27) × Holds (box_of shape i) (place_beside shape (box_of shape j) step)
place_from_touch shape i j is p q i_in j_in coarse meet =
    let edge : (box_of shape j).edge ≡ scale_of (level_of j) = edge-box shape j (4 - level_of j) (omega (arith, q.shallow)) in
    let other : OnGrid (box_of shape j).edge (box_of shape i) =
    subst (λ n. OnGrid n (box_of shape i)) (sym edge) (box_on_fine_grid shape i (level_of j) coarse q.shallow) in
    place_from_meets shape (box_of shape j) (box_of shape i) (box_is_placed shape j is q j_in) (box_is_placed shape i is p i_in)
    (box_on_grid shape j q.shallow) other meet
