-- Walls between blocks that are one level apart.
use Rattle.std.proofs.Common.{◌≡◌, ℕ, ◌+◌, ◌-◌, ◌*◌, ◌/◌, ◌%◌, ◌^◌, ◌<◌, ◌≤◌, arith, zero, suc, ◌∙◌, refl, List, length, get_or, cond, eqb, Bool, true, false, ◌&&◌, All, lit<, inl, inr}
use Rattle.std.proofs.lemmas.Bool.{cases_lt}
use Rattle.std.proofs.lemmas.List.{get_or_past}
use Rattle.bf_face.specs.declared.face.Face.{Face}
use Rattle.bf_face.specs.declared.face.Face.TheVariants.{XLow, XHigh, YLow, YHigh, ZLow, ZHigh}
use Rattle.bf_cells.specs.Grid.{Grid, IsGrid}
use Rattle.bf_cells.specs.Shell.{IsWall, wall_place, face_cell}
use Rattle.bf_cells.specs.Levels.{doubled_face, doubled_square, face_mean, in_quarter, mean_values, quarter_value, quarter_values, square_at, with_quarter}
use Rattle.bf_cells.proofs.GridLemmas.{cond_small}
use Rattle.bf_cells.proofs.WallLemmas.{square_is, get_or-square, length-square, IsWall-square, face_cell_small, wall_small}
use Rattle.bf_cells.proofs.OctantLemmas.{half_axis, mean_small}

-- ---- a quarter of a coarser face

pub doubled_face_is : (g : Grid) (face : Face) (half_a half_b : ℕ) (wall : List ℕ) → length wall ≡ g.side * g.side
    → ((a b : ℕ) → a < g.side → b < g.side
    → get_or wall (wall_place g.side a b) 0 ≡ face_cell g face (half_a * (g.side / 2) + a / 2) (half_b * (g.side / 2) + b / 2))
    → wall ≡ doubled_face g face half_a half_b
unfolding doubled_face
doubled_face_is g face half_a half_b wall full values =
    square_is g.side (λ a b. face_cell g face (half_a * (g.side / 2) + a / 2) (half_b * (g.side / 2) + b / 2)) wall full values

pub get_or-doubled_face : (g : Grid) (face : Face) (half_a half_b a b : ℕ) → a < g.side → b < g.side
    → get_or (doubled_face g face half_a half_b) (wall_place g.side a b) 0 ≡ face_cell g face (half_a * (g.side / 2) + a / 2) (half_b * (g.side / 2) + b / 2)
unfolding doubled_face
get_or-doubled_face g face half_a half_b a b ha hb =
    get_or-square g.side (λ a b. face_cell g face (half_a * (g.side / 2) + a / 2) (half_b * (g.side / 2) + b / 2)) a b ha hb

pub IsWall-doubled_face : (g : Grid) (face : Face) (half_a half_b : ℕ) → IsGrid g → IsWall g.side (doubled_face g face half_a half_b)
unfolding doubled_face
IsWall-doubled_face g face half_a half_b valid =
    IsWall-square g.side _ (λ a b. face_cell_small g valid face (half_a * (g.side / 2) + a / 2) (half_b * (g.side / 2) + b / 2))

-- ---- squares of half the side

pub quarter_values_is : (g : Grid) (face : Face) (half_a half_b : ℕ) (values : List ℕ) → length values ≡ g.side / 2 * (g.side / 2)
    → ((a b : ℕ) → a < g.side / 2 → b < g.side / 2
    → square_at (g.side / 2) values a b ≡ face_cell g face (half_a * (g.side / 2) + a) (half_b * (g.side / 2) + b))
    → values ≡ quarter_values g face half_a half_b
unfolding quarter_values
quarter_values_is g face half_a half_b values full cells =
    square_is (g.side / 2) (λ a b. face_cell g face (half_a * (g.side / 2) + a) (half_b * (g.side / 2) + b)) values full cells

pub quarter_values-at : (g : Grid) (face : Face) (half_a half_b a b : ℕ) → a < g.side / 2 → b < g.side / 2
    → square_at (g.side / 2) (quarter_values g face half_a half_b) a b ≡ face_cell g face (half_a * (g.side / 2) + a) (half_b * (g.side / 2) + b)
unfolding quarter_values
quarter_values-at g face half_a half_b a b ha hb =
    get_or-square (g.side / 2) (λ a b. face_cell g face (half_a * (g.side / 2) + a) (half_b * (g.side / 2) + b)) a b ha hb

pub length-quarter_values : (g : Grid) (face : Face) (half_a half_b : ℕ) → length (quarter_values g face half_a half_b) ≡ g.side / 2 * (g.side / 2)
unfolding quarter_values
length-quarter_values g face half_a half_b = length-square (g.side / 2) (λ a b. face_cell g face (half_a * (g.side / 2) + a) (half_b * (g.side / 2) + b))

pub mean_values_is : (g : Grid) (face : Face) (values : List ℕ) → length values ≡ g.side / 2 * (g.side / 2)
    → ((a b : ℕ) → a < g.side / 2 → b < g.side / 2 → square_at (g.side / 2) values a b ≡ face_mean g face a b)
    → values ≡ mean_values g face
unfolding mean_values
mean_values_is g face values full means = square_is (g.side / 2) (face_mean g face) values full means

pub mean_values-at : (g : Grid) (face : Face) (a b : ℕ) → a < g.side / 2 → b < g.side / 2
    → square_at (g.side / 2) (mean_values g face) a b ≡ face_mean g face a b
unfolding mean_values
mean_values-at g face a b ha hb = get_or-square (g.side / 2) (face_mean g face) a b ha hb

pub length-mean_values : (g : Grid) (face : Face) → length (mean_values g face) ≡ g.side / 2 * (g.side / 2)
unfolding mean_values
length-mean_values g face = length-square (g.side / 2) (face_mean g face)

pub doubled_square_is : (s : ℕ) (values wall : List ℕ) → length wall ≡ s * s
    → ((a b : ℕ) → a < s → b < s → get_or wall (wall_place s a b) 0 ≡ square_at (s / 2) values (a / 2) (b / 2)) → wall ≡ doubled_square s values
unfolding doubled_square
doubled_square_is s values wall full cells = square_is s (λ a b. square_at (s / 2) values (a / 2) (b / 2)) wall full cells

pub get_or-doubled_square : (s : ℕ) (values : List ℕ) (a b : ℕ) → a < s → b < s
    → get_or (doubled_square s values) (wall_place s a b) 0 ≡ square_at (s / 2) values (a / 2) (b / 2)
unfolding doubled_square
get_or-doubled_square s values a b ha hb = get_or-square s (λ a b. square_at (s / 2) values (a / 2) (b / 2)) a b ha hb

-- a value of a list of small values is small, and past the end it counts as 0
pub item_small : (values : List ℕ) → All (λ v. v < 2 ^ 32) values → (k : ℕ) → get_or values k 0 < 2 ^ 32
item_small values small k =
    elim (cases_lt k (length values)) [
      | inl within ↦ small k 0 within
      | inr past ↦ rw (get_or_past values k 0 past) (lit< tt)
    ]

pub IsWall-doubled_square : (s : ℕ) (values : List ℕ) → All (λ v. v < 2 ^ 32) values → IsWall s (doubled_square s values)
unfolding doubled_square
IsWall-doubled_square s values small = IsWall-square s _ (λ a b. item_small values small (wall_place (s / 2) (a / 2) (b / 2)))

-- a half of an axis, and a place in it
pub half_fits : (s half : ℕ) → s % 2 ≡ 0 → half < 2 → half * (s / 2) + s / 2 ≤ s
half_fits s zero even low = omega arith
half_fits s (suc zero) even low = omega arith
half_fits s (suc (suc more)) even low = absurd (omega arith)

-- ---- a quarter that takes means

pub with_quarter_is : (s half_a half_b : ℕ) (value : ℕ → ℕ → ℕ) (old wall : List ℕ) → s % 2 ≡ 0 → 2 ≤ s → half_a < 2 → half_b < 2
    → length wall ≡ s * s
    → ((a b : ℕ) → a < s → b < s
    → get_or wall (wall_place s a b) 0 ≡ quarter_value (s / 2) (half_a * (s / 2)) (half_b * (s / 2)) value (get_or old (wall_place s a b) 0) a b)
    → wall ≡ with_quarter s half_a half_b value old
unfolding with_quarter
with_quarter_is s half_a half_b value old wall even two low_a low_b full values =
    let half = s / 2 in
    let pos : 0 < half = omega arith in
    square_is s (λ a b. cond (in_quarter s half_a half_b a b) (value (a % half) (b % half)) (get_or old (wall_place s a b) 0)) wall full (λ a b ha hb.
    let ax = half_axis half half_a a pos (omega arith) low_a in
    let ay = half_axis half half_b b pos (omega arith) low_b in
    values a b ha hb ∙ rw (ax.test, ay.test) (both (eqb (a / half) half_a) (eqb (b / half) half_b) _ _ _ (λ ea eb. rw (ax.rest ea, ay.rest eb) refl)))
  where
    both : (p q : Bool) (m n old : ℕ) → (p ≡ true → q ≡ true → m ≡ n) → cond q (cond p m old) old ≡ cond (p && q) n old
    both true true m n old e = e refl refl
    both true false m n old e = refl
    both false true m n old e = refl
    both false false m n old e = refl

pub get_or-with_quarter : (s half_a half_b : ℕ) (value : ℕ → ℕ → ℕ) (old : List ℕ) (a b : ℕ) → a < s → b < s
    → get_or (with_quarter s half_a half_b value old) (wall_place s a b) 0
    ≡ cond (in_quarter s half_a half_b a b) (value (a % (s / 2)) (b % (s / 2))) (get_or old (wall_place s a b) 0)
unfolding with_quarter
get_or-with_quarter s half_a half_b value old a b ha hb =
    get_or-square s (λ a b. cond (in_quarter s half_a half_b a b) (value (a % (s / 2)) (b % (s / 2))) (get_or old (wall_place s a b) 0)) a b ha hb

pub face_mean_small : (g : Grid) → IsGrid g → (face : Face) (a b : ℕ) → face_mean g face a b < 2 ^ 32
unfolding face_mean
face_mean_small g valid XLow a b = mean_small g valid 0 a b
face_mean_small g valid XHigh a b = mean_small g valid (g.side / 2 - 1) a b
face_mean_small g valid YLow a b = mean_small g valid a 0 b
face_mean_small g valid YHigh a b = mean_small g valid a (g.side / 2 - 1) b
face_mean_small g valid ZLow a b = mean_small g valid a b 0
face_mean_small g valid ZHigh a b = mean_small g valid a b (g.side / 2 - 1)

pub IsWall-with_quarter : (s half_a half_b : ℕ) (value : ℕ → ℕ → ℕ) (old : List ℕ) → ((a b : ℕ) → value a b < 2 ^ 32) → IsWall s old
    → IsWall s (with_quarter s half_a half_b value old)
unfolding with_quarter
IsWall-with_quarter s half_a half_b value old small valid =
    IsWall-square s _ (λ a b. cond_small (in_quarter s half_a half_b a b) _ _ (small (a % (s / 2)) (b % (s / 2))) (wall_small s old valid (wall_place s a b)))
