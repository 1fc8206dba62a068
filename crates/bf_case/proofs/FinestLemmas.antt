-- Finest cells in the cells of a leaf, and what a map samples there.
use Rattle.std.proofs.Common.{◌≡◌, ℕ, ◌+◌, ◌-◌, ◌*◌, ◌/◌, ◌%◌, ◌<◌, ◌≤◌, false, List, Contains, sym, ap, subst, ◌∙◌, arith}
use Rattle.std.specs.Prelude.{nat_le}
use Rattle.std.specs.Option.{option_map_or}
use Rattle.std.proofs.Math.Nat.{mul-le-mul_left, div-eq_of_lt-le, le-div_iff_mul-le}
use Rattle.std.proofs.lemmas.Nat.{div_below}
use Rattle.std.proofs.lemmas.Bool.{cond-true, cond-false, le-leb}
use Rattle.std.proofs.lemmas.Bool.Decides.{nat_tests}
use Rattle.bf_id.specs.declared.shape.Shape.{Shape}
use Rattle.bf_id.specs.Cube.{Cube, Voxel, Spans, Holds}
use Rattle.bf_id.specs.Id.{level_of, box_of}
use Rattle.bf_cells.specs.Grid.{cell_at}
use Rattle.bf_cells.specs.Octant.{mean_at}
use Rattle.bf_case.specs.Map.{Leaf, IsMap}
use Rattle.bf_case.specs.Sample.{scale_of, unit_of, moved, value_at, mean_of_eight, sample_of, sample}
use Rattle.bf_case.proofs.SampleLemmas.{leaf_holding}

-- along one axis, the finest cell q lies in the cell r of a block that begins at the unit low and whose cells have this scale
pub record IsAlong (side low scale q r : ℕ) : Type 0 where
  pub inside : r < side
  pub from : side * low + r * scale ≤ q
  pub before : q < side * low + r * scale + scale

-- the same along each axis, for the cell c
pub record IsIn (side : ℕ) (box : Cube) (scale : ℕ) (q c : Voxel) : Type 0 where
  pub along_x : IsAlong side box.x scale q.x c.x
  pub along_y : IsAlong side box.y scale q.y c.y
  pub along_z : IsAlong side box.z scale q.z c.z

-- ---- one axis

pub cell_along : (side low scale q r : ℕ) → IsAlong side low scale q r → (q - side * low) / scale ≡ r
cell_along side low scale q r at =
    let least = at.from in
    let most = at.before in
    div-eq_of_lt-le scale (omega arith) (omega arith)

pub unit_along : (side low scale q r : ℕ) → 0 < side → IsAlong side low scale q r → Spans low scale (q / side)
unit_along side low scale q r some at =
    let least = at.from in
    let most = at.before in
    let inside : r + 1 ≤ side = let h = at.inside in omega arith in
    let room : scale * (r + 1) ≤ scale * side = mul-le-mul_left scale inside in
    ((le-div_iff_mul-le some).1 (omega arith), div_below q side (low + scale) some (omega (arith, room)))

pub next_along : (side low scale q r : ℕ) → IsAlong side low scale q r → r + 1 < side → IsAlong side low scale (q + scale) (r + 1)
next_along side low scale q r at more =
    let least = at.from in
    let most = at.before in
    record { inside = more; from = omega arith; before = omega arith }

-- ---- leaves

-- what a leaf has at a finest cell
pub value_in : (shape : Shape) (side : ℕ) (leaf : Leaf) (q c : Voxel) → IsIn side (box_of shape leaf.0) (scale_of (level_of leaf.0)) q c
    → value_at shape side leaf q ≡ cell_at leaf.1 c.x c.y c.z
value_in shape side leaf q c at =
    let box = box_of shape leaf.0 in
    let scale = scale_of (level_of leaf.0) in
    ap (λ n. cell_at leaf.1 n ((q.y - side * box.y) / scale) ((q.z - side * box.z) / scale)) (cell_along side box.x scale q.x c.x at.along_x)
    ∙ ap (λ n. cell_at leaf.1 c.x n ((q.z - side * box.z) / scale)) (cell_along side box.y scale q.y c.y at.along_y)
    ∙ ap (λ n. cell_at leaf.1 c.x c.y n) (cell_along side box.z scale q.z c.z at.along_z)

-- the box of a leaf holds the unit of a finest cell that lies in one of its cells
pub unit_held : (side : ℕ) (box : Cube) (scale : ℕ) (q c : Voxel) → 0 < side → box.edge ≡ scale → IsIn side box scale q c → Holds box (unit_of side q)
unit_held side box scale q c some edge at =
    let along = λ (low q r : ℕ) (h : IsAlong side low scale q r). unit_along side low scale q r some h in
    let Held : ℕ → Type 0 = λ e. Spans box.x e (q.x / side) × Spans box.y e (q.y / side) × Spans box.z e (q.z / side) in
    let all : Held box.edge = subst Held (sym edge) (along box.x q.x c.x at.along_x, along box.y q.y c.y at.along_y, along box.z q.z c.z at.along_z) in
    record { along_x = all.0; along_y = all.1; along_z = all.2 }

-- what a map samples at a finest cell of a leaf that is no finer
pub sample_in : (shape : Shape) (side level : ℕ) (leaves : List Leaf) (leaf : Leaf) (q c : Voxel) → 0 < side → IsMap shape side leaves → Contains leaves leaf
    → (box_of shape leaf.0).edge ≡ scale_of (level_of leaf.0) → level_of leaf.0 ≤ level → IsIn side (box_of shape leaf.0) (scale_of (level_of leaf.0)) q c
    → sample shape side leaves level q ≡ cell_at leaf.1 c.x c.y c.z
unfolding sample
sample_in shape side level leaves leaf q c some is has edge coarse at =
    ap (λ o. option_map_or (sample_of shape side level q) o 0)
    (leaf_holding shape side leaves leaf q is has (unit_held side (box_of shape leaf.0) (scale_of (level_of leaf.0)) q c some edge at))
    ∙ cond-true (nat_le (level_of leaf.0) level) (value_at shape side leaf q) (mean_of_eight shape side leaf q) (le-leb (level_of leaf.0) level coarse)
    ∙ value_in shape side leaf q c at

-- the mean of eight numbers depends on them alone
pub mean_same : (a b c d e f g h a' b' c' d' e' f' g' h' : ℕ) → a ≡ a' → b ≡ b' → c ≡ c' → d ≡ d' → e ≡ e' → f ≡ f' → g ≡ g' → h ≡ h'
    → (a + b + c + d + e + f + g + h) / 8 ≡ (a' + b' + c' + d' + e' + f' + g' + h') / 8
mean_same a b c d e f g h a' b' c' d' e' f' g' h' p q r s t u v w = cc

-- what it samples where the leaf is finer
pub mean_in : (shape : Shape) (side level : ℕ) (leaves : List Leaf) (leaf : Leaf) (q : Voxel) (x y z : ℕ) → 0 < side → side % 2 ≡ 0 → IsMap shape side leaves
    → Contains leaves leaf → (box_of shape leaf.0).edge ≡ scale_of (level_of leaf.0) → level < level_of leaf.0
    → IsIn side (box_of shape leaf.0) (scale_of (level_of leaf.0)) q (record { x = 2 * x; y = 2 * y; z = 2 * z })
    → sample shape side leaves level q ≡ mean_at leaf.1 x y z
unfolding sample
mean_in shape side level leaves leaf q x y z some even is has edge fine at =
    let box = box_of shape leaf.0 in
    let scale = scale_of (level_of leaf.0) in
    let test : nat_le (level_of leaf.0) level ≡ false = grind (arith, nat_tests) in
    let more : (r : ℕ) → 2 * r < side → 2 * r + 1 < side = λ r below. omega arith in
    let nx = next_along side box.x scale q.x (2 * x) at.along_x (more x at.along_x.inside) in
    let ny = next_along side box.y scale q.y (2 * y) at.along_y (more y at.along_y.inside) in
    let nz = next_along side box.z scale q.z (2 * z) at.along_z (more z at.along_z.inside) in
    let value = λ (p c : Voxel) (h : IsIn side box scale p c). value_in shape side leaf p c h in
    let nox : IsAlong side box.x scale (q.x + 0) (2 * x) = stay box.x scale q.x (2 * x) at.along_x in
    let noy : IsAlong side box.y scale (q.y + 0) (2 * y) = stay box.y scale q.y (2 * y) at.along_y in
    let noz : IsAlong side box.z scale (q.z + 0) (2 * z) = stay box.z scale q.z (2 * z) at.along_z in
    ap (λ o. option_map_or (sample_of shape side level q) o 0)
    (leaf_holding shape side leaves leaf q is has (unit_held side box scale q (record { x = 2 * x; y = 2 * y; z = 2 * z }) some edge at))
    ∙ cond-false (nat_le (level_of leaf.0) level) (value_at shape side leaf q) (mean_of_eight shape side leaf q) test
    ∙ mean_same _ _ _ _ _ _ _ _ _ _ _ _ _ _ _ _
    (value q (record { x = 2 * x; y = 2 * y; z = 2 * z }) at)
    (value (moved q scale 0 0) (record { x = 2 * x + 1; y = 2 * y; z = 2 * z }) (record { along_x = nx; along_y = noy; along_z = noz }))
    (value (moved q 0 scale 0) (record { x = 2 * x; y = 2 * y + 1; z = 2 * z }) (record { along_x = nox; along_y = ny; along_z = noz }))
    (value (moved q scale scale 0) (record { x = 2 * x + 1; y = 2 * y + 1; z = 2 * z }) (record { along_x = nx; along_y = ny; along_z = noz }))
    (value (moved q 0 0 scale) (record { x = 2 * x; y = 2 * y; z = 2 * z + 1 }) (record { along_x = nox; along_y = noy; along_z = nz }))
    (value (moved q scale 0 scale) (record { x = 2 * x + 1; y = 2 * y; z = 2 * z + 1 }) (record { along_x = nx; along_y = noy; along_z = nz }))
    (value (moved q 0 scale scale) (record { x = 2 * x; y = 2 * y + 1; z = 2 * z + 1 }) (record { along_x = nox; along_y = ny; along_z = nz }))
    (value (moved q scale scale scale) (record { x = 2 * x + 1; y = 2 * y + 1; z = 2 * z + 1 }) (record { along_x = nx; along_y = ny; along_z = nz }))
  where
    stay : (low scale n r : ℕ) → IsAlong side low scale n r → IsAlong side low scale (n + 0) r
    stay low scale n r at =
        let least = at.from in
        let most = at.before in
        let inside = at.inside in
        record { inside = inside; from = omega arith; before = omega arith }
