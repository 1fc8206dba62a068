-- Boxes of cells of one value, painted row by row and layer by layer.
use Rattle.std.proofs.Common.{◌≡◌, ℕ, ◌+◌, ◌*◌, ◌^◌, ◌<◌, ◌≤◌, ◌&&◌, ◌||◌, Bool, true, false, cond, eqb, ltb, leb, List, [], length, take, get_or, slice_index, All, refl, sym, ◌∙◌, ap, arith}
use Rattle.std.proofs.lemmas.Nat.{mul-le}
use Rattle.std.proofs.lemmas.Bool.Decides.{nat_tests}
use Rattle.std.proofs.lemmas.List.Sums.{fold_more}
use Rattle.std.proofs.lemmas.List.Elements.{All-weaker}
use Rattle.bf_id.specs.Cube.{Voxel}
use Rattle.bf_cells.specs.Grid.{Grid, IsGrid, cell_at, table, with_row, filled_with}
use Rattle.bf_cells.proofs.GridLemmas.{side-table, cell_at-table, table_is, same_tables, IsGrid-table, cell_small}
use Rattle.bf_case.specs.declared.case.Case.{Case}
use Rattle.bf_case.specs.declared.case.Fill.{Fill}
use Rattle.bf_case.specs.Case.{IsValid, IsFill}
use Rattle.bf_case.specs.Sample.{moved}
use Rattle.bf_case.specs.Model.{is_between, has_cell, first_cell, filled_root}
use Rattle.bf_case.specs.Filling.{is_within, with_box, with_fill, filled_grid, HasRoom}

-- ---- tests

-- what is painted twice with one value is painted where either test holds
painted_twice : (p q r : Bool) (v old : ℕ) → cond (p && q) v (cond (p && r) v old) ≡ cond (p && (q || r)) v old
painted_twice true true r v old = refl
painted_twice true false r v old = refl
painted_twice false q r v old = refl

and_swap : (p q r : Bool) → (p && q && r) ≡ (p && r && q)
and_swap true true true = refl
and_swap true true false = refl
and_swap true false true = refl
and_swap true false false = refl
and_swap false q r = refl

and_false : (p : Bool) → (p && false) ≡ false
and_false true = refl
and_false false = refl

within_one : (y b : ℕ) → is_within y (y + 1) b ≡ eqb b y
within_one y b = grind (arith, nat_tests)

within_more : (from y b : ℕ) → from ≤ y → (is_within y (y + 1) b || is_within from y b) ≡ is_within from (y + 1) b
within_more from y b h = grind (arith, nat_tests)

within_none : (y b : ℕ) → is_within y y b ≡ false
within_none y b = grind (arith, nat_tests)

-- ---- boxes

pub side-with_box : (g : Grid) (a b c d e f v : ℕ) → (with_box g a b c d e f v).side ≡ g.side
unfolding with_box
side-with_box g a b c d e f v = side-table g.side _

cell_at-with_box : (g : Grid) (a b c d e f v : ℕ) (x y z : ℕ) → x < g.side → y < g.side → z < g.side
    → cell_at (with_box g a b c d e f v) x y z ≡ cond (is_within a b x && is_within c d y && is_within e f z) v (cell_at g x y z)
unfolding with_box
cell_at-with_box g a b c d e f v x y z x_in y_in z_in = cell_at-table g.side _ x y z x_in y_in z_in

pub IsGrid-with_box : (g : Grid) (a b c d e f v : ℕ) → IsGrid g → v < 2 ^ 32 → IsGrid (with_box g a b c d e f v)
unfolding with_box
IsGrid-with_box g a b c d e f v valid small =
    IsGrid-table g.side _ valid.even valid.low valid.high
    (λ x y z _ _ _. small_choice (is_within a b x && is_within c d y && is_within e f z) v (cell_at g x y z) small (cell_small g valid x y z))
  where
    small_choice : (t : Bool) (v old : ℕ) → v < 2 ^ 32 → old < 2 ^ 32 → cond t v old < 2 ^ 32
    small_choice true v old h k = h
    small_choice false v old h k = k

-- no rows, and no layers, change nothing
pub box_of_no_rows : (g : Grid) (a b y e f v : ℕ) → IsGrid g → g ≡ with_box g a b y y e f v
unfolding with_box
box_of_no_rows g a b y e f v valid =
    table_is g _ valid.full (λ x u z _ _ _.
    sym (ap (λ t. cond (is_within a b x && t && is_within e f z) v (cell_at g x u z)) (within_none y u)
    ∙ ap (λ t. cond (t && is_within e f z) v (cell_at g x u z)) (and_false (is_within a b x))))

pub box_of_no_layers : (g : Grid) (a b c d z v : ℕ) → IsGrid g → g ≡ with_box g a b c d z z v
unfolding with_box
box_of_no_layers g a b c d z v valid =
    table_is g _ valid.full (λ x y u _ _ _.
    sym (ap (λ t. cond (is_within a b x && is_within c d y && t) v (cell_at g x y u)) (within_none z u)
    ∙ ap (λ t. cond t v (cell_at g x y u)) (and_false (is_within a b x && is_within c d y))))

-- one more row
pub box_and_row : (g : Grid) (a b from y z v : ℕ) → from ≤ y
    → with_row (with_box g a b from y z (z + 1) v) a b y z v ≡ with_box g a b from (y + 1) z (z + 1) v
unfolding with_row with_box
box_and_row g a b from y z v below =
    let painted = with_box g a b from y z (z + 1) v in
    let after : ℕ → ℕ → ℕ → ℕ = λ x u w. cond (is_within a b x && is_within from (y + 1) u && is_within z (z + 1) w) v (cell_at g x u w) in
    ap (λ s. table s (λ x u w. cond (leb a x && ltb x b && eqb u y && eqb w z) v (cell_at painted x u w))) (side-table g.side _)
    ∙ same_tables g.side _ after (λ x u w x_in u_in w_in.
    let p = is_within a b x in
    let r = is_within z (z + 1) w in
    ap (λ t. cond (p && eqb u y && eqb w z) v t) (cell_at-with_box g a b from y z (z + 1) v x u w x_in u_in w_in)
    ∙ ap (λ t. cond (p && t && eqb w z) v (cond (p && is_within from y u && r) v (cell_at g x u w))) (sym (within_one y u))
    ∙ ap (λ t. cond (p && is_within y (y + 1) u && t) v (cond (p && is_within from y u && r) v (cell_at g x u w))) (sym (within_one z w))
    ∙ ap (λ t. cond t v (cond (p && is_within from y u && r) v (cell_at g x u w))) (and_swap p (is_within y (y + 1) u) r)
    ∙ ap (λ t. cond (p && r && is_within y (y + 1) u) v (cond t v (cell_at g x u w))) (and_swap p (is_within from y u) r)
    ∙ painted_twice (p && r) (is_within y (y + 1) u) (is_within from y u) v (cell_at g x u w)
    ∙ ap (λ t. cond (p && r && t) v (cell_at g x u w)) (within_more from y u below)
    ∙ ap (λ t. cond t v (cell_at g x u w)) (and_swap p r (is_within from (y + 1) u)))

-- one more layer
pub box_and_layer : (g : Grid) (a b c d from z v : ℕ) → from ≤ z
    → with_box (with_box g a b c d from z v) a b c d z (z + 1) v ≡ with_box g a b c d from (z + 1) v
unfolding with_box
box_and_layer g a b c d from z v below =
    let painted = with_box g a b c d from z v in
    let after : ℕ → ℕ → ℕ → ℕ = λ x y w. cond (is_within a b x && is_within c d y && is_within from (z + 1) w) v (cell_at g x y w) in
    ap (λ s. table s (λ x y w. cond (is_within a b x && is_within c d y && is_within z (z + 1) w) v (cell_at painted x y w))) (side-table g.side _)
    ∙ same_tables g.side _ after (λ x y w x_in y_in w_in.
    let p = is_within a b x && is_within c d y in
    ap (λ t. cond (p && is_within z (z + 1) w) v t) (cell_at-with_box g a b c d from z v x y w x_in y_in w_in)
    ∙ painted_twice p (is_within z (z + 1) w) (is_within from z w) v (cell_at g x y w)
    ∙ ap (λ t. cond (p && t) v (cell_at g x y w)) (within_more from z w below))

-- ---- fills

-- a box whose cells are those of a fill is painted as the fill says
pub box_is_fill : (g : Grid) (side a b c d e f : ℕ) (first : Voxel) (fill : Fill) → side ≡ g.side
    → ((cell : ℕ) → cell < side → is_within a b cell ≡ is_between (slice_index fill.low 0) (slice_index fill.high 0) (first.x + cell))
    → ((cell : ℕ) → cell < side → is_within c d cell ≡ is_between (slice_index fill.low 1) (slice_index fill.high 1) (first.y + cell))
    → ((cell : ℕ) → cell < side → is_within e f cell ≡ is_between (slice_index fill.low 2) (slice_index fill.high 2) (first.z + cell))
    → with_box g a b c d e f fill.value ≡ with_fill g first fill
unfolding with_box with_fill
box_is_fill g side a b c d e f first fill same along_x along_y along_z =
    same_tables g.side _ _ (λ x y z x_in y_in z_in.
    let wx = along_x x (omega (arith, x_in)) in
    let wy = along_y y (omega (arith, y_in)) in
    let wz = along_z z (omega (arith, z_in)) in
    ap (λ t. cond (t && is_within c d y && is_within e f z) fill.value (cell_at g x y z)) wx
    ∙ ap (λ t. cond (is_between (slice_index fill.low 0) (slice_index fill.high 0) (first.x + x) && t && is_within e f z) fill.value (cell_at g x y z)) wy
    ∙ ap (λ t. cond (is_between (slice_index fill.low 0) (slice_index fill.high 0) (first.x + x)
    && is_between (slice_index fill.low 1) (slice_index fill.high 1) (first.y + y) && t) fill.value (cell_at g x y z)) wz)

pub filled_none : (side : ℕ) (first : Voxel) → filled_with side 0 ≡ filled_grid side first []
unfolding filled_grid
filled_none side first = refl

pub filled_more : (side : ℕ) (first : Voxel) (fills : List Fill) (i : ℕ) (d : Fill) → i < length fills
    → with_fill (filled_grid side first (take i fills)) first (get_or fills i d) ≡ filled_grid side first (take (i + 1) fills)
unfolding with_fill filled_grid
filled_more side first fills i d inside =
    let so_far = filled_grid side first (take i fills) in
    let f = get_or fills i d in
    let set : Voxel → ℕ → Fill → ℕ = λ p v g. cond (has_cell g p) g.value v in
    ap (λ s. table s (λ x y z. cond (has_cell f (moved first x y z)) f.value (cell_at so_far x y z))) (side-table side _)
    ∙ same_tables side _ _ (λ x y z x_in y_in z_in.
    ap (λ v. cond (has_cell f (moved first x y z)) f.value v) (cell_at-table side _ x y z x_in y_in z_in)
    ∙ sym (fold_more (set (moved first x y z)) 0 fills i d inside))

pub filled_next : (side : ℕ) (first : Voxel) (fills : List Fill) (i : ℕ) (d : Fill) (cells new : Grid) → i < length fills
    → cells ≡ filled_grid side first (take i fills) → new ≡ with_fill cells first (get_or fills i d) → new ≡ filled_grid side first (take (i + 1) fills)
filled_next side first fills i d cells new inside so_far is =
    is ∙ ap (λ g. with_fill g first (get_or fills i d)) so_far ∙ filled_more side first fills i d inside

-- the fills of a valid case have coordinates far below 2 ^ 32
pub room_of : (c : Case) → IsValid c → (f : Fill) → IsFill c.roots c.side f → HasRoom f
room_of c valid f fill =
    let sized = valid.sized in
    let axis : (n : ℕ) → n ≤ 16 → n * c.side ≤ 16 * 16 = λ n few. mul-le n c.side 16 16 few sized.narrow in
    record {
      along_x = small _ (c.roots.nx * c.side) fill.along_x.inside (axis c.roots.nx sized.shape.few_x);
      along_y = small _ (c.roots.ny * c.side) fill.along_y.inside (axis c.roots.ny sized.shape.few_y);
      along_z = small _ (c.roots.nz * c.side) fill.along_z.inside (axis c.roots.nz sized.shape.few_z);
    }
  where
    small : (h extent : ℕ) → h < extent → extent ≤ 16 * 16 → h + 1 < 2 ^ 32
    small h extent below few = omega arith

pub rooms : (c : Case) → IsValid c → All HasRoom c.fills
rooms c valid = All-weaker (IsFill c.roots c.side) HasRoom (room_of c valid) c.fills valid.fills

-- the cells of a root, filled
pub cells_are_filled : (c : Case) (k : ℕ) (g : Grid) (first : Voxel) (fills : List Fill)
    → g ≡ filled_grid c.side first fills → first ≡ first_cell c.roots c.side k → fills ≡ c.fills → g ≡ (filled_root c k).1
unfolding filled_grid
cells_are_filled c k g first fills cells begins are =
    cells ∙ ap (λ v. filled_grid c.side v fills) begins ∙ ap (filled_grid c.side (first_cell c.roots c.side k)) are
