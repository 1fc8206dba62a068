-- The cells of a grid after a step.
use Rattle.std.proofs.Common.{◌≡◌, ℕ, ◌+◌, ◌-◌, ◌*◌, ◌/◌, ◌%◌, ◌^◌, ◌<◌, arith, ap, ◌∙◌, length, get_or, List, eqb}
use Rattle.bf_cells.specs.Grid.{Grid, IsGrid, place, cell_at, table}
use Rattle.bf_face.specs.declared.face.Face.TheVariants.{XLow, XHigh, YLow, YHigh, ZLow, ZHigh}
use Rattle.bf_cells.specs.Shell.{Walls, IsShell}
use Rattle.bf_cells.specs.Kernel.{relaxed, relaxed_cell, relaxed_grid}
use Rattle.bf_cells.specs.Rows.{cube_cell, piece_at}
use Rattle.bf_cells.proofs.PlaceLemmas.{place_by_squares, row_place_below, row_place-mod, row_place-div}
use Rattle.bf_cells.proofs.GridLemmas.{table_is, cell_small, cond_small, IsGrid-table}
use Rattle.bf_cells.proofs.WallLemmas.{wall_small}

-- a full grid whose cells are those after a step
pub relaxed_grid_is : (g : Grid) (w : Walls) (h : Grid) → h.side ≡ g.side → length h.values ≡ h.side * h.side * h.side
    → ((x y z : ℕ) → x < h.side → y < h.side → z < h.side → cell_at h x y z ≡ relaxed_cell g w x y z) → h ≡ relaxed_grid g w
unfolding relaxed_grid
relaxed_grid_is g w h sides full same = table_is h (relaxed_cell g w) full same ∙ ap (λ n. table n (relaxed_cell g w)) sides

-- a mean of eight small values is small
pub relaxed_small : (v s1 s2 s3 s4 s5 s6 : ℕ) → v < 2 ^ 32 → s1 < 2 ^ 32 → s2 < 2 ^ 32 → s3 < 2 ^ 32
    → s4 < 2 ^ 32 → s5 < 2 ^ 32 → s6 < 2 ^ 32 → relaxed v s1 s2 s3 s4 s5 s6 < 2 ^ 32
relaxed_small v s1 s2 s3 s4 s5 s6 h h1 h2 h3 h4 h5 h6 = omega arith

-- lists that hold the cells of a cube after a step make the grid after a step
pub relaxed_grid_by_squares : (g : Grid) (w : Walls) (h : Grid) → h.side ≡ g.side → length h.values ≡ h.side * h.side * h.side
    → ((k z : ℕ) → k < g.side * g.side → z < g.side → piece_at h.values (g.side * g.side) z k
    ≡ cube_cell g.side g.values w.x_low w.x_high w.y_low w.y_high w.z_low w.z_high (k % g.side) (k / g.side) z)
    → h ≡ relaxed_grid g w
unfolding cube_cell
relaxed_grid_by_squares g w h sides full cells =
    relaxed_grid_is g w h sides full (λ x y z hx hy hz.
    let s = g.side in
    let hx' : x < s = omega arith in
    let hy' : y < s = omega arith in
    let k = x + s * y in
    let there : place h.side x y z ≡ k + s * s * z = ap (λ n. place n x y z) sides ∙ place_by_squares s x y z in
    let made = cells k z (row_place_below s s x y hx' hy') (omega arith) in
    ap (λ n. get_or h.values n 0) there ∙ made
    ∙ ap (λ a. relaxed_cell g w a (k / s) z) (row_place-mod s x y hx')
    ∙ ap (λ b. relaxed_cell g w x b z) (row_place-div s x y hx'))

-- each cell after a step has 32 bits
pub relaxed_cell_small : (g : Grid) (w : Walls) → IsGrid g → IsShell w → (x y z : ℕ) → relaxed_cell g w x y z < 2 ^ 32
relaxed_cell_small g w valid full x y z =
    let near = cell_small g valid in
    relaxed_small _ _ _ _ _ _ _ (near x y z)
    (cond_small (eqb x 0) _ _ (wall_small w.side w.x_low (full.full XLow) (y + g.side * z)) (near (x - 1) y z))
    (cond_small (eqb (x + 1) g.side) _ _ (wall_small w.side w.x_high (full.full XHigh) (y + g.side * z)) (near (x + 1) y z))
    (cond_small (eqb y 0) _ _ (wall_small w.side w.y_low (full.full YLow) (x + g.side * z)) (near x (y - 1) z))
    (cond_small (eqb (y + 1) g.side) _ _ (wall_small w.side w.y_high (full.full YHigh) (x + g.side * z)) (near x (y + 1) z))
    (cond_small (eqb z 0) _ _ (wall_small w.side w.z_low (full.full ZLow) (x + g.side * y)) (near x y (z - 1)))
    (cond_small (eqb (z + 1) g.side) _ _ (wall_small w.side w.z_high (full.full ZHigh) (x + g.side * y)) (near x y (z + 1)))

-- a grid is a grid after a step
pub IsGrid-relaxed_grid : (g : Grid) (w : Walls) → IsGrid g → IsShell w → IsGrid (relaxed_grid g w)
unfolding relaxed_grid
IsGrid-relaxed_grid g w valid full =
    IsGrid-table g.side (relaxed_cell g w) valid.even valid.low valid.high (λ x y z _ _ _. relaxed_cell_small g w valid full x y z)

-- the same, where the lists that were read equal those of the grid and the walls
pub relaxed_grid_by_lists : (g : Grid) (w : Walls) (h : Grid) (side : ℕ) (cells x_low x_high y_low y_high z_low z_high : List ℕ)
    → h.side ≡ g.side → length h.values ≡ h.side * h.side * h.side
    → side ≡ g.side → cells ≡ g.values → x_low ≡ w.x_low → x_high ≡ w.x_high → y_low ≡ w.y_low → y_high ≡ w.y_high
    → z_low ≡ w.z_low → z_high ≡ w.z_high
    → ((k z : ℕ) → k < side * side → z < side → piece_at h.values (side * side) z k
    ≡ cube_cell side cells x_low x_high y_low y_high z_low z_high (k % side) (k / side) z)
    → h ≡ relaxed_grid g w
relaxed_grid_by_lists g w h side cells x_low x_high y_low y_high z_low z_high sides full e0 e1 e2 e3 e4 e5 e6 e7 written =
    relaxed_grid_by_squares g w h sides full (rw (e0, e1, e2, e3, e4, e5, e6, e7) at written)
