-- A block between walls that hold the samples around it takes the step of the map.
use Rattle.std.proofs.Common.{◌≡◌, ℕ, ◌+◌, ◌-◌, ◌*◌, ◌<◌, ◌≤◌, List, Some, Contains, get_or, sym, ◌∙◌, ap, subst, arith}
use Rattle.std.proofs.Math.Nat.{mul-le-mul_left}
use Rattle.std.proofs.lemmas.Nat.{pow_pos}
use Rattle.std.proofs.lemmas.List.Elements.{All-contains}
use Rattle.bf_id.specs.declared.shape.Shape.{Shape}
use Rattle.bf_face.specs.declared.face.Face.TheVariants.{XLow, XHigh, YLow, YHigh, ZLow, ZHigh}
use Rattle.bf_id.specs.Id.{BlockId, level_of, box_of, IsId, InShape}
use Rattle.bf_id.proofs.Boxes.{edge-box, domain_holds}
use Rattle.bf_id.specs.Cube.{Voxel, Holds}
use Rattle.bf_id.specs.Shape.{IsShape}
use Rattle.bf_cells.specs.Grid.{Grid, cell_at, table}
use Rattle.bf_cells.specs.Shell.{Walls, wall_place, face_cell}
use Rattle.bf_cells.specs.Kernel.{relaxed_cell, relaxed, relaxed_grid}
use Rattle.bf_cells.proofs.GridLemmas.{same_tables}
use Rattle.bf_case.specs.Map.{Leaf, cells_at, ids_of, IsMap, HasCells}
use Rattle.bf_case.specs.Sample.{scale_of, corner_of, cell_corner, sample}
use Rattle.bf_case.specs.Stencil.{stepped_value, extent_of, cells_x, cells_y, cells_z, stencil}
use Rattle.bf_case.proofs.ListLemmas.{Contains-map}
use Rattle.bf_case.proofs.SampleLemmas.{own_sample}
use Rattle.bf_case.proofs.LookupLemmas.{leaf_from_cells_at, cells_at-stencil}
use Rattle.bf_case.specs.Beside.{HoldSamples}
use Rattle.bf_case.proofs.BlockAxis.{below_along, above_along}

-- what is known of a block in a map and of the walls around it
pub record Stands (shape : Shape) (leaves : List Leaf) (i : BlockId) (g : Grid) (w : Walls) : Type 0 where
  pub own : (x y z : ℕ) → x < g.side → y < g.side → z < g.side
      → sample shape g.side leaves (level_of i) (cell_corner shape g.side i x y z) ≡ cell_at g x y z
  pub wide : 0 < scale_of (level_of i)
  pub x_end : (corner_of shape g.side i).x + g.side * scale_of (level_of i) ≤ extent_of g.side shape.nx
  pub y_end : (corner_of shape g.side i).y + g.side * scale_of (level_of i) ≤ extent_of g.side shape.ny
  pub z_end : (corner_of shape g.side i).z + g.side * scale_of (level_of i) ≤ extent_of g.side shape.nz
  pub fits : w.side ≡ g.side
  pub holds : HoldSamples shape leaves i g w

-- the new value of a cell depends on seven values
relaxed_same : (a b c d e f g a' b' c' d' e' f' g' : ℕ) → a ≡ a' → b ≡ b' → c ≡ c' → d ≡ d' → e ≡ e' → f ≡ f' → g ≡ g'
    → relaxed a b c d e f g ≡ relaxed a' b' c' d' e' f' g'
relaxed_same a b c d e f g a' b' c' d' e' f' g' p q r s t u v = cc

stepped_at : (shape : Shape) (leaves : List Leaf) (i : BlockId) (g : Grid) (w : Walls) → Stands shape leaves i g w
    → (x y z : ℕ) → x < g.side → y < g.side → z < g.side
    → stepped_value shape g.side leaves (level_of i) (cell_corner shape g.side i x y z) ≡ relaxed_cell g w x y z
unfolding face_cell
stepped_at shape leaves i g w stands x y z x_in y_in z_in =
    let scale = scale_of (level_of i) in
    let corner : Voxel = corner_of shape g.side i in
    let p : Voxel = cell_corner shape g.side i x y z in
    let at : Voxel → ℕ = sample shape g.side leaves (level_of i) in
    let wall : List ℕ → ℕ → ℕ → ℕ = λ values a b. get_or values (wall_place g.side a b) 0 in
    let some : 0 < g.side = omega arith in
    let last : g.side - 1 < g.side = omega arith in
    let placed : (values : List ℕ) (a b : ℕ) → wall values a b ≡ get_or values (wall_place w.side a b) 0 =
    λ values a b. ap (λ s. get_or values (wall_place s a b) 0) (sym stands.fits) in
    relaxed_same _ _ _ _ _ _ _ _ _ _ _ _ _ _
    (stands.own x y z x_in y_in z_in)
    (below_along (cells_x shape g.side) (λ n. at (record p { x = n })) (λ u. cell_at g u y z) corner.x scale g.side x (wall w.x_low y z) stands.wide x_in
    (λ u u_in. stands.own u y z u_in y_in z_in) (placed w.x_low y z ∙ stands.holds XLow y z y_in z_in))
    (above_along (cells_x shape g.side) (λ n. at (record p { x = n })) (λ u. cell_at g u y z) corner.x scale g.side x (wall w.x_high y z) stands.wide x_in stands.x_end
    (λ u u_in. stands.own u y z u_in y_in z_in) (placed w.x_high y z ∙ stands.holds XHigh y z y_in z_in))
    (below_along (cells_y shape g.side) (λ n. at (record p { y = n })) (λ u. cell_at g x u z) corner.y scale g.side y (wall w.y_low x z) stands.wide y_in
    (λ u u_in. stands.own x u z x_in u_in z_in) (placed w.y_low x z ∙ stands.holds YLow x z x_in z_in))
    (above_along (cells_y shape g.side) (λ n. at (record p { y = n })) (λ u. cell_at g x u z) corner.y scale g.side y (wall w.y_high x z) stands.wide y_in stands.y_end
    (λ u u_in. stands.own x u z x_in u_in z_in) (placed w.y_high x z ∙ stands.holds YHigh x z x_in z_in))
    (below_along (cells_z shape g.side) (λ n. at (record p { z = n })) (λ u. cell_at g x y u) corner.z scale g.side z (wall w.z_low x y) stands.wide z_in
    (λ u u_in. stands.own x y u x_in y_in u_in) (placed w.z_low x y ∙ stands.holds ZLow x y x_in y_in))
    (above_along (cells_z shape g.side) (λ n. at (record p { z = n })) (λ u. cell_at g x y u) corner.z scale g.side z (wall w.z_high x y) stands.wide z_in stands.z_end
    (λ u u_in. stands.own x y u x_in y_in u_in) (placed w.z_high x y ∙ stands.holds ZHigh x y x_in y_in))

-- the cells of the step
pub stepped_cells : (shape : Shape) (leaves : List Leaf) (i : BlockId) (g : Grid) (w : Walls) → Stands shape leaves i g w
    → table g.side (λ x y z. stepped_value shape g.side leaves (level_of i) (cell_corner shape g.side i x y z)) ≡ relaxed_grid g w
unfolding relaxed_grid
stepped_cells shape leaves i g w stands =
    same_tables g.side _ (relaxed_cell g w) (λ x y z x_in y_in z_in. stepped_at shape leaves i g w stands x y z x_in y_in z_in)

-- ---- leaves of a map

-- the box of a block ends in the domain
pub box_ends : (shape : Shape) (i : BlockId) → IsShape shape → IsId i → InShape shape i
    → let box = box_of shape i in let scale = scale_of (level_of i) in
    (0 < scale) × (box.x + scale ≤ 16 * shape.nx) × (box.y + scale ≤ 16 * shape.ny) × (box.z + scale ≤ 16 * shape.nz)
box_ends shape i valid id within =
    let box = box_of shape i in
    let scale = scale_of (level_of i) in
    let wide : 0 < scale = pow_pos (4 - level_of i) in
    let shallow : level_of i ≤ 4 = id.shallow in
    let edge : box.edge ≡ scale = edge-box shape i (4 - level_of i) (omega arith) in
    let far : Voxel = record { x = box.x + scale - 1; y = box.y + scale - 1; z = box.z + scale - 1 } in
    let held : Holds box far = record { along_x = (omega arith, omega arith); along_y = (omega arith, omega arith); along_z = (omega arith, omega arith) } in
    let inside = domain_holds shape i far valid id within held in
    (wide, omega (arith, inside.along_x), omega (arith, inside.along_y), omega (arith, inside.along_z))

scaled : (side low scale roots : ℕ) → low + scale ≤ 16 * roots → side * low + side * scale ≤ side * (16 * roots)
scaled side low scale roots h = omega (arith, mul-le-mul_left side h)

-- a leaf of a map stands between walls that hold the samples around it
pub leaf_stands : (shape : Shape) (side : ℕ) (leaves : List Leaf) (i : BlockId) (g : Grid) (w : Walls) → IsShape shape → IsMap shape side leaves
    → Contains leaves (i, g) → g.side ≡ side → w.side ≡ g.side → HoldSamples shape leaves i g w → Stands shape leaves i g w
leaf_stands shape side leaves i g w valid is has same fits holds =
    let id = All-contains IsId (ids_of leaves) i is.ids (Contains-map (λ (leaf : Leaf). leaf.0) leaves (i, g) has) in
    let within = All-contains (InShape shape) (ids_of leaves) i is.in_shape (Contains-map (λ (leaf : Leaf). leaf.0) leaves (i, g) has) in
    let ends = box_ends shape i valid id within in
    record {
      own = λ x y z x_in y_in z_in. own_sample shape g.side leaves (i, g) x y z (omega arith) (subst (λ s. IsMap shape s leaves) (sym same) is) has x_in y_in z_in;
      wide = ends.0;
      x_end = scaled g.side _ _ _ ends.1;
      y_end = scaled g.side _ _ _ ends.2;
      z_end = scaled g.side _ _ _ ends.3;
      fits = fits;
      holds = holds;
    }

-- the step of a leaf is the leaf of the step
pub leaf_steps : (shape : Shape) (side : ℕ) (leaves : List Leaf) (i : BlockId) (g : Grid) (w : Walls) → IsShape shape → IsMap shape side leaves
    → cells_at leaves i ≡ Some g → w.side ≡ g.side → HoldSamples shape leaves i g w
    → cells_at (stencil shape side leaves) i ≡ Some (relaxed_grid g w)
leaf_steps shape side leaves i g w valid is found fits holds =
    let has = leaf_from_cells_at leaves i g found in
    let same : g.side ≡ side = (All-contains (HasCells side) leaves (i, g) is.cells has).fits in
    let stands = leaf_stands shape side leaves i g w valid is has same fits holds in
    cells_at-stencil shape side leaves i g is found
    ∙ ap Some (ap (λ s. table s (λ x y z. stepped_value shape s leaves (level_of i) (cell_corner shape s i x y z))) (sym same)
    ∙ stepped_cells shape leaves i g w stands)
