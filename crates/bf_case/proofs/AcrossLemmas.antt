-- What a map samples across the faces of its leaves.
use Rattle.std.proofs.Common.{◌≡◌, ℕ, zero, suc, ◌+◌, ◌-◌, ◌*◌, ◌/◌, ◌%◌, ◌^◌, ◌<◌, ◌≤◌, List, Contains, refl, sym, ap, subst, ◌∙◌, arith, pow-suc, inl, inr}
use Rattle.std.proofs.Math.Nat.{mul-le-mul_left}
use Rattle.std.proofs.lemmas.Nat.{pow_pos, pow-add}
use Rattle.std.proofs.lemmas.Bool.{cases_lt}
use Rattle.std.proofs.lemmas.List.Elements.{All-contains}
use Rattle.bf_id.specs.declared.shape.Shape.{Shape}
use Rattle.bf_face.specs.declared.face.Face.{Face}
use Rattle.bf_face.specs.declared.face.Face.TheVariants.{XLow, XHigh, YLow, YHigh, ZLow, ZHigh}
use Rattle.bf_face.specs.Face.{opposite_of}
use Rattle.bf_id.specs.Face.{SharesFace}
use Rattle.bf_id.specs.Axis.{JoinsOn, IsLast, back, on}
use Rattle.bf_id.specs.Shape.{IsShape, InDomain, root_cube, axis_x, axis_y, axis_z}
use Rattle.bf_id.proofs.Axes.{OverlapsOn-here}
use Rattle.bf_id.proofs.Steps.{back-parts, on-parts, first-parts, not-first-parts, last-parts, not-last-parts, joins_before, joins_after, not_before_itself, not_after_itself, back-below, on-below}
use Rattle.bf_id.specs.Tiling.{IsBalanced}
use Rattle.bf_id.proofs.Cubes.{Meet-from_face, narrowed_within, short_x, short_y, short_z}
use Rattle.bf_id.proofs.Boxes.{edge-box, Touch_sym}
use Rattle.bf_id.specs.Cube.{Cube, Voxel, Spans, Holds}
use Rattle.bf_id.specs.Id.{BlockId, level_of, box_of, IsId, InShape, Touch}
use Rattle.bf_cells.specs.Grid.{Grid, cell_at}
use Rattle.bf_cells.specs.Octant.{mean_at}
use Rattle.bf_cells.specs.Shell.{face_cell}
use Rattle.bf_cells.specs.Levels.{face_mean}
use Rattle.bf_id.specs.Neighbours.{IsAtEdge, unit_across}
use Rattle.bf_case.specs.Beside.{LiesAcross, face_corner, value_beside, first_low, second_low}
use Rattle.bf_case.specs.Map.{Leaf, IsMap, HasCells, ids_of}
use Rattle.bf_case.specs.Sample.{scale_of, sample}
use Rattle.bf_case.specs.Stencil.{cells_x, cells_y, cells_z}
use Rattle.bf_case.proofs.AlignLemmas.{IsMultiple, aligned, first_aligned, second_aligned, first_spans, second_spans, same_low, finer_low, no_finer_low}
use Rattle.bf_case.proofs.BlockSteps.{box_ends}
use Rattle.bf_case.proofs.ListLemmas.{Contains-map}
use Rattle.bf_case.proofs.FinestLemmas.{IsAlong, IsIn, sample_in, mean_in}

-- ---- one axis: where the finest cell beside a face's cell lies in the other block

-- the axis of the face, where the other block ends at the first one's beginning; the cell has r cells before it and d from it on
pub low_along : (side low scale e r d : ℕ) → r + d ≡ side → 0 < d → e ≤ d * scale → d * scale < e + scale → IsAlong side low scale (side * (low + scale) - e) r
low_along side low scale e r d whole some least most =
    let far : side * (low + scale) ≡ side * low + (r + d) * scale = rw (← whole) (omega arith) in
    record { inside = omega arith; from = omega arith; before = omega arith }

-- where it begins at the first one's end
pub high_along : (side low scale : ℕ) → 0 < scale → 0 < side → IsAlong side low scale (side * low) 0
high_along side low scale wide some = record { inside = some; from = omega arith; before = omega arith }

-- the two other axes, where the other block is of the same level
pub same_along : (side low scale a : ℕ) → 0 < scale → a < side → IsAlong side low scale (side * low + a * scale) a
same_along side low scale a wide inside = record { inside = inside; from = omega arith; before = omega arith }

-- where it is one coarser, and the first block lies at this half of it
coarser_by_halves : (n low e half a : ℕ) → 0 < e → half < 2 → a < n + n → IsAlong (n + n) low (e + e) ((n + n) * (low + half * e) + a * e) (half * n + a / 2)
coarser_by_halves n low e half a wide bit inside =
    let pairs : e * (a / 2 + a / 2) ≤ e * a = mul-le-mul_left e (omega arith) in
    let rest : e * a ≤ e * (a / 2 + a / 2 + 1) = mul-le-mul_left e (omega arith) in
    record { inside = below half bit; from = omega (arith, pairs); before = omega (arith, rest) }
  where
    below : (half : ℕ) → half < 2 → half * n + a / 2 < n + n
    below zero bit = omega arith
    below (suc zero) bit = omega arith
    below (suc (suc more)) bit = absurd (omega arith)

pub coarser_along : (side low e half a y scale : ℕ) → side % 2 ≡ 0 → 0 < e → half < 2 → a < side → y ≡ low + half * e → scale ≡ e + e
    → IsAlong side low scale (side * y + a * e) (half * (side / 2) + a / 2)
coarser_along side low e half a y scale even wide bit inside begins double =
    let n = side / 2 in
    let whole : n + n ≡ side = omega arith in
    rw (begins, double) (subst (λ s. IsAlong s low (e + e) (s * (low + half * e) + a * e) (half * n + a / 2)) whole
    (coarser_by_halves n low e half a wide bit (omega arith)))

-- where it is one finer, and lies at this half of the first block
finer_by_halves : (n y t half a : ℕ) → 0 < t → a < n → IsAlong (n + n) (y + half * t) t ((n + n) * y + (half * n + a) * (t + t)) (2 * a)
finer_by_halves n y t half a wide inside = record { inside = omega arith; from = omega arith; before = omega arith }

pub finer_along : (side low e half a y t : ℕ) → side % 2 ≡ 0 → 0 < t → a < side / 2 → low ≡ y + half * t → e ≡ t + t
    → IsAlong side low t (side * y + (half * (side / 2) + a) * e) (2 * a)
finer_along side low e half a y t even wide inside begins double =
    let n = side / 2 in
    let whole : n + n ≡ side = omega arith in
    rw (begins, double) (subst (λ s. IsAlong s (y + half * t) t (s * y + (half * n + a) * (t + t)) (2 * a)) whole
    (finer_by_halves n y t half a wide inside))

-- ---- the six faces

-- the cell of the other block that lies across a face: the farthest from its beginning is n along the face's axis, and the other two
-- coordinates are a and b
abbrev pub cell_across : Face → ℕ → ℕ → ℕ → Voxel
cell_across XLow n a b = record { x = n; y = a; z = b }
cell_across XHigh n a b = record { x = 0; y = a; z = b }
cell_across YLow n a b = record { x = a; y = n; z = b }
cell_across YHigh n a b = record { x = a; y = 0; z = b }
cell_across ZLow n a b = record { x = a; y = b; z = n }
cell_across ZHigh n a b = record { x = a; y = b; z = 0 }

-- the low corner of the cell beside a face's cell, which has this scale too
abbrev pub corner_across : Shape → ℕ → BlockId → ℕ → Face → ℕ → ℕ → Voxel
corner_across shape side i e XLow a b = let p = face_corner shape side i XLow a b in record { x = back (cells_x shape side) e p.x; y = p.y; z = p.z }
corner_across shape side i e XHigh a b = let p = face_corner shape side i XHigh a b in record { x = on (cells_x shape side) e p.x; y = p.y; z = p.z }
corner_across shape side i e YLow a b = let p = face_corner shape side i YLow a b in record { x = p.x; y = back (cells_y shape side) e p.y; z = p.z }
corner_across shape side i e YHigh a b = let p = face_corner shape side i YHigh a b in record { x = p.x; y = on (cells_y shape side) e p.y; z = p.z }
corner_across shape side i e ZLow a b = let p = face_corner shape side i ZLow a b in record { x = p.x; y = p.y; z = back (cells_z shape side) e p.z }
corner_across shape side i e ZHigh a b = let p = face_corner shape side i ZHigh a b in record { x = p.x; y = p.y; z = on (cells_z shape side) e p.z }

-- at the domain's edge the value beside a cell is its own
pub edge_beside : (shape : Shape) (leaves : List Leaf) (i : BlockId) (g : Grid) (face : Face) (a b : ℕ) → 0 < g.side
    → (box_of shape i).edge ≡ scale_of (level_of i) → IsAtEdge shape (box_of shape i) face
    → value_beside shape leaves i g face a b ≡ face_cell g face a b
edge_beside shape leaves i g XLow a b some edge at = first-parts (axis_x shape) g.side (box_of shape i).x (scale_of (level_of i)) _ _ at
edge_beside shape leaves i g XHigh a b some edge at =
    last-parts (axis_x shape) g.side (box_of shape i).x (scale_of (level_of i)) _ _ some (subst (λ n. IsLast (axis_x shape) ((box_of shape i).x + n)) edge at)
edge_beside shape leaves i g YLow a b some edge at = first-parts (axis_y shape) g.side (box_of shape i).y (scale_of (level_of i)) _ _ at
edge_beside shape leaves i g YHigh a b some edge at =
    last-parts (axis_y shape) g.side (box_of shape i).y (scale_of (level_of i)) _ _ some (subst (λ n. IsLast (axis_y shape) ((box_of shape i).y + n)) edge at)
edge_beside shape leaves i g ZLow a b some edge at = first-parts (axis_z shape) g.side (box_of shape i).z (scale_of (level_of i)) _ _ at
edge_beside shape leaves i g ZHigh a b some edge at =
    last-parts (axis_z shape) g.side (box_of shape i).z (scale_of (level_of i)) _ _ some (subst (λ n. IsLast (axis_z shape) ((box_of shape i).z + n)) edge at)

-- a box that ends in the domain, by the scale of its cells
pub record EndsIn (shape : Shape) (box : Cube) (e : ℕ) : Type 0 where
  pub edge : box.edge ≡ e
  pub wide : 0 < e
  pub x_end : box.x + e ≤ 16 * shape.nx
  pub y_end : box.y + e ≤ 16 * shape.ny
  pub z_end : box.z + e ≤ 16 * shape.nz

-- elsewhere it is the sample of the cell beside it
pub inner_beside : (shape : Shape) (leaves : List Leaf) (i : BlockId) (g : Grid) (face : Face) (a b : ℕ) → 0 < g.side
    → EndsIn shape (box_of shape i) (scale_of (level_of i)) → (IsAtEdge shape (box_of shape i) face → ⊥)
    → value_beside shape leaves i g face a b ≡ sample shape g.side leaves (level_of i) (corner_across shape g.side i (scale_of (level_of i)) face a b)
inner_beside shape leaves i g XLow a b some ends inner = not-first-parts (axis_x shape) g.side (box_of shape i).x (scale_of (level_of i)) _ _ some inner
inner_beside shape leaves i g XHigh a b some ends inner =
    not-last-parts (axis_x shape) g.side (box_of shape i).x (scale_of (level_of i)) _ _ some ends.x_end
    (λ at. inner (subst (λ n. IsLast (axis_x shape) ((box_of shape i).x + n)) (sym ends.edge) at))
inner_beside shape leaves i g YLow a b some ends inner = not-first-parts (axis_y shape) g.side (box_of shape i).y (scale_of (level_of i)) _ _ some inner
inner_beside shape leaves i g YHigh a b some ends inner =
    not-last-parts (axis_y shape) g.side (box_of shape i).y (scale_of (level_of i)) _ _ some ends.y_end
    (λ at. inner (subst (λ n. IsLast (axis_y shape) ((box_of shape i).y + n)) (sym ends.edge) at))
inner_beside shape leaves i g ZLow a b some ends inner = not-first-parts (axis_z shape) g.side (box_of shape i).z (scale_of (level_of i)) _ _ some inner
inner_beside shape leaves i g ZHigh a b some ends inner =
    not-last-parts (axis_z shape) g.side (box_of shape i).z (scale_of (level_of i)) _ _ some ends.z_end
    (λ at. inner (subst (λ n. IsLast (axis_z shape) ((box_of shape i).z + n)) (sym ends.edge) at))

-- in which cell of the other block the cell beside lies, by its place along each axis
pub record MeetsAlong (side t e n a b ca cb : ℕ) (face : Face) (own other : Cube) : Type 0 where
  pub low : (low : ℕ) → IsAlong side low t (side * (low + t) - e) n
  pub high : (low : ℕ) → IsAlong side low t (side * low) 0
  pub first : IsAlong side (first_low face other) t (side * first_low face own + a * e) ca
  pub second : IsAlong side (second_low face other) t (side * second_low face own + b * e) cb

pub in_across : (shape : Shape) (side : ℕ) (i : BlockId) (other : Cube) (face : Face) (t n a b ca cb : ℕ) → 0 < side
    → EndsIn shape (box_of shape i) (scale_of (level_of i)) → EndsIn shape other t → SharesFace shape face (box_of shape i) other
    → MeetsAlong side t (scale_of (level_of i)) n a b ca cb face (box_of shape i) other
    → IsIn side other t (corner_across shape side i (scale_of (level_of i)) face a b) (cell_across face n ca cb)
in_across shape side i other XLow t n a b ca cb some ends ends' shares meets =
    let at = back-parts (axis_x shape) side other.x t (box_of shape i).x (scale_of (level_of i)) some ends'.wide ends.wide ends'.x_end ends.x_end
    (subst (λ k. JoinsOn (axis_x shape) (other.x + k) (box_of shape i).x) ends'.edge shares.0) in
    record { along_x = rw at (meets.low other.x); along_y = meets.first; along_z = meets.second }
in_across shape side i other XHigh t n a b ca cb some ends ends' shares meets =
    let at = on-parts (axis_x shape) side other.x t (box_of shape i).x (scale_of (level_of i)) some ends'.wide ends'.x_end ends.x_end
    (subst (λ k. JoinsOn (axis_x shape) ((box_of shape i).x + k) other.x) ends.edge shares.0) in
    record { along_x = rw at (meets.high other.x); along_y = meets.first; along_z = meets.second }
in_across shape side i other YLow t n a b ca cb some ends ends' shares meets =
    let at = back-parts (axis_y shape) side other.y t (box_of shape i).y (scale_of (level_of i)) some ends'.wide ends.wide ends'.y_end ends.y_end
    (subst (λ k. JoinsOn (axis_y shape) (other.y + k) (box_of shape i).y) ends'.edge shares.0) in
    record { along_y = rw at (meets.low other.y); along_x = meets.first; along_z = meets.second }
in_across shape side i other YHigh t n a b ca cb some ends ends' shares meets =
    let at = on-parts (axis_y shape) side other.y t (box_of shape i).y (scale_of (level_of i)) some ends'.wide ends'.y_end ends.y_end
    (subst (λ k. JoinsOn (axis_y shape) ((box_of shape i).y + k) other.y) ends.edge shares.0) in
    record { along_y = rw at (meets.high other.y); along_x = meets.first; along_z = meets.second }
in_across shape side i other ZLow t n a b ca cb some ends ends' shares meets =
    let at = back-parts (axis_z shape) side other.z t (box_of shape i).z (scale_of (level_of i)) some ends'.wide ends.wide ends'.z_end ends.z_end
    (subst (λ k. JoinsOn (axis_z shape) (other.z + k) (box_of shape i).z) ends'.edge shares.0) in
    record { along_z = rw at (meets.low other.z); along_x = meets.first; along_y = meets.second }
in_across shape side i other ZHigh t n a b ca cb some ends ends' shares meets =
    let at = on-parts (axis_z shape) side other.z t (box_of shape i).z (scale_of (level_of i)) some ends'.wide ends'.z_end ends.z_end
    (subst (λ k. JoinsOn (axis_z shape) ((box_of shape i).z + k) other.z) ends.edge shares.0) in
    record { along_z = rw at (meets.high other.z); along_x = meets.first; along_y = meets.second }

-- the cell of the other block is on its opposite face
pub cell_on_face : (h : Grid) (face : Face) (a b : ℕ)
    → let c = cell_across face (h.side - 1) a b in cell_at h c.x c.y c.z ≡ face_cell h (opposite_of face) a b
unfolding face_cell
cell_on_face h XLow a b = refl
cell_on_face h XHigh a b = refl
cell_on_face h YLow a b = refl
cell_on_face h YHigh a b = refl
cell_on_face h ZLow a b = refl
cell_on_face h ZHigh a b = refl

pub mean_on_face : (h : Grid) (face : Face) (a b : ℕ)
    → let c = cell_across face (h.side / 2 - 1) a b in mean_at h c.x c.y c.z ≡ face_mean h (opposite_of face) a b
unfolding face_mean
mean_on_face h XLow a b = refl
mean_on_face h XHigh a b = refl
mean_on_face h YLow a b = refl
mean_on_face h YHigh a b = refl
mean_on_face h ZLow a b = refl
mean_on_face h ZHigh a b = refl

-- the first cell of a cube of eight
pub doubled_cell : (face : Face) (n a b : ℕ)
    → let c = cell_across face n a b in record { x = 2 * c.x; y = 2 * c.y; z = 2 * c.z } ≡ cell_across face (2 * n) (2 * a) (2 * b)
doubled_cell XLow n a b = refl
doubled_cell XHigh n a b = refl
doubled_cell YLow n a b = refl
doubled_cell YHigh n a b = refl
doubled_cell ZLow n a b = refl
doubled_cell ZHigh n a b = refl

-- ---- the other leaf

-- the unit of a block beside the unit across
abbrev pub unit_inside : Cube → Face → ℕ → ℕ → Voxel
unit_inside box XLow a b = record { x = box.x; y = box.y + a; z = box.z + b }
unit_inside box XHigh a b = record { x = box.x + (box.edge - 1); y = box.y + a; z = box.z + b }
unit_inside box YLow a b = record { x = box.x + a; y = box.y; z = box.z + b }
unit_inside box YHigh a b = record { x = box.x + a; y = box.y + (box.edge - 1); z = box.z + b }
unit_inside box ZLow a b = record { x = box.x + a; y = box.y + b; z = box.z }
unit_inside box ZHigh a b = record { x = box.x + a; y = box.y + b; z = box.z + (box.edge - 1) }

inside_held : (box : Cube) (face : Face) (a b : ℕ) → a < box.edge → b < box.edge → Holds box (unit_inside box face a b)
inside_held box XLow a b ha hb = record { along_x = omega arith; along_y = omega arith; along_z = omega arith }
inside_held box XHigh a b ha hb = record { along_x = omega arith; along_y = omega arith; along_z = omega arith }
inside_held box YLow a b ha hb = record { along_x = omega arith; along_y = omega arith; along_z = omega arith }
inside_held box YHigh a b ha hb = record { along_x = omega arith; along_y = omega arith; along_z = omega arith }
inside_held box ZLow a b ha hb = record { along_x = omega arith; along_y = omega arith; along_z = omega arith }
inside_held box ZHigh a b ha hb = record { along_x = omega arith; along_y = omega arith; along_z = omega arith }

-- a block has no unit across its own face
not_across_itself : (shape : Shape) (box : Cube) (face : Face) (a b : ℕ) → IsShape shape → box.edge ≤ 16 → (IsAtEdge shape box face → ⊥)
    → Holds box (unit_across shape box face a b) → ⊥
not_across_itself shape box XLow a b is narrow inner held =
    not_before_itself (axis_x shape) box.x box.edge inner (short_x shape is box.edge narrow) held.along_x
not_across_itself shape box XHigh a b is narrow inner held =
    not_after_itself (axis_x shape) box.x box.edge inner (short_x shape is box.edge narrow) held.along_x
not_across_itself shape box YLow a b is narrow inner held =
    not_before_itself (axis_y shape) box.y box.edge inner (short_y shape is box.edge narrow) held.along_y
not_across_itself shape box YHigh a b is narrow inner held =
    not_after_itself (axis_y shape) box.y box.edge inner (short_y shape is box.edge narrow) held.along_y
not_across_itself shape box ZLow a b is narrow inner held =
    not_before_itself (axis_z shape) box.z box.edge inner (short_z shape is box.edge narrow) held.along_z
not_across_itself shape box ZHigh a b is narrow inner held =
    not_after_itself (axis_z shape) box.z box.edge inner (short_z shape is box.edge narrow) held.along_z

-- a box that ends in the domain, with the unit across, and without the unit beside it, shares the face
shares : (shape : Shape) (own other : Cube) (face : Face) (a b : ℕ) → a < own.edge → b < own.edge → (IsAtEdge shape own face → ⊥)
    → EndsIn shape other other.edge → Holds other (unit_across shape own face a b) → (Holds other (unit_inside own face a b) → ⊥) → SharesFace shape face own other
shares shape own other XLow a b ha hb inner fits held apart =
    let first = held.along_y in
    let second = held.along_z in
    let joins = joins_before (axis_x shape) own.x other.x other.edge inner fits.x_end held.along_x (λ h. apart (record { along_x = h; along_y = held.along_y; along_z = held.along_z })) in
    (joins, OverlapsOn-here (axis_y shape) own.y own.edge other.y other.edge (omega arith) (omega arith), OverlapsOn-here (axis_z shape) own.z own.edge other.z other.edge (omega arith) (omega arith))
shares shape own other XHigh a b ha hb inner fits held apart =
    let first = held.along_y in
    let second = held.along_z in
    let joins = joins_after (axis_x shape) own.x own.edge other.x other.edge (omega arith) inner held.along_x (λ h. apart (record { along_x = h; along_y = held.along_y; along_z = held.along_z })) in
    (joins, OverlapsOn-here (axis_y shape) own.y own.edge other.y other.edge (omega arith) (omega arith), OverlapsOn-here (axis_z shape) own.z own.edge other.z other.edge (omega arith) (omega arith))
shares shape own other YLow a b ha hb inner fits held apart =
    let first = held.along_x in
    let second = held.along_z in
    let joins = joins_before (axis_y shape) own.y other.y other.edge inner fits.y_end held.along_y (λ h. apart (record { along_y = h; along_x = held.along_x; along_z = held.along_z })) in
    (joins, OverlapsOn-here (axis_x shape) own.x own.edge other.x other.edge (omega arith) (omega arith), OverlapsOn-here (axis_z shape) own.z own.edge other.z other.edge (omega arith) (omega arith))
shares shape own other YHigh a b ha hb inner fits held apart =
    let first = held.along_x in
    let second = held.along_z in
    let joins = joins_after (axis_y shape) own.y own.edge other.y other.edge (omega arith) inner held.along_y (λ h. apart (record { along_y = h; along_x = held.along_x; along_z = held.along_z })) in
    (joins, OverlapsOn-here (axis_x shape) own.x own.edge other.x other.edge (omega arith) (omega arith), OverlapsOn-here (axis_z shape) own.z own.edge other.z other.edge (omega arith) (omega arith))
shares shape own other ZLow a b ha hb inner fits held apart =
    let first = held.along_x in
    let second = held.along_y in
    let joins = joins_before (axis_z shape) own.z other.z other.edge inner fits.z_end held.along_z (λ h. apart (record { along_z = h; along_x = held.along_x; along_y = held.along_y })) in
    (joins, OverlapsOn-here (axis_x shape) own.x own.edge other.x other.edge (omega arith) (omega arith), OverlapsOn-here (axis_y shape) own.y own.edge other.y other.edge (omega arith) (omega arith))
shares shape own other ZHigh a b ha hb inner fits held apart =
    let first = held.along_x in
    let second = held.along_y in
    let joins = joins_after (axis_z shape) own.z own.edge other.z other.edge (omega arith) inner held.along_z (λ h. apart (record { along_z = h; along_x = held.along_x; along_y = held.along_y })) in
    (joins, OverlapsOn-here (axis_x shape) own.x own.edge other.x other.edge (omega arith) (omega arith), OverlapsOn-here (axis_y shape) own.y own.edge other.y other.edge (omega arith) (omega arith))

-- two leaves that lie across a face
pub record AreAcross (shape : Shape) (side : ℕ) (i j : BlockId) (g h : Grid) (face : Face) : Type 0 where
  pub some : 0 < side
  pub even : side % 2 ≡ 0
  pub fits : g.side ≡ side
  pub fits_too : h.side ≡ side
  pub ends : EndsIn shape (box_of shape i) (scale_of (level_of i))
  pub ends_too : EndsIn shape (box_of shape j) (scale_of (level_of j))
  pub edge : (box_of shape j).edge ≡ scale_of (level_of j)
  pub wide : 0 < scale_of (level_of j)
  pub narrow : (box_of shape i).edge ≤ 16
  pub shallow : level_of i ≤ 4
  pub shallow_too : level_of j ≤ 4
  pub share : SharesFace shape face (box_of shape i) (box_of shape j)

pub leaf_edge : (shape : Shape) (i : BlockId) → level_of i ≤ 4 → (box_of shape i).edge ≡ scale_of (level_of i)
leaf_edge shape i shallow = edge-box shape i (4 - level_of i) (omega arith)

-- a box is no wider than a root
pub box_narrow : (shape : Shape) (i : BlockId) → IsId i → (box_of shape i).edge ≤ 16
box_narrow shape i id = let within = narrowed_within i.digits (root_cube shape i.root) id.octal in omega arith

pub across_leaves : (shape : Shape) (side : ℕ) (leaves : List Leaf) (i j : BlockId) (g h : Grid) (face : Face) (a b : ℕ) → IsShape shape
    → LiesAcross shape side leaves (i, g) face a b (j, h) → a < (box_of shape i).edge → b < (box_of shape i).edge
    → AreAcross shape side i j g h face
across_leaves shape side leaves i j g h face a b valid lies a_in b_in =
    let is = lies.map in
    let id_in : Contains (ids_of leaves) i = Contains-map (λ (leaf : Leaf). leaf.0) leaves (i, g) lies.own_in in
    let id_in_too : Contains (ids_of leaves) j = Contains-map (λ (leaf : Leaf). leaf.0) leaves (j, h) lies.other_in in
    let id = All-contains IsId (ids_of leaves) i is.ids id_in in
    let id_too = All-contains IsId (ids_of leaves) j is.ids id_in_too in
    let cells = All-contains (HasCells side) leaves (i, g) is.cells lies.own_in in
    let cells_too = All-contains (HasCells side) leaves (j, h) is.cells lies.other_in in
    let within = All-contains (InShape shape) (ids_of leaves) i is.in_shape id_in in
    let within_too = All-contains (InShape shape) (ids_of leaves) j is.in_shape id_in_too in
    let ends = box_ends shape i valid id within in
    let ends_too = box_ends shape j valid id_too within_too in
    let edge_too : (box_of shape j).edge ≡ scale_of (level_of j) = leaf_edge shape j id_too.shallow in
    let narrow : (box_of shape i).edge ≤ 16 = box_narrow shape i id in
    let inside = unit_inside (box_of shape i) face a b in
    let low = cells.valid.low in
    let even = cells.valid.even in
    let fits = cells.fits in
    record {
      some = omega arith;
      even = rw fits at even;
      fits = fits;
      fits_too = cells_too.fits;
      ends = record { edge = leaf_edge shape i id.shallow; wide = ends.0; x_end = ends.1; y_end = ends.2; z_end = ends.3 };
      ends_too = record { edge = edge_too; wide = ends_too.0; x_end = ends_too.1; y_end = ends_too.2; z_end = ends_too.3 };
      edge = edge_too;
      narrow = narrow;
      wide = pow_pos (4 - level_of j);
      shallow = id.shallow;
      shallow_too = id_too.shallow;
      share = shares shape (box_of shape i) (box_of shape j) face a b a_in b_in lies.inner
          (record { edge = refl; wide = rw edge_too ends_too.0; x_end = rw edge_too ends_too.1; y_end = rw edge_too ends_too.2; z_end = rw edge_too ends_too.3 }) lies.held (λ held.
          let same = is.tiling.apart inside j i id_in_too id_in held (inside_held (box_of shape i) face a b a_in b_in) in
          not_across_itself shape (box_of shape i) face a b valid narrow lies.inner (subst (λ k. Holds (box_of shape k) (unit_across shape (box_of shape i) face a b)) same lies.held));
    }

-- a leaf is at least a unit wide
edge_some : (shape : Shape) (i : BlockId) {side : ℕ} {leaves : List Leaf} {g : Grid} {face : Face} {a b : ℕ} {other : Leaf}
    → LiesAcross shape side leaves (i, g) face a b other → 0 < (box_of shape i).edge
edge_some shape i {leaves = leaves} {g = g} lies =
    let id = All-contains IsId (ids_of leaves) i lies.map.ids (Contains-map (λ (leaf : Leaf). leaf.0) leaves (i, g) lies.own_in) in
    rw (leaf_edge shape i id.shallow) (pow_pos (4 - level_of i))

-- what is sampled beside a cell, by a leaf that is no finer and by one that is finer
pub beside_no_finer : (shape : Shape) (side : ℕ) (leaves : List Leaf) (i j : BlockId) (g h : Grid) (face : Face) (a b ca cb : ℕ)
    → IsMap shape side leaves → Contains leaves (j, h) → (IsAtEdge shape (box_of shape i) face → ⊥) → AreAcross shape side i j g h face
    → level_of j ≤ level_of i
    → MeetsAlong side (scale_of (level_of j)) (scale_of (level_of i)) (side - 1) a b ca cb face (box_of shape i) (box_of shape j)
    → value_beside shape leaves i g face a b ≡ face_cell h (opposite_of face) ca cb
beside_no_finer shape side leaves i j g h face a b ca cb is has inner are coarse meets =
    let some : 0 < g.side = let t = are.some in let f = are.fits in omega arith in
    let q = corner_across shape side i (scale_of (level_of i)) face a b in
    let c = cell_across face (side - 1) ca cb in
    inner_beside shape leaves i g face a b some are.ends inner
    ∙ ap (λ s. sample shape s leaves (level_of i) (corner_across shape s i (scale_of (level_of i)) face a b)) are.fits
    ∙ sample_in shape side (level_of i) leaves (j, h) q c are.some is has are.edge coarse
    (in_across shape side i (box_of shape j) face (scale_of (level_of j)) (side - 1) a b ca cb are.some are.ends are.ends_too are.share meets)
    ∙ ap (λ s. let k = cell_across face (s - 1) ca cb in cell_at h k.x k.y k.z) (sym are.fits_too)
    ∙ cell_on_face h face ca cb

pub beside_finer : (shape : Shape) (side : ℕ) (leaves : List Leaf) (i j : BlockId) (g h : Grid) (face : Face) (a b ca cb : ℕ)
    → IsMap shape side leaves → Contains leaves (j, h) → (IsAtEdge shape (box_of shape i) face → ⊥) → AreAcross shape side i j g h face
    → level_of i < level_of j
    → MeetsAlong side (scale_of (level_of j)) (scale_of (level_of i)) (2 * (side / 2 - 1)) a b (2 * ca) (2 * cb) face (box_of shape i) (box_of shape j)
    → value_beside shape leaves i g face a b ≡ face_mean h (opposite_of face) ca cb
beside_finer shape side leaves i j g h face a b ca cb is has inner are fine meets =
    let some : 0 < g.side = let t = are.some in let f = are.fits in omega arith in
    let q = corner_across shape side i (scale_of (level_of i)) face a b in
    let c = cell_across face (side / 2 - 1) ca cb in
    inner_beside shape leaves i g face a b some are.ends inner
    ∙ ap (λ s. sample shape s leaves (level_of i) (corner_across shape s i (scale_of (level_of i)) face a b)) are.fits
    ∙ mean_in shape side (level_of i) leaves (j, h) q c.x c.y c.z are.some are.even is has are.edge fine
    (subst (IsIn side (box_of shape j) (scale_of (level_of j)) q) (sym (doubled_cell face (side / 2 - 1) ca cb))
    (in_across shape side i (box_of shape j) face (scale_of (level_of j)) (2 * (side / 2 - 1)) a b (2 * ca) (2 * cb) are.some are.ends are.ends_too are.share meets))
    ∙ ap (λ s. let k = cell_across face (s / 2 - 1) ca cb in mean_at h k.x k.y k.z) (sym are.fits_too)
    ∙ mean_on_face h face ca cb

-- ---- the levels

-- the cells of a level are twice as wide as those of the next
pub scale_doubles : (coarse fine : ℕ) → coarse + 1 ≡ fine → fine ≤ 4 → scale_of coarse ≡ scale_of fine + scale_of fine
scale_doubles coarse fine next shallow =
    let left : 4 - coarse ≡ suc (4 - fine) = omega arith in
    ap (λ (k : ℕ). 2 ^ k) left ∙ pow-suc 2 (4 - fine) ∙ omega arith

-- a half of an edge begins within the edge
pub half_within : (half e : ℕ) → half < 2 → 0 < e → half * (e / 2) < e
half_within zero e bit some = omega arith
half_within (suc zero) e bit some = omega arith
half_within (suc (suc more)) e bit some = absurd (omega arith)

pub same_beside : (shape : Shape) (side : ℕ) (leaves : List Leaf) (i j : BlockId) (g h : Grid) (face : Face) (a b : ℕ) → IsShape shape
    → LiesAcross shape side leaves (i, g) face 0 0 (j, h) → level_of j ≡ level_of i → a < side → b < side
    → value_beside shape leaves i g face a b ≡ face_cell h (opposite_of face) a b
same_beside shape side leaves i j g h face a b valid lies level a_in b_in =
    let own = box_of shape i in
    let other = box_of shape j in
    let e = scale_of (level_of i) in
    let t = scale_of (level_of j) in
    let some_units : 0 < own.edge = edge_some shape i lies in
    let are = across_leaves shape side leaves i j g h face 0 0 valid lies some_units some_units in
    let scale : t ≡ e = ap scale_of level in
    let wide = are.wide in
    let some = are.some in
    let edges : other.edge ≡ own.edge = are.edge ∙ scale ∙ sym are.ends.edge in
    let first : first_low face other ≡ first_low face own =
    same_low _ _ own.edge (first_aligned own face (aligned shape i are.shallow)) (subst (IsMultiple (first_low face other)) edges (first_aligned other face (aligned shape j are.shallow_too)))
    (subst (λ n. Spans (first_low face other) n (first_low face own + 0)) edges (first_spans shape own other face 0 0 lies.held)) in
    let second : second_low face other ≡ second_low face own =
    same_low _ _ own.edge (second_aligned own face (aligned shape i are.shallow)) (subst (IsMultiple (second_low face other)) edges (second_aligned other face (aligned shape j are.shallow_too)))
    (subst (λ n. Spans (second_low face other) n (second_low face own + 0)) edges (second_spans shape own other face 0 0 lies.held)) in
    let meets : MeetsAlong side t e (side - 1) a b a b face own other = record {
      low = λ low. low_along side low t e (side - 1) 1 (omega arith) (omega arith) (omega arith) (omega arith);
      high = λ low. high_along side low t wide some;
      first = rw (first, scale) (same_along side (first_low face own) e a are.ends.wide a_in);
      second = rw (second, scale) (same_along side (second_low face own) e b are.ends.wide b_in);
    } in
    beside_no_finer shape side leaves i j g h face a b a b lies.map lies.other_in lies.inner are (omega arith) meets

pub coarser_beside : (shape : Shape) (side : ℕ) (leaves : List Leaf) (i j : BlockId) (g h : Grid) (face : Face) (half_a half_b a b : ℕ) → IsShape shape
    → LiesAcross shape side leaves (i, g) face 0 0 (j, h) → level_of j + 1 ≡ level_of i
    → half_a < 2 → first_low face (box_of shape i) ≡ first_low face (box_of shape j) + half_a * (box_of shape i).edge
    → half_b < 2 → second_low face (box_of shape i) ≡ second_low face (box_of shape j) + half_b * (box_of shape i).edge
    → a < side → b < side
    → value_beside shape leaves i g face a b ≡ face_cell h (opposite_of face) (half_a * (side / 2) + a / 2) (half_b * (side / 2) + b / 2)
coarser_beside shape side leaves i j g h face half_a half_b a b valid lies level bit_a first bit_b second a_in b_in =
    let own = box_of shape i in
    let other = box_of shape j in
    let e = scale_of (level_of i) in
    let t = scale_of (level_of j) in
    let some_units : 0 < own.edge = edge_some shape i lies in
    let are = across_leaves shape side leaves i j g h face 0 0 valid lies some_units some_units in
    let scale : t ≡ e + e = scale_doubles (level_of j) (level_of i) level are.shallow in
    let wide = are.wide in
    let own_wide = are.ends.wide in
    let some = are.some in
    let meets : MeetsAlong side t e (side - 1) a b (half_a * (side / 2) + a / 2) (half_b * (side / 2) + b / 2) face own other = record {
      low = λ low. low_along side low t e (side - 1) 1 (omega arith) (omega arith) (omega arith) (omega arith);
      high = λ low. high_along side low t wide some;
      first = coarser_along side (first_low face other) e half_a a (first_low face own) t are.even own_wide bit_a a_in
          (first ∙ ap (λ n. first_low face other + half_a * n) are.ends.edge) scale;
      second = coarser_along side (second_low face other) e half_b b (second_low face own) t are.even own_wide bit_b b_in
          (second ∙ ap (λ n. second_low face other + half_b * n) are.ends.edge) scale;
    } in
    beside_no_finer shape side leaves i j g h face a b _ _ lies.map lies.other_in lies.inner are (omega arith) meets

pub finer_beside : (shape : Shape) (side : ℕ) (leaves : List Leaf) (i j : BlockId) (g h : Grid) (face : Face) (half_a half_b a b : ℕ) → IsShape shape
    → half_a < 2 → half_b < 2
    → LiesAcross shape side leaves (i, g) face (half_a * ((box_of shape i).edge / 2)) (half_b * ((box_of shape i).edge / 2)) (j, h)
    → level_of j ≡ level_of i + 1 → a < side / 2 → b < side / 2
    → value_beside shape leaves i g face (half_a * (side / 2) + a) (half_b * (side / 2) + b) ≡ face_mean h (opposite_of face) a b
finer_beside shape side leaves i j g h face half_a half_b a b valid bit_a bit_b lies level a_in b_in =
    let own = box_of shape i in
    let other = box_of shape j in
    let e = scale_of (level_of i) in
    let t = scale_of (level_of j) in
    let off_a = half_a * (own.edge / 2) in
    let off_b = half_b * (own.edge / 2) in
    let some_units : 0 < own.edge = edge_some shape i lies in
    let are = across_leaves shape side leaves i j g h face off_a off_b valid lies (half_within half_a own.edge bit_a some_units) (half_within half_b own.edge bit_b some_units) in
    let scale : e ≡ t + t = scale_doubles (level_of i) (level_of j) (sym level) are.shallow_too in
    let wide = are.wide in
    let some = are.some in
    let even = are.even in
    let own_edge = are.ends.edge in
    let half_edge : own.edge / 2 ≡ t = omega arith in
    let double : own.edge ≡ t + t = own_edge ∙ scale in
    let first : first_low face other ≡ first_low face own + half_a * t =
    finer_low _ _ own.edge t half_a double (first_aligned own face (aligned shape i are.shallow)) (subst (IsMultiple (first_low face other)) are.edge (first_aligned other face (aligned shape j are.shallow_too)))
    (subst (λ n. Spans (first_low face other) t (first_low face own + half_a * n)) half_edge (subst (λ n. Spans (first_low face other) n (first_low face own + off_a)) are.edge (first_spans shape own other face off_a off_b lies.held))) in
    let second : second_low face other ≡ second_low face own + half_b * t =
    finer_low _ _ own.edge t half_b double (second_aligned own face (aligned shape i are.shallow)) (subst (IsMultiple (second_low face other)) are.edge (second_aligned other face (aligned shape j are.shallow_too)))
    (subst (λ n. Spans (second_low face other) t (second_low face own + half_b * n)) half_edge (subst (λ n. Spans (second_low face other) n (second_low face own + off_b)) are.edge (second_spans shape own other face off_a off_b lies.held))) in
    let meets : MeetsAlong side t e (2 * (side / 2 - 1)) (half_a * (side / 2) + a) (half_b * (side / 2) + b) (2 * a) (2 * b) face own other = record {
      low = λ low. low_along side low t e (2 * (side / 2 - 1)) 2 (omega arith) (omega arith) (omega arith) (omega arith);
      high = λ low. high_along side low t wide some;
      first = finer_along side (first_low face other) e half_a a (first_low face own) t even wide a_in first scale;
      second = finer_along side (second_low face other) e half_b b (second_low face own) t even wide b_in second scale;
    } in
    beside_finer shape side leaves i j g h face _ _ a b lies.map lies.other_in lies.inner are (omega arith) meets

-- ---- balanced maps

-- leaves that lie across a face are at most one level apart
pub levels_near : (shape : Shape) (side : ℕ) (leaves : List Leaf) (i j : BlockId) (g h : Grid) (face : Face) (a b : ℕ) → IsShape shape
    → IsBalanced shape (ids_of leaves) → LiesAcross shape side leaves (i, g) face a b (j, h) → a < (box_of shape i).edge → b < (box_of shape i).edge
    → (level_of i ≤ level_of j + 1) × (level_of j ≤ level_of i + 1)
levels_near shape side leaves i j g h face a b valid balanced lies a_in b_in =
    let own_in : Contains (ids_of leaves) i = Contains-map (λ (leaf : Leaf). leaf.0) leaves (i, g) lies.own_in in
    let other_in : Contains (ids_of leaves) j = Contains-map (λ (leaf : Leaf). leaf.0) leaves (j, h) lies.other_in in
    let are = across_leaves shape side leaves i j g h face a b valid lies a_in b_in in
    let apart : i ≡ j → ⊥ = λ same.
    not_across_itself shape (box_of shape i) face a b valid are.narrow lies.inner (subst (λ k. Holds (box_of shape k) (unit_across shape (box_of shape i) face a b)) (sym same) lies.held) in
    let touch : Touch shape i j = (apart, Meet-from_face shape face (box_of shape i) (box_of shape j) are.share) in
    (balanced i j own_in other_in touch, balanced j i other_in own_in (Touch_sym shape i j touch))

-- a box that has a unit across, by its place along the two axes
held_from : (shape : Shape) (own other : Cube) (face : Face) (a b : ℕ) → Holds other (unit_across shape own face a b)
    → Spans (first_low face other) other.edge (first_low face own + 0) → Spans (second_low face other) other.edge (second_low face own + 0)
    → Holds other (unit_across shape own face 0 0)
held_from shape own other XLow a b held first second = record { along_x = held.along_x; along_y = first; along_z = second }
held_from shape own other XHigh a b held first second = record { along_x = held.along_x; along_y = first; along_z = second }
held_from shape own other YLow a b held first second = record { along_y = held.along_y; along_x = first; along_z = second }
held_from shape own other YHigh a b held first second = record { along_y = held.along_y; along_x = first; along_z = second }
held_from shape own other ZLow a b held first second = record { along_z = held.along_z; along_x = first; along_y = second }
held_from shape own other ZHigh a b held first second = record { along_z = held.along_z; along_x = first; along_y = second }

-- where the leaf across is finer at the beginning of a face, it is so beside each quarter
pub finer_everywhere : (shape : Shape) (side : ℕ) (leaves : List Leaf) (i j k : BlockId) (g h l : Grid) (face : Face) (half_a half_b : ℕ) → IsShape shape
    → IsBalanced shape (ids_of leaves) → LiesAcross shape side leaves (i, g) face 0 0 (j, h) → level_of j ≡ level_of i + 1 → half_a < 2 → half_b < 2
    → LiesAcross shape side leaves (i, g) face (half_a * ((box_of shape i).edge / 2)) (half_b * ((box_of shape i).edge / 2)) (k, l)
    → level_of k ≡ level_of i + 1
finer_everywhere shape side leaves i j k g h l face half_a half_b valid balanced first_lies level bit_a bit_b lies =
    let own = box_of shape i in
    let other = box_of shape k in
    let off_a = half_a * (own.edge / 2) in
    let off_b = half_b * (own.edge / 2) in
    let some_units : 0 < own.edge = edge_some shape i lies in
    let a_in = half_within half_a own.edge bit_a some_units in
    let b_in = half_within half_b own.edge bit_b some_units in
    let near = levels_near shape side leaves i k g l face off_a off_b valid balanced lies a_in b_in in
    elim (cases_lt (level_of i) (level_of k)) [
      | inl finer ↦ let least = near.1 in omega arith
      | inr coarse ↦
          let are = across_leaves shape side leaves i k g l face off_a off_b valid lies a_in b_in in
          let depth = are.shallow in
          let whole : 4 - level_of k ≡ (4 - level_of i) + (level_of i - level_of k) = omega arith in
          let times : ℕ = 2 ^ (level_of i - level_of k) in
          let long : other.edge ≡ own.edge * times =
          are.edge ∙ ap (λ (n : ℕ). 2 ^ n) whole ∙ pow-add 2 (4 - level_of i) (level_of i - level_of k) ∙ ap (λ n. n * times) (sym are.ends.edge) in
          let aligned_own = aligned shape i depth in
          let aligned_other = aligned shape k are.shallow_too in
          let first = no_finer_low _ _ own.edge other.edge times off_a long a_in (first_aligned own face aligned_own) (first_aligned other face aligned_other) (first_spans shape own other face off_a off_b lies.held) in
          let second = no_finer_low _ _ own.edge other.edge times off_b long b_in (second_aligned own face aligned_own) (second_aligned other face aligned_other) (second_spans shape own other face off_a off_b lies.held) in
          let held = held_from shape own other face off_a off_b lies.held first second in
          let same : k ≡ j = lies.map.tiling.apart (unit_across shape own face 0 0) k j (Contains-map (λ (leaf : Leaf). leaf.0) leaves (k, l) lies.other_in)
          (Contains-map (λ (leaf : Leaf). leaf.0) leaves (j, h) first_lies.other_in) held first_lies.held in
          ap level_of same ∙ level
    ]

-- the unit across an inner face lies in the domain
pub across_in_domain : (shape : Shape) (box : Cube) (e : ℕ) (face : Face) (a b : ℕ) → EndsIn shape box e → (IsAtEdge shape box face → ⊥)
    → a < box.edge → b < box.edge → InDomain shape (unit_across shape box face a b)
across_in_domain shape box e XLow a b ends inner a_in b_in =
    let edge = ends.edge in
    let wide = ends.wide in
    let x_end = ends.x_end in
    let y_end = ends.y_end in
    let z_end = ends.z_end in
    let some : 0 < 16 * shape.nx = omega arith in
    let low : box.x < 16 * shape.nx = omega arith in
    record { along_x = back-below (axis_x shape) box.x inner some low; along_y = omega arith; along_z = omega arith }
across_in_domain shape box e XHigh a b ends inner a_in b_in =
    let edge = ends.edge in
    let wide = ends.wide in
    let x_end = ends.x_end in
    let y_end = ends.y_end in
    let z_end = ends.z_end in
    let some : 0 < 16 * shape.nx = omega arith in
    let low : box.x < 16 * shape.nx = omega arith in
    record { along_x = on-below (axis_x shape) box.edge box.x inner some (omega arith); along_y = omega arith; along_z = omega arith }
across_in_domain shape box e YLow a b ends inner a_in b_in =
    let edge = ends.edge in
    let wide = ends.wide in
    let x_end = ends.x_end in
    let y_end = ends.y_end in
    let z_end = ends.z_end in
    let some : 0 < 16 * shape.ny = omega arith in
    let low : box.y < 16 * shape.ny = omega arith in
    record { along_y = back-below (axis_y shape) box.y inner some low; along_x = omega arith; along_z = omega arith }
across_in_domain shape box e YHigh a b ends inner a_in b_in =
    let edge = ends.edge in
    let wide = ends.wide in
    let x_end = ends.x_end in
    let y_end = ends.y_end in
    let z_end = ends.z_end in
    let some : 0 < 16 * shape.ny = omega arith in
    let low : box.y < 16 * shape.ny = omega arith in
    record { along_y = on-below (axis_y shape) box.edge box.y inner some (omega arith); along_x = omega arith; along_z = omega arith }
across_in_domain shape box e ZLow a b ends inner a_in b_in =
    let edge = ends.edge in
    let wide = ends.wide in
    let x_end = ends.x_end in
    let y_end = ends.y_end in
    let z_end = ends.z_end in
    let some : 0 < 16 * shape.nz = omega arith in
    let low : box.z < 16 * shape.nz = omega arith in
    record { along_z = back-below (axis_z shape) box.z inner some low; along_x = omega arith; along_y = omega arith }
across_in_domain shape box e ZHigh a b ends inner a_in b_in =
    let edge = ends.edge in
    let wide = ends.wide in
    let x_end = ends.x_end in
    let y_end = ends.y_end in
    let z_end = ends.z_end in
    let some : 0 < 16 * shape.nz = omega arith in
    let low : box.z < 16 * shape.nz = omega arith in
    record { along_z = on-below (axis_z shape) box.edge box.z inner some (omega arith); along_x = omega arith; along_y = omega arith }
