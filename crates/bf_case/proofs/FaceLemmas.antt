-- Leaves that share a face: where each lies across it, and that they leave no place of an inner face out.
use Rattle.std.proofs.Common.{◌≡◌, ℕ, ◌+◌, ◌*◌, ◌/◌, ◌%◌, ◌<◌, ◌≤◌, List, Contains, Bool, true, cond, eqb, ltb, ◌&&◌, refl, sym, ap, subst, ◌∙◌, arith, inl, inr}
use Rattle.std.proofs.lemmas.Nat.{div_below}
use Rattle.std.proofs.lemmas.Bool.{cases_lt, cases_order}
use Rattle.std.proofs.lemmas.Bool.Decides.{nat_tests}
use Rattle.std.proofs.lemmas.List.Elements.{All-contains}
use Rattle.bf_id.specs.declared.shape.Shape.{Shape}
use Rattle.bf_face.specs.declared.face.Face.{Face}
use Rattle.bf_face.specs.declared.face.Face.TheVariants.{XLow, XHigh, YLow, YHigh, ZLow, ZHigh}
use Rattle.bf_id.specs.Cube.{Cube, Holds, Spans, Overlaps, halved}
use Rattle.bf_face.specs.Face.{opposite_of}
use Rattle.bf_id.specs.Face.{SharesFace}
use Rattle.bf_id.specs.Id.{BlockId, IsId, InShape, Touch, box_of, level_of, parent_of, octant_of}
use Rattle.bf_id.specs.Shape.{IsShape, axis_x, axis_y, axis_z}
use Rattle.bf_id.proofs.Axes.{Overlaps-from_axis}
use Rattle.bf_id.proofs.Steps.{spans_before, spans_after, joins_inner_first, joins_inner_last, not_joined_to_itself}
use Rattle.bf_id.specs.Tiling.{IsBalanced}
use Rattle.bf_id.proofs.Boxes.{box-child, Touch_sym}
use Rattle.bf_id.proofs.Cubes.{Meet-from_face, opposite_face, short_x, short_y, short_z}
use Rattle.bf_cells.specs.Grid.{Grid}
use Rattle.bf_cells.specs.Levels.{face_mean}
use Rattle.bf_cells.specs.Shell.{face_cell}
use Rattle.bf_id.specs.Neighbours.{IsAtEdge, unit_across}
use Rattle.bf_case.specs.Beside.{first_low, second_low, value_beside, LiesAcross}
use Rattle.bf_case.specs.Map.{Leaf, HasCells, IsMap, ids_of}
use Rattle.bf_case.specs.Sample.{scale_of}
use Rattle.bf_case.proofs.AcrossLemmas.{EndsIn, across_in_domain, across_leaves, box_narrow, coarser_beside, finer_beside, finer_everywhere, half_within, leaf_edge, levels_near, same_beside, scale_doubles}
use Rattle.bf_case.proofs.AlignLemmas.{IsMultiple, aligned, first_aligned, second_aligned, first_spans, second_spans, one_multiple}
use Rattle.bf_case.proofs.BlockSteps.{box_ends}
use Rattle.bf_case.proofs.ListLemmas.{Contains-map, Contains-map_cases}
use Rattle.bf_case.proofs.OctetLemmas.{child_of_parent, level-parent, octant_small}
use Rattle.bf_case.specs.Halves.{first_half, second_half, is_opposite, ShareFace}

-- ---- one axis

-- overlapping stretches of one length begin together, where both begin at multiples of it
pub same_together : (low y e : ℕ) → IsMultiple y e → IsMultiple low e → Overlaps y e low e → low ≡ y
same_together low y e (k, is) (l, is') over =
    elim (cases_order (l * e) (k * e)) [
      | inl same ↦ omega arith
      | inr (inl less) ↦ is' ∙ ap (λ n. n * e) (one_multiple l k e (omega arith) (omega arith)) ∙ sym is
      | inr (inr more) ↦ is' ∙ ap (λ n. n * e) (sym (one_multiple k l e (omega arith) (omega arith))) ∙ sym is
    ]

-- a half of one stretch overlaps another of the whole's length: it begins at this half of it
pub half_together : (low y whole e t half : ℕ) → t ≡ e + e → half < 2 → y ≡ whole + half * e → IsMultiple whole t → IsMultiple low t → Overlaps y e low t
    → y ≡ low + half * e
half_together low y whole e t half double bit is whole_at low_at over =
    let at_most : half * e ≤ e = half_most half bit in
    let begins : low ≡ whole = same_together low whole t whole_at low_at (omega arith, omega arith) in
    rw begins is
  where
    half_most : (h : ℕ) → h < 2 → h * e ≤ e
    half_most h few = elim (cases_lt h 1) [
      | inl none ↦ let zero : h ≡ 0 = omega arith in rw zero (omega arith)
      | inr some ↦ let one : h ≡ 1 = omega arith in rw one (omega arith)
    ]

-- ---- faces

-- boxes that share a face overlap along the face's two axes
pub first_overlaps : (shape : Shape) (face : Face) (c d : Cube) → EndsIn shape c c.edge → EndsIn shape d d.edge → SharesFace shape face c d
    → Overlaps (first_low face c) c.edge (first_low face d) d.edge
first_overlaps shape XLow c d own other h = Overlaps-from_axis (axis_y shape) c.y c.edge d.y d.edge own.y_end other.y_end h.1
first_overlaps shape XHigh c d own other h = Overlaps-from_axis (axis_y shape) c.y c.edge d.y d.edge own.y_end other.y_end h.1
first_overlaps shape YLow c d own other h = Overlaps-from_axis (axis_x shape) c.x c.edge d.x d.edge own.x_end other.x_end h.1
first_overlaps shape YHigh c d own other h = Overlaps-from_axis (axis_x shape) c.x c.edge d.x d.edge own.x_end other.x_end h.1
first_overlaps shape ZLow c d own other h = Overlaps-from_axis (axis_x shape) c.x c.edge d.x d.edge own.x_end other.x_end h.1
first_overlaps shape ZHigh c d own other h = Overlaps-from_axis (axis_x shape) c.x c.edge d.x d.edge own.x_end other.x_end h.1

pub second_overlaps : (shape : Shape) (face : Face) (c d : Cube) → EndsIn shape c c.edge → EndsIn shape d d.edge → SharesFace shape face c d
    → Overlaps (second_low face c) c.edge (second_low face d) d.edge
second_overlaps shape XLow c d own other h = Overlaps-from_axis (axis_z shape) c.z c.edge d.z d.edge own.z_end other.z_end h.2
second_overlaps shape XHigh c d own other h = Overlaps-from_axis (axis_z shape) c.z c.edge d.z d.edge own.z_end other.z_end h.2
second_overlaps shape YLow c d own other h = Overlaps-from_axis (axis_z shape) c.z c.edge d.z d.edge own.z_end other.z_end h.2
second_overlaps shape YHigh c d own other h = Overlaps-from_axis (axis_z shape) c.z c.edge d.z d.edge own.z_end other.z_end h.2
second_overlaps shape ZLow c d own other h = Overlaps-from_axis (axis_y shape) c.y c.edge d.y d.edge own.y_end other.y_end h.2
second_overlaps shape ZHigh c d own other h = Overlaps-from_axis (axis_y shape) c.y c.edge d.y d.edge own.y_end other.y_end h.2

-- a box that shares a face has a unit across it, by its place along the two axes
pub held_across : (shape : Shape) (face : Face) (c d : Cube) (a b : ℕ) → EndsIn shape c c.edge → EndsIn shape d d.edge → SharesFace shape face c d
    → Spans (first_low face d) d.edge (first_low face c + a) → Spans (second_low face d) d.edge (second_low face c + b)
    → Holds d (unit_across shape c face a b)
held_across shape XLow c d a b own other h first second =
    record { along_x = spans_before (axis_x shape) c.x c.edge d.x d.edge own.wide other.wide own.x_end other.x_end h.0; along_y = first; along_z = second }
held_across shape XHigh c d a b own other h first second =
    record { along_x = spans_after (axis_x shape) c.x c.edge d.x d.edge other.wide own.x_end other.x_end h.0; along_y = first; along_z = second }
held_across shape YLow c d a b own other h first second =
    record { along_y = spans_before (axis_y shape) c.y c.edge d.y d.edge own.wide other.wide own.y_end other.y_end h.0; along_x = first; along_z = second }
held_across shape YHigh c d a b own other h first second =
    record { along_y = spans_after (axis_y shape) c.y c.edge d.y d.edge other.wide own.y_end other.y_end h.0; along_x = first; along_z = second }
held_across shape ZLow c d a b own other h first second =
    record { along_z = spans_before (axis_z shape) c.z c.edge d.z d.edge own.wide other.wide own.z_end other.z_end h.0; along_x = first; along_y = second }
held_across shape ZHigh c d a b own other h first second =
    record { along_z = spans_after (axis_z shape) c.z c.edge d.z d.edge other.wide own.z_end other.z_end h.0; along_x = first; along_y = second }

-- a face with a box of the domain on its other side doesn't lie at the edge
pub shared_is_inner : (shape : Shape) (face : Face) (c d : Cube) → EndsIn shape d d.edge → SharesFace shape face c d → IsAtEdge shape c face → ⊥
shared_is_inner shape XLow c d other h at = joins_inner_first (axis_x shape) c.x d.x d.edge other.wide h.0 at
shared_is_inner shape XHigh c d other h at = joins_inner_last (axis_x shape) c.x c.edge d.x d.edge other.wide other.x_end h.0 at
shared_is_inner shape YLow c d other h at = joins_inner_first (axis_y shape) c.y d.y d.edge other.wide h.0 at
shared_is_inner shape YHigh c d other h at = joins_inner_last (axis_y shape) c.y c.edge d.y d.edge other.wide other.y_end h.0 at
shared_is_inner shape ZLow c d other h at = joins_inner_first (axis_z shape) c.z d.z d.edge other.wide h.0 at
shared_is_inner shape ZHigh c d other h at = joins_inner_last (axis_z shape) c.z c.edge d.z d.edge other.wide other.z_end h.0 at

-- the opposite face has the same two axes
first_opposite : (face : Face) (c : Cube) → first_low (opposite_of face) c ≡ first_low face c
first_opposite XLow c = refl
first_opposite XHigh c = refl
first_opposite YLow c = refl
first_opposite YHigh c = refl
first_opposite ZLow c = refl
first_opposite ZHigh c = refl

second_opposite : (face : Face) (c : Cube) → second_low (opposite_of face) c ≡ second_low face c
second_opposite XLow c = refl
second_opposite XHigh c = refl
second_opposite YLow c = refl
second_opposite YHigh c = refl
second_opposite ZLow c = refl
second_opposite ZHigh c = refl

half_opposite : (face : Face) (o : ℕ) → (first_half (opposite_of face) o ≡ first_half face o) × (second_half (opposite_of face) o ≡ second_half face o)
half_opposite XLow o = (refl, refl)
half_opposite XHigh o = (refl, refl)
half_opposite YLow o = (refl, refl)
half_opposite YHigh o = (refl, refl)
half_opposite ZLow o = (refl, refl)
half_opposite ZHigh o = (refl, refl)

-- ---- a block in its parent

pub halves_are_bits : (face : Face) (o : ℕ) → o < 8 → (first_half face o < 2) × (second_half face o < 2)
halves_are_bits XLow o h = (omega arith, omega arith)
halves_are_bits XHigh o h = (omega arith, omega arith)
halves_are_bits YLow o h = (omega arith, omega arith)
halves_are_bits YHigh o h = (omega arith, omega arith)
halves_are_bits ZLow o h = (omega arith, omega arith)
halves_are_bits ZHigh o h = (omega arith, omega arith)

halved_lows : (face : Face) (c : Cube) (o : ℕ) → (first_low face (halved c o) ≡ first_low face c + first_half face o * (c.edge / 2))
    × (second_low face (halved c o) ≡ second_low face c + second_half face o * (c.edge / 2))
halved_lows XLow c o = (refl, refl)
halved_lows XHigh c o = (refl, refl)
halved_lows YLow c o = (refl, refl)
halved_lows YHigh c o = (refl, refl)
halved_lows ZLow c o = (refl, refl)
halved_lows ZHigh c o = (refl, refl)

-- where a block begins along the axes of a face, seen from its parent
parent_lows : (shape : Shape) (face : Face) (i : BlockId) → 0 < level_of i
    → (first_low face (box_of shape i) ≡ first_low face (box_of shape (parent_of i)) + first_half face (octant_of i) * (box_of shape i).edge)
    × (second_low face (box_of shape i) ≡ second_low face (box_of shape (parent_of i)) + second_half face (octant_of i) * (box_of shape i).edge)
parent_lows shape face i some =
    let whole = box_of shape (parent_of i) in
    let is : box_of shape i ≡ halved whole (octant_of i) = ap (box_of shape) (child_of_parent i some) ∙ box-child shape (parent_of i) (octant_of i) in
    let P : Cube → Type 0 = λ c. (first_low face c ≡ first_low face whole + first_half face (octant_of i) * c.edge) × (second_low face c ≡ second_low face whole + second_half face (octant_of i) * c.edge) in
    subst P (sym is) (halved_lows face whole (octant_of i))

-- where a block shares a face with one that is one level coarser, it begins at this half of it
pub halves_of_coarser : (shape : Shape) (face : Face) (i j : BlockId) → IsId i → EndsIn shape (box_of shape i) (box_of shape i).edge
    → EndsIn shape (box_of shape j) (box_of shape j).edge → level_of j + 1 ≡ level_of i → SharesFace shape face (box_of shape i) (box_of shape j)
    → (first_low face (box_of shape i) ≡ first_low face (box_of shape j) + first_half face (octant_of i) * (box_of shape i).edge)
    × (second_low face (box_of shape i) ≡ second_low face (box_of shape j) + second_half face (octant_of i) * (box_of shape i).edge)
halves_of_coarser shape face i j id own_ends other_ends level share =
    let some : 0 < level_of i = omega arith in
    let depth = id.shallow in
    let own = box_of shape i in
    let other = box_of shape j in
    let whole = box_of shape (parent_of i) in
    let up : level_of (parent_of i) + 1 ≡ level_of i = level-parent i (child_of_parent i some) in
    let e = leaf_edge shape i depth in
    let t = leaf_edge shape j (omega arith) in
    let w = leaf_edge shape (parent_of i) (omega arith) in
    let twice = scale_doubles (level_of j) (level_of i) level depth in
    let twice_too = scale_doubles (level_of (parent_of i)) (level_of i) up depth in
    let double : other.edge ≡ own.edge + own.edge = omega arith in
    let one : whole.edge ≡ other.edge = omega arith in
    let bits = halves_are_bits face (octant_of i) (octant_small i id some) in
    let lows = parent_lows shape face i some in
    let whole_at = aligned shape (parent_of i) (omega arith) in
    let other_at = aligned shape j (omega arith) in (
      half_together _ _ (first_low face whole) own.edge other.edge (first_half face (octant_of i)) double bits.0 lows.0
          (subst (IsMultiple (first_low face whole)) one (first_aligned whole face whole_at)) (first_aligned other face other_at) (first_overlaps shape face own other own_ends other_ends share),
      half_together _ _ (second_low face whole) own.edge other.edge (second_half face (octant_of i)) double bits.1 lows.1
          (subst (IsMultiple (second_low face whole)) one (second_aligned whole face whole_at)) (second_aligned other face other_at) (second_overlaps shape face own other own_ends other_ends share),
    )

-- ---- leaves of a map

-- the end of a box, told by its edge
in_units : {shape : Shape} {box : Cube} {e : ℕ} → EndsIn shape box e → EndsIn shape box box.edge
in_units {shape = shape} {box = box} ends = subst (EndsIn shape box) (sym ends.edge) ends

-- a leaf of a map
pub record IsLeaf (shape : Shape) (side : ℕ) (i : BlockId) (g : Grid) : Type 0 where
  pub id : IsId i
  pub fits : g.side ≡ side
  pub even : side % 2 ≡ 0
  pub low : 2 ≤ side
  pub ends : EndsIn shape (box_of shape i) (scale_of (level_of i))

pub leaf_is : (shape : Shape) (side : ℕ) (leaves : List Leaf) (i : BlockId) (g : Grid) → IsShape shape → IsMap shape side leaves → Contains leaves (i, g) → IsLeaf shape side i g
leaf_is shape side leaves i g domain is has =
    let id_in : Contains (ids_of leaves) i = Contains-map (λ (leaf : Leaf). leaf.0) leaves (i, g) has in
    let id = All-contains IsId (ids_of leaves) i is.ids id_in in
    let cells = All-contains (HasCells side) leaves (i, g) is.cells has in
    let ends = box_ends shape i domain id (All-contains (InShape shape) (ids_of leaves) i is.in_shape id_in) in
    let fits : g.side ≡ side = cells.fits in
    let low = cells.valid.low in
    record {
      id = id;
      fits = fits;
      even = rw (← fits) cells.valid.even;
      low = omega arith;
      ends = record { edge = leaf_edge shape i id.shallow; wide = ends.0; x_end = ends.1; y_end = ends.2; z_end = ends.3 };
    }

-- the other leaf has a unit across, by its place along the two axes
lies_across : (shape : Shape) (side : ℕ) (leaves : List Leaf) (i j : BlockId) (g h : Grid) (face : Face) (a b : ℕ)
    → ShareFace shape side leaves (i, g) face (j, h)
    → Spans (first_low face (box_of shape j)) (box_of shape j).edge (first_low face (box_of shape i) + a)
    → Spans (second_low face (box_of shape j)) (box_of shape j).edge (second_low face (box_of shape i) + b)
    → LiesAcross shape side leaves (i, g) face a b (j, h)
lies_across shape side leaves i j g h face a b are first second =
    let own = in_units (leaf_is shape side leaves i g are.domain are.map are.own_in).ends in
    let other = in_units (leaf_is shape side leaves j h are.domain are.map are.other_in).ends in
    record {
      map = are.map;
      own_in = are.own_in;
      other_in = are.other_in;
      inner = shared_is_inner shape face (box_of shape i) (box_of shape j) other are.share;
      held = held_across shape face (box_of shape i) (box_of shape j) a b own other are.share first second;
    }

pub same_shares : (shape : Shape) (side : ℕ) (leaves : List Leaf) (i j : BlockId) (g h : Grid) (face : Face) (a b : ℕ)
    → ShareFace shape side leaves (i, g) face (j, h) → level_of j ≡ level_of i → a < side → b < side
    → value_beside shape leaves i g face a b ≡ face_cell h (opposite_of face) a b
same_shares shape side leaves i j g h face a b are level a_in b_in =
    let own = leaf_is shape side leaves i g are.domain are.map are.own_in in
    let other = leaf_is shape side leaves j h are.domain are.map are.other_in in
    let e = own.ends.edge in
    let t = other.ends.edge in
    let wide = own.ends.wide in
    let one : (box_of shape j).edge ≡ (box_of shape i).edge = t ∙ ap scale_of level ∙ sym e in
    let own_at = aligned shape i own.id.shallow in
    let other_at = aligned shape j other.id.shallow in
    let Over : (Face → Cube → ℕ) → ℕ → Type 0 = λ low n. Overlaps (low face (box_of shape i)) (box_of shape i).edge (low face (box_of shape j)) n in
    let At : (Face → Cube → ℕ) → ℕ → Type 0 = λ low n. IsMultiple (low face (box_of shape j)) n in
    let first_over : Overlaps (first_low face (box_of shape i)) (box_of shape i).edge (first_low face (box_of shape j)) (box_of shape i).edge =
    subst (Over first_low) one (first_overlaps shape face (box_of shape i) (box_of shape j) (in_units own.ends) (in_units other.ends) are.share) in
    let second_over : Overlaps (second_low face (box_of shape i)) (box_of shape i).edge (second_low face (box_of shape j)) (box_of shape i).edge =
    subst (Over second_low) one (second_overlaps shape face (box_of shape i) (box_of shape j) (in_units own.ends) (in_units other.ends) are.share) in
    let first = same_together (first_low face (box_of shape j)) (first_low face (box_of shape i)) (box_of shape i).edge (first_aligned (box_of shape i) face own_at)
    (subst (At first_low) one (first_aligned (box_of shape j) face other_at)) first_over in
    let second = same_together (second_low face (box_of shape j)) (second_low face (box_of shape i)) (box_of shape i).edge (second_aligned (box_of shape i) face own_at)
    (subst (At second_low) one (second_aligned (box_of shape j) face other_at)) second_over in
    same_beside shape side leaves i j g h face a b are.domain
    (lies_across shape side leaves i j g h face 0 0 are (omega arith, omega arith) (omega arith, omega arith)) level a_in b_in

pub coarser_shares : (shape : Shape) (side : ℕ) (leaves : List Leaf) (i j : BlockId) (g h : Grid) (face : Face) (a b : ℕ)
    → ShareFace shape side leaves (i, g) face (j, h) → level_of j + 1 ≡ level_of i → a < side → b < side
    → value_beside shape leaves i g face a b
    ≡ face_cell h (opposite_of face) (first_half face (octant_of i) * (side / 2) + a / 2) (second_half face (octant_of i) * (side / 2) + b / 2)
coarser_shares shape side leaves i j g h face a b are level a_in b_in =
    let own = leaf_is shape side leaves i g are.domain are.map are.own_in in
    let bits = halves_are_bits face (octant_of i) (octant_small i own.id (omega arith)) in
    let other = leaf_is shape side leaves j h are.domain are.map are.other_in in
    let lows = halves_of_coarser shape face i j own.id (in_units own.ends) (in_units other.ends) level are.share in
    let first_over = first_overlaps shape face (box_of shape i) (box_of shape j) (in_units own.ends) (in_units other.ends) are.share in
    let second_over = second_overlaps shape face (box_of shape i) (box_of shape j) (in_units own.ends) (in_units other.ends) are.share in
    let first : Spans (first_low face (box_of shape j)) (box_of shape j).edge (first_low face (box_of shape i) + 0) = (rw lows.0 (omega arith), omega arith) in
    let second : Spans (second_low face (box_of shape j)) (box_of shape j).edge (second_low face (box_of shape i) + 0) = (rw lows.1 (omega arith), omega arith) in
    coarser_beside shape side leaves i j g h face (first_half face (octant_of i)) (second_half face (octant_of i)) a b are.domain
    (lies_across shape side leaves i j g h face 0 0 are first second) level bits.0 lows.0 bits.1 lows.1 a_in b_in

-- where a finer leaf shares a face, it begins at this half of it
finer_lows : (shape : Shape) (side : ℕ) (leaves : List Leaf) (i j : BlockId) (g h : Grid) (face : Face)
    → ShareFace shape side leaves (i, g) face (j, h) → level_of j ≡ level_of i + 1
    → (first_low face (box_of shape j) ≡ first_low face (box_of shape i) + first_half face (octant_of j) * ((box_of shape i).edge / 2))
    × (second_low face (box_of shape j) ≡ second_low face (box_of shape i) + second_half face (octant_of j) * ((box_of shape i).edge / 2))
    × ((box_of shape j).edge ≡ (box_of shape i).edge / 2)
finer_lows shape side leaves i j g h face are level =
    let own = leaf_is shape side leaves i g are.domain are.map are.own_in in
    let other = leaf_is shape side leaves j h are.domain are.map are.other_in in
    let twice = scale_doubles (level_of i) (level_of j) (sym level) other.id.shallow in
    let half : (box_of shape j).edge ≡ (box_of shape i).edge / 2 = let e = own.ends.edge in let t = other.ends.edge in omega arith in
    let lows = halves_of_coarser shape (opposite_of face) j i other.id (in_units other.ends) (in_units own.ends) (sym level) (opposite_face shape face (box_of shape i) (box_of shape j) are.share) in
    let turned = half_opposite face (octant_of j) in (
      sym (first_opposite face (box_of shape j)) ∙ lows.0 ∙ ap (λ n. n + first_half (opposite_of face) (octant_of j) * (box_of shape j).edge) (first_opposite face (box_of shape i))
          ∙ ap (λ n. first_low face (box_of shape i) + n * (box_of shape j).edge) turned.0 ∙ ap (λ n. first_low face (box_of shape i) + first_half face (octant_of j) * n) half,
      sym (second_opposite face (box_of shape j)) ∙ lows.1 ∙ ap (λ n. n + second_half (opposite_of face) (octant_of j) * (box_of shape j).edge) (second_opposite face (box_of shape i))
          ∙ ap (λ n. second_low face (box_of shape i) + n * (box_of shape j).edge) turned.1 ∙ ap (λ n. second_low face (box_of shape i) + second_half face (octant_of j) * n) half,
      half,
    )

pub finer_shares : (shape : Shape) (side : ℕ) (leaves : List Leaf) (i j : BlockId) (g h : Grid) (face : Face) (a b : ℕ)
    → ShareFace shape side leaves (i, g) face (j, h) → level_of j ≡ level_of i + 1 → a < side / 2 → b < side / 2
    → value_beside shape leaves i g face (first_half face (octant_of j) * (side / 2) + a) (second_half face (octant_of j) * (side / 2) + b)
    ≡ face_mean h (opposite_of face) a b
finer_shares shape side leaves i j g h face a b are level a_in b_in =
    let other = leaf_is shape side leaves j h are.domain are.map are.other_in in
    let bits = halves_are_bits face (octant_of j) (octant_small j other.id (omega arith)) in
    let lows = finer_lows shape side leaves i j g h face are level in
    let some : 0 < (box_of shape j).edge = let e = other.ends.edge in let w = other.ends.wide in omega arith in
    let first : Spans (first_low face (box_of shape j)) (box_of shape j).edge (first_low face (box_of shape i) + first_half face (octant_of j) * ((box_of shape i).edge / 2)) = rw (← lows.0) (omega arith, omega arith) in
    let second : Spans (second_low face (box_of shape j)) (box_of shape j).edge (second_low face (box_of shape i) + second_half face (octant_of j) * ((box_of shape i).edge / 2)) = rw (← lows.1) (omega arith, omega arith) in
    finer_beside shape side leaves i j g h face (first_half face (octant_of j)) (second_half face (octant_of j)) a b are.domain bits.0 bits.1
    (lies_across shape side leaves i j g h face _ _ are first second) level a_in b_in

-- no box that is no wider than a root shares a face with itself
pub not_itself : (shape : Shape) (face : Face) (c : Cube) → IsShape shape → 0 < c.edge → c.edge ≤ 16 → SharesFace shape face c c → ⊥
not_itself shape XLow c is wide narrow h = not_joined_to_itself (axis_x shape) c.x c.edge (short_x shape is c.edge narrow) wide h.0
not_itself shape XHigh c is wide narrow h = not_joined_to_itself (axis_x shape) c.x c.edge (short_x shape is c.edge narrow) wide h.0
not_itself shape YLow c is wide narrow h = not_joined_to_itself (axis_y shape) c.y c.edge (short_y shape is c.edge narrow) wide h.0
not_itself shape YHigh c is wide narrow h = not_joined_to_itself (axis_y shape) c.y c.edge (short_y shape is c.edge narrow) wide h.0
not_itself shape ZLow c is wide narrow h = not_joined_to_itself (axis_z shape) c.z c.edge (short_z shape is c.edge narrow) wide h.0
not_itself shape ZHigh c is wide narrow h = not_joined_to_itself (axis_z shape) c.z c.edge (short_z shape is c.edge narrow) wide h.0

-- leaves that share a face touch
pub shares_touch : (shape : Shape) (side : ℕ) (leaves : List Leaf) (i j : BlockId) (g h : Grid) (face : Face)
    → ShareFace shape side leaves (i, g) face (j, h) → Touch shape i j
shares_touch shape side leaves i j g h face are =
    let own = leaf_is shape side leaves i g are.domain are.map are.own_in in
    let narrow = box_narrow shape i own.id in (
      λ same. not_itself shape face (box_of shape i) are.domain (in_units own.ends).wide narrow
          (subst (λ k. SharesFace shape face (box_of shape i) (box_of shape k)) (sym same) are.share),
      Meet-from_face shape face (box_of shape i) (box_of shape j) are.share,
    )

-- in a balanced map, leaves that share a face are at most one level apart
pub shares_near : (shape : Shape) (side : ℕ) (leaves : List Leaf) (i j : BlockId) (g h : Grid) (face : Face)
    → ShareFace shape side leaves (i, g) face (j, h) → IsBalanced shape (ids_of leaves) → (level_of i ≤ level_of j + 1) × (level_of j ≤ level_of i + 1)
shares_near shape side leaves i j g h face are balanced =
    let own_in : Contains (ids_of leaves) i = Contains-map (λ (leaf : Leaf). leaf.0) leaves (i, g) are.own_in in
    let other_in : Contains (ids_of leaves) j = Contains-map (λ (leaf : Leaf). leaf.0) leaves (j, h) are.other_in in
    let touch = shares_touch shape side leaves i j g h face are in
    (balanced i j own_in other_in touch, balanced j i other_in own_in (Touch_sym shape i j touch))

-- ---- no place is left out

beside_coarse : (x y : ℕ) (t : Bool) → y ≤ x → cond (ltb x y) t true ≡ true
beside_coarse x y t coarse = grind (arith, nat_tests)

beside_fine : (x y p q m n k l : ℕ) → p ≡ m → q ≡ n → cond (ltb x y) (eqb p m && eqb q n) true ≡ true
beside_fine x y p q m n k l first second = grind (arith, nat_tests)

-- the half of a stretch in which a unit lies that stands where a half begins
which_half : (low other t e m n : ℕ) → other ≡ low + m * t → e ≡ t → Spans other e (low + n * t) → m ≡ n
which_half low other t e m n is same spans = one_multiple m n t (omega arith) (omega arith)

pub record IsOpposite (shape : Shape) (side : ℕ) (leaves : List Leaf) (i : BlockId) (face : Face) (a b : ℕ) : Type 0 where
  pub other : Leaf
  pub in_map : Contains leaves other
  pub share : SharesFace shape face (box_of shape i) (box_of shape other.0)
  pub part : is_opposite side face i other.0 a b ≡ true

pub some_opposite : (shape : Shape) (side : ℕ) (leaves : List Leaf) (i : BlockId) (g : Grid) (face : Face) (a b : ℕ) → IsShape shape → IsMap shape side leaves
    → IsBalanced shape (ids_of leaves) → Contains leaves (i, g) → (IsAtEdge shape (box_of shape i) face → ⊥) → a < side → b < side
    → IsOpposite shape side leaves i face a b
some_opposite shape side leaves i g face a b domain is balanced has inner a_in b_in =
    let own = leaf_is shape side leaves i g domain is has in
    let even = own.even in
    let low = own.low in
    let e = own.ends.edge in
    let wide = own.ends.wide in
    let some : 0 < (box_of shape i).edge = omega arith in
    let h = side / 2 in
    let pos : 0 < h = omega arith in
    let m = a / h in
    let n = b / h in
    let bit_a : m < 2 = div_below a h 2 pos (omega arith) in
    let bit_b : n < 2 = div_below b h 2 pos (omega arith) in
    let at_first = leaf_with 0 0 some some in
    let lies_first = at_first.1 in
    let j = at_first.0.0 in
    let are_first = across_leaves shape side leaves i j g at_first.0.1 face 0 0 domain lies_first some some in
    let near = levels_near shape side leaves i j g at_first.0.1 face 0 0 domain balanced lies_first some some in
    elim (cases_lt (level_of i) (level_of j)) [
      | inr coarse ↦ record {
        other = at_first.0;
        in_map = lies_first.other_in;
        share = are_first.share;
        part = beside_coarse (level_of i) (level_of j) _ coarse;
      }
      | inl fine ↦
          let level : level_of j ≡ level_of i + 1 = let most = near.1 in omega arith in
          let off_a = m * ((box_of shape i).edge / 2) in
          let off_b = n * ((box_of shape i).edge / 2) in
          let within_a = half_within m (box_of shape i).edge bit_a some in
          let within_b = half_within n (box_of shape i).edge bit_b some in
          let at = leaf_with off_a off_b within_a within_b in
          let lies = at.1 in
          let k = at.0.0 in
          let l = at.0.1 in
          let finer = finer_everywhere shape side leaves i j k g at_first.0.1 l face m n domain balanced lies_first level bit_a bit_b lies in
          let are = across_leaves shape side leaves i k g l face off_a off_b domain lies within_a within_b in
          let share : ShareFace shape side leaves (i, g) face (k, l) = record { domain = domain; map = is; own_in = has; other_in = lies.other_in; share = are.share } in
          let lows = finer_lows shape side leaves i k g l face share finer in
          record {
            other = at.0;
            in_map = lies.other_in;
            share = are.share;
            part = beside_fine (level_of i) (level_of k) m n (first_half face (octant_of k)) (second_half face (octant_of k)) 0 0
                (sym (which_half (first_low face (box_of shape i)) (first_low face (box_of shape k)) ((box_of shape i).edge / 2) (box_of shape k).edge (first_half face (octant_of k)) m lows.0 lows.2
                (first_spans shape (box_of shape i) (box_of shape k) face off_a off_b lies.held)))
                (sym (which_half (second_low face (box_of shape i)) (second_low face (box_of shape k)) ((box_of shape i).edge / 2) (box_of shape k).edge (second_half face (octant_of k)) n lows.1 lows.2
                (second_spans shape (box_of shape i) (box_of shape k) face off_a off_b lies.held)));
          }
    ]
  where
    leaf_with : (u v : ℕ) → u < (box_of shape i).edge → v < (box_of shape i).edge → (other : Leaf) × LiesAcross shape side leaves (i, g) face u v other
    leaf_with u v u_in v_in =
        let own = leaf_is shape side leaves i g domain is has in
        let unit = unit_across shape (box_of shape i) face u v in
        let found = is.tiling.covered unit (across_in_domain shape (box_of shape i) (scale_of (level_of i)) face u v own.ends inner u_in v_in) in
        let leaf = Contains-map_cases (λ (l : Leaf). l.0) leaves found.0 found.1 in
        (leaf.0, record { map = is; own_in = has; other_in = leaf.1; inner = inner; held = subst (λ k. Holds (box_of shape k) unit) leaf.2 found.2 })
