-- What lies around a root: the root across each face has the unit across it, and the walls around a root hold the samples beyond its faces.
use Rattle.std.proofs.Common.{◌≡◌, ℕ, ◌+◌, ◌*◌, ◌<◌, Option, None, Some, inl, inr, List, get_or, Contains, refl, sym, ◌∙◌, ap, subst, arith}
use Rattle.std.specs.Prelude.{option_map}
use Rattle.std.proofs.lemmas.List.Elements.{All-contains, Contains-get_or}
use Rattle.bf_id.specs.declared.shape.Shape.{Shape}
use Rattle.bf_face.specs.declared.face.Face.{Face}
use Rattle.bf_face.specs.declared.face.Face.TheVariants.{XLow, XHigh, YLow, YHigh, ZLow, ZHigh}
use Rattle.bf_face.specs.Face.{all_faces, opposite_of}
use Rattle.bf_face.proofs.FaceLemmas.{HoldsOfFirst, of_all_faces, of_one_more}
use Rattle.bf_id.specs.Axis.{back, on}
use Rattle.bf_id.specs.Cube.{Voxel, Spans, Holds}
use Rattle.bf_id.specs.Shape.{IsShape, root_count, root_cube}
use Rattle.bf_id.specs.Id.{BlockId, root_id}
use Rattle.bf_id.proofs.Boxes.{root_coordinates, root_below, root_in_domain}
use Rattle.bf_id.proofs.Steps.{back-below, on-below, back_spans, on_spans, before_cases, after_cases, first_in_parts, last_in_parts}
use Rattle.bf_cells.specs.Grid.{Grid}
use Rattle.bf_cells.specs.Shell.{Walls, wall_of, wall_place, with_wall, face_values}
use Rattle.bf_cells.proofs.WallLemmas.{get_or-face_values, same_walls, wall_of-with_wall_other, wall_of-with_wall_same}
use Rattle.bf_case.specs.Map.{Leaf, IsMap, HasCells}
use Rattle.bf_id.specs.Neighbours.{IsAtEdge, unit_across}
use Rattle.bf_case.specs.Beside.{HoldSamples, value_beside}
use Rattle.bf_case.specs.Around.{across, root_at, roots_x, roots_y, roots_z, x_of, y_of, z_of, AreRootIds, grid_at, nothing, wall_from, walls_around}
use Rattle.bf_case.proofs.RootSteps.{roots_are}
use Rattle.bf_case.proofs.AcrossLemmas.{edge_beside, same_beside}

-- ---- the root across

-- the root at these coordinates holds what lies over them
root_holds : (shape : Shape) (x y z : ℕ) (v : Voxel) → x < shape.nx → y < shape.ny → Spans (16 * x) 16 v.x → Spans (16 * y) 16 v.y → Spans (16 * z) 16 v.z
    → Holds (root_cube shape (root_at shape x y z)) v
root_holds shape x y z v x_in y_in along_x along_y along_z =
    let at = root_coordinates shape.nx shape.ny x y z x_in y_in in
    record { along_x = rw at.0 along_x; along_y = rw at.1 along_y; along_z = rw at.2 along_z }

-- across a face there is nothing at the domain's edge, and elsewhere a root that has the unit across
abbrev pub LiesAt : Shape → ℕ → Face → Option ℕ → Type 0
LiesAt shape k face None = IsAtEdge shape (root_cube shape k) face
LiesAt shape k face (Some j) =
    (j < root_count shape) × (IsAtEdge shape (root_cube shape k) face → ⊥) × Holds (root_cube shape j) (unit_across shape (root_cube shape k) face 0 0)

pub across_lies : (shape : Shape) (k : ℕ) (face : Face) → IsShape shape → k < root_count shape → LiesAt shape k face (across shape k face)
across_lies shape k face is below = by face
  where
    inside : (x_of shape k < shape.nx) × (y_of shape k < shape.ny) × (z_of shape k < shape.nz)
    inside = root_in_domain shape k is below

    by : (face : Face) → LiesAt shape k face (across shape k face)
    by XLow = elim (before_cases (roots_x shape) (x_of shape k)) [
      | inl first ↦ subst (λ o. LiesAt shape k XLow (option_map (λ x. root_at shape x (y_of shape k) (z_of shape k)) o)) (sym first.0) ((first_in_parts (roots_x shape) 16 (x_of shape k) (omega arith)).0 first.1)
      | inr inner ↦
          let j = back (roots_x shape) 1 (x_of shape k) in
          let j_in : j < shape.nx = back-below (roots_x shape) (x_of shape k) inner.1 is.some_x inside.0 in
          subst (λ o. LiesAt shape k XLow (option_map (λ x. root_at shape x (y_of shape k) (z_of shape k)) o)) (sym inner.0) (
            root_below shape.nx shape.ny shape.nz j (y_of shape k) (z_of shape k) j_in inside.1 inside.2,
            (λ at. inner.1 ((first_in_parts (roots_x shape) 16 (x_of shape k) (omega arith)).1 at)),
            root_holds shape j (y_of shape k) (z_of shape k) _ j_in inside.1 (back_spans (roots_x shape) 16 (x_of shape k) inner.1 (omega arith) inside.0) (omega arith, omega arith) (omega arith, omega arith),
          )
    ]
    by XHigh = elim (after_cases (roots_x shape) (x_of shape k)) [
      | inl last ↦ subst (λ o. LiesAt shape k XHigh (option_map (λ x. root_at shape x (y_of shape k) (z_of shape k)) o)) (sym last.0) ((last_in_parts (roots_x shape) 16 (x_of shape k + 1) (16 * x_of shape k + 16) (omega arith) (omega arith)).0 last.1)
      | inr inner ↦
          let j = on (roots_x shape) 1 (x_of shape k) in
          let j_in : j < shape.nx = on-below (roots_x shape) 1 (x_of shape k) inner.1 is.some_x (let h = inside.0 in omega arith) in
          subst (λ o. LiesAt shape k XHigh (option_map (λ x. root_at shape x (y_of shape k) (z_of shape k)) o)) (sym inner.0) (
            root_below shape.nx shape.ny shape.nz j (y_of shape k) (z_of shape k) j_in inside.1 inside.2,
            (λ at. inner.1 ((last_in_parts (roots_x shape) 16 (x_of shape k + 1) (16 * x_of shape k + 16) (omega arith) (omega arith)).1 at)),
            root_holds shape j (y_of shape k) (z_of shape k) _ j_in inside.1 (on_spans (roots_x shape) 16 (x_of shape k) (omega arith) inside.0) (omega arith, omega arith) (omega arith, omega arith),
          )
    ]
    by YLow = elim (before_cases (roots_y shape) (y_of shape k)) [
      | inl first ↦ subst (λ o. LiesAt shape k YLow (option_map (λ y. root_at shape (x_of shape k) y (z_of shape k)) o)) (sym first.0) ((first_in_parts (roots_y shape) 16 (y_of shape k) (omega arith)).0 first.1)
      | inr inner ↦
          let j = back (roots_y shape) 1 (y_of shape k) in
          let j_in : j < shape.ny = back-below (roots_y shape) (y_of shape k) inner.1 is.some_y inside.1 in
          subst (λ o. LiesAt shape k YLow (option_map (λ y. root_at shape (x_of shape k) y (z_of shape k)) o)) (sym inner.0) (
            root_below shape.nx shape.ny shape.nz (x_of shape k) j (z_of shape k) inside.0 j_in inside.2,
            (λ at. inner.1 ((first_in_parts (roots_y shape) 16 (y_of shape k) (omega arith)).1 at)),
            root_holds shape (x_of shape k) j (z_of shape k) _ inside.0 j_in (omega arith, omega arith) (back_spans (roots_y shape) 16 (y_of shape k) inner.1 (omega arith) inside.1) (omega arith, omega arith),
          )
    ]
    by YHigh = elim (after_cases (roots_y shape) (y_of shape k)) [
      | inl last ↦ subst (λ o. LiesAt shape k YHigh (option_map (λ y. root_at shape (x_of shape k) y (z_of shape k)) o)) (sym last.0) ((last_in_parts (roots_y shape) 16 (y_of shape k + 1) (16 * y_of shape k + 16) (omega arith) (omega arith)).0 last.1)
      | inr inner ↦
          let j = on (roots_y shape) 1 (y_of shape k) in
          let j_in : j < shape.ny = on-below (roots_y shape) 1 (y_of shape k) inner.1 is.some_y (let h = inside.1 in omega arith) in
          subst (λ o. LiesAt shape k YHigh (option_map (λ y. root_at shape (x_of shape k) y (z_of shape k)) o)) (sym inner.0) (
            root_below shape.nx shape.ny shape.nz (x_of shape k) j (z_of shape k) inside.0 j_in inside.2,
            (λ at. inner.1 ((last_in_parts (roots_y shape) 16 (y_of shape k + 1) (16 * y_of shape k + 16) (omega arith) (omega arith)).1 at)),
            root_holds shape (x_of shape k) j (z_of shape k) _ inside.0 j_in (omega arith, omega arith) (on_spans (roots_y shape) 16 (y_of shape k) (omega arith) inside.1) (omega arith, omega arith),
          )
    ]
    by ZLow = elim (before_cases (roots_z shape) (z_of shape k)) [
      | inl first ↦ subst (λ o. LiesAt shape k ZLow (option_map (λ z. root_at shape (x_of shape k) (y_of shape k) z) o)) (sym first.0) ((first_in_parts (roots_z shape) 16 (z_of shape k) (omega arith)).0 first.1)
      | inr inner ↦
          let j = back (roots_z shape) 1 (z_of shape k) in
          let j_in : j < shape.nz = back-below (roots_z shape) (z_of shape k) inner.1 is.some_z inside.2 in
          subst (λ o. LiesAt shape k ZLow (option_map (λ z. root_at shape (x_of shape k) (y_of shape k) z) o)) (sym inner.0) (
            root_below shape.nx shape.ny shape.nz (x_of shape k) (y_of shape k) j inside.0 inside.1 j_in,
            (λ at. inner.1 ((first_in_parts (roots_z shape) 16 (z_of shape k) (omega arith)).1 at)),
            root_holds shape (x_of shape k) (y_of shape k) j _ inside.0 inside.1 (omega arith, omega arith) (omega arith, omega arith) (back_spans (roots_z shape) 16 (z_of shape k) inner.1 (omega arith) inside.2),
          )
    ]
    by ZHigh = elim (after_cases (roots_z shape) (z_of shape k)) [
      | inl last ↦ subst (λ o. LiesAt shape k ZHigh (option_map (λ z. root_at shape (x_of shape k) (y_of shape k) z) o)) (sym last.0) ((last_in_parts (roots_z shape) 16 (z_of shape k + 1) (16 * z_of shape k + 16) (omega arith) (omega arith)).0 last.1)
      | inr inner ↦
          let j = on (roots_z shape) 1 (z_of shape k) in
          let j_in : j < shape.nz = on-below (roots_z shape) 1 (z_of shape k) inner.1 is.some_z (let h = inside.2 in omega arith) in
          subst (λ o. LiesAt shape k ZHigh (option_map (λ z. root_at shape (x_of shape k) (y_of shape k) z) o)) (sym inner.0) (
            root_below shape.nx shape.ny shape.nz (x_of shape k) (y_of shape k) j inside.0 inside.1 j_in,
            (λ at. inner.1 ((last_in_parts (roots_z shape) 16 (z_of shape k + 1) (16 * z_of shape k + 16) (omega arith) (omega arith)).1 at)),
            root_holds shape (x_of shape k) (y_of shape k) j _ inside.0 inside.1 (omega arith, omega arith) (omega arith, omega arith) (on_spans (roots_z shape) 16 (z_of shape k) (omega arith) inside.2),
          )
    ]

-- ---- the walls around

-- the wall at a face is laid from the root across it
wall_is : (shape : Shape) (side : ℕ) (grid : ℕ → Grid) (k : ℕ) (face : Face) → wall_of (walls_around shape side grid k) face ≡ wall_from grid k (across shape k face) face
unfolding walls_around
wall_is shape side grid k XLow = refl
wall_is shape side grid k XHigh = refl
wall_is shape side grid k YLow = refl
wall_is shape side grid k YHigh = refl
wall_is shape side grid k ZLow = refl
wall_is shape side grid k ZHigh = refl

-- a root is a leaf of a map of the roots
root_in_leaves : (shape : Shape) (leaves : List Leaf) (k : ℕ) → AreRootIds shape leaves → k < root_count shape → Contains leaves (root_id k, grid_at leaves k)
root_in_leaves shape leaves k roots below =
    let leaf = get_or leaves k nothing in
    let are = roots_are shape leaves roots in
    let named : BlockId → Leaf = λ i. (i, leaf.1) in
    subst (Contains leaves) (ap named (are.1 k nothing below)) (Contains-get_or leaves k nothing (omega (arith, are.0)))

-- in a map of the roots the walls around a root hold the samples beyond its faces
pub root_walls_hold : (shape : Shape) (side : ℕ) (leaves : List Leaf) (k : ℕ) → IsShape shape → IsMap shape side leaves → AreRootIds shape leaves → k < root_count shape
    → HoldSamples shape leaves (root_id k) (grid_at leaves k) (walls_around shape side (grid_at leaves) k)
unfolding walls_around
root_walls_hold shape side leaves k valid is roots below face a b a_in b_in =
    ap (λ wall. get_or wall (wall_place side a b) 0) (wall_is shape side (grid_at leaves) k face) ∙ by (across shape k face) (across_lies shape k face valid below)
  where
    g : Grid
    g = grid_at leaves k

    has : Contains leaves (root_id k, grid_at leaves k)
    has = root_in_leaves shape leaves k roots below

    fits : (j : ℕ) → Contains leaves (root_id j, grid_at leaves j) → (grid_at leaves j).side ≡ side
    fits j has = (All-contains (HasCells side) leaves (root_id j, grid_at leaves j) is.cells has).fits

    by : (o : Option ℕ) → LiesAt shape k face o → get_or (wall_from (grid_at leaves) k o face) (wall_place side a b) 0 ≡ value_beside shape leaves (root_id k) (grid_at leaves k) face a b
    by None at =
        ap (λ s. get_or (face_values (grid_at leaves k) face) (wall_place s a b) 0) (sym (fits k has))
        ∙ get_or-face_values (grid_at leaves k) face a b a_in b_in
        ∙ sym (edge_beside shape leaves (root_id k) (grid_at leaves k) face a b (omega arith) refl at)
    by (Some j) (j_in, inner, held) =
        let has' = root_in_leaves shape leaves j roots j_in in
        let h = grid_at leaves j in
        let same : h.side ≡ side = fits j has' in
        let own : (grid_at leaves k).side ≡ side = fits k has in
        ap (λ s. get_or (face_values h (opposite_of face)) (wall_place s a b) 0) (sym same)
        ∙ get_or-face_values h (opposite_of face) a b (omega arith) (omega arith)
        ∙ sym (same_beside shape side leaves (root_id k) (root_id j) (grid_at leaves k) h face a b valid
        (record { map = is; own_in = has; other_in = has'; inner = inner; held = held }) refl (omega arith) (omega arith))

-- the squares that are laid as they lie around the root
abbrev pub IsWallFrom : Shape → (ℕ → Grid) → ℕ → Walls → Face → Type 0
IsWallFrom shape grid k w face = wall_of w face ≡ wall_from grid k (across shape k face) face

pub one_wall_more : (shape : Shape) (grid : ℕ → Grid) (k at : ℕ) (old new : Walls) (o : Option ℕ) → at < 6 → HoldsOfFirst (IsWallFrom shape grid k old) at
    → o ≡ across shape k (get_or all_faces at XLow) → new ≡ with_wall old (get_or all_faces at XLow) (wall_from grid k o (get_or all_faces at XLow))
    → HoldsOfFirst (IsWallFrom shape grid k new) (at + 1)
one_wall_more shape grid k at old new o few first o_is is =
    let face = get_or all_faces at XLow in
    of_one_more (IsWallFrom shape grid k old) (IsWallFrom shape grid k new) at few first
    (ap (λ (w : Walls). wall_of w face) is ∙ wall_of-with_wall_same old face (wall_from grid k o face) ∙ ap (λ p. wall_from grid k p face) o_is)
    (λ other apart laid. ap (λ (w : Walls). wall_of w other) is ∙ wall_of-with_wall_other old face other (wall_from grid k o face) apart ∙ laid)

-- six walls that are laid are all that lies around the root
pub all_walls_laid : (shape : Shape) (side : ℕ) (grid : ℕ → Grid) (k count : ℕ) (w : Walls) → w.side ≡ side → count ≡ 6
    → HoldsOfFirst (IsWallFrom shape grid k w) count → w ≡ walls_around shape side grid k
unfolding walls_around
all_walls_laid shape side grid k count w same all laid =
    same_walls w (walls_around shape side grid k) same (λ face. of_all_faces (IsWallFrom shape grid k w) count all laid face ∙ sym (wall_is shape side grid k face))
