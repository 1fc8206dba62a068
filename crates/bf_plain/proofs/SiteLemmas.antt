-- A leaf of a map, and the walls that are laid next to its faces.
use Rattle.std.proofs.Common.{◌≡◌, ℕ, ◌+◌, ◌*◌, ◌/◌, ◌%◌, ◌<◌, ◌≤◌, ◌&&◌, List, Contains, get_or, cond, eqb, refl, sym, ap, subst, ◌∙◌, arith, inl, inr}
use Rattle.std.proofs.lemmas.Bool.{cases_eq}
use Rattle.std.proofs.lemmas.Bool.Decides.{nat_tests}
use Rattle.std.proofs.lemmas.Nat.{div_below}
use Rattle.std.proofs.Math.Nat.{div-add-mod, mod-lt}
use Rattle.std.proofs.lemmas.List.Elements.{All-contains}
use Rattle.bf_id.specs.declared.shape.Shape.{Shape}
use Rattle.bf_face.specs.declared.face.Face.{Face}
use Rattle.bf_face.specs.declared.face.Face.TheVariants.{XLow}
use Rattle.bf_id.specs.Cube.{Cube, Voxel, Holds}
use Rattle.bf_face.specs.Face.{all_faces, opposite_of}
use Rattle.bf_face.proofs.FaceLemmas.{HoldsOfFirst, of_one_more}
use Rattle.bf_id.specs.Id.{BlockId, IsId, InShape, box_of, level_of, octant_of}
use Rattle.bf_id.specs.Shape.{IsShape, InDomain}
use Rattle.bf_cells.specs.Grid.{Grid}
use Rattle.bf_cells.specs.Levels.{doubled_face, face_mean, in_quarter, with_quarter}
use Rattle.bf_cells.specs.Shell.{Walls, face_cell, face_values, wall_at, wall_of, wall_place, with_wall}
use Rattle.bf_cells.proofs.LevelLemmas.{get_or-doubled_face, get_or-with_quarter}
use Rattle.bf_cells.proofs.WallLemmas.{get_or-face_values, wall_at-with_wall_same, wall_of-with_wall_other}
use Rattle.bf_case.specs.declared.case.Case.{Case}
use Rattle.bf_id.specs.Neighbours.{IsAtEdge, IsPlaced, unit_across}
use Rattle.bf_case.specs.Beside.{value_beside, HoldsBeside, LiesAcross}
use Rattle.bf_case.specs.Map.{Leaf, HasCells, IsMap, ids_of}
use Rattle.bf_case.specs.Sample.{scale_of}
use Rattle.bf_case.proofs.AcrossLemmas.{EndsIn, across_in_domain, across_leaves, edge_beside, finer_beside, finer_everywhere, half_within, leaf_edge, levels_near, same_beside}
use Rattle.bf_case.proofs.FaceLemmas.{coarser_shares}
use Rattle.bf_case.specs.Halves.{first_half, second_half, ShareFace}
use Rattle.bf_case.proofs.BlockSteps.{box_ends}
use Rattle.bf_case.proofs.ListLemmas.{Contains-map}
use Rattle.bf_plain.specs.Atlas.{Chart}
use Rattle.bf_plain.proofs.PlaceLemmas.{box_is_placed}
use Rattle.bf_plain.specs.Survey.{IsFinerAcross, IsSite, KeepsOthers}

-- ---- the leaf

-- what is known of a leaf of a map
pub record IsKnown (c : Case) (leaves : List Leaf) (i : BlockId) (g : Grid) : Type 0 where
  pub domain : IsShape c.roots
  pub id : IsId i
  pub in_shape : InShape c.roots i
  pub ends : EndsIn c.roots (box_of c.roots i) (scale_of (level_of i))
  pub fits : g.side ≡ c.side
  pub even : c.side % 2 ≡ 0
  pub low : 2 ≤ c.side

pub known : (c : Case) (leaves : List Leaf) (chart : Chart) (i : BlockId) (g : Grid) (box : Cube) → IsSite c leaves chart i g box → IsKnown c leaves i g
known c leaves chart i g box site =
    let is = site.charted.map.map in
    let domain = site.charted.valid.sized.shape in
    let id_in : Contains (ids_of leaves) i = Contains-map (λ (leaf : Leaf). leaf.0) leaves (i, g) site.found in
    let id = All-contains IsId (ids_of leaves) i is.ids id_in in
    let in_shape = All-contains (InShape c.roots) (ids_of leaves) i is.in_shape id_in in
    let cells = All-contains (HasCells c.side) leaves (i, g) is.cells site.found in
    let ends = box_ends c.roots i domain id in_shape in
    record {
      domain = domain;
      id = id;
      in_shape = in_shape;
      ends = record { edge = leaf_edge c.roots i id.shallow; wide = ends.0; x_end = ends.1; y_end = ends.2; z_end = ends.3 };
      fits = cells.fits;
      even = site.charted.valid.sized.even;
      low = site.charted.valid.sized.wide;
    }

-- the box of a leaf lies in the domain
pub placed : (c : Case) (leaves : List Leaf) (chart : Chart) (i : BlockId) (g : Grid) (box : Cube) → IsSite c leaves chart i g box → IsPlaced c.roots box
placed c leaves chart i g box site =
    let facts = known c leaves chart i g box site in
    subst (IsPlaced c.roots) (sym site.boxed) (box_is_placed c.roots i facts.domain facts.id facts.in_shape)

-- the unit across an inner face lies in the domain
pub unit_in_domain : (c : Case) (leaves : List Leaf) (chart : Chart) (i : BlockId) (g : Grid) (box : Cube) (face : Face) (a b : ℕ) (unit : Voxel)
    → IsSite c leaves chart i g box → (IsAtEdge c.roots box face → ⊥) → a < box.edge → b < box.edge → unit ≡ unit_across c.roots box face a b → InDomain c.roots unit
unit_in_domain c leaves chart i g box face a b unit site inner a_in b_in is =
    let ends : EndsIn c.roots box (scale_of (level_of i)) = subst (λ d. EndsIn c.roots d (scale_of (level_of i))) (sym site.boxed) (known c leaves chart i g box site).ends in
    subst (InDomain c.roots) (sym is) (across_in_domain c.roots box (scale_of (level_of i)) face a b ends inner a_in b_in)

-- as is that beside a quarter of the face
pub quarter_in_domain : (c : Case) (leaves : List Leaf) (chart : Chart) (i : BlockId) (g : Grid) (box : Cube) (face : Face) (half_a half_b : ℕ) (unit : Voxel)
    → IsSite c leaves chart i g box → (IsAtEdge c.roots box face → ⊥) → half_a < 2 → half_b < 2
    → unit ≡ unit_across c.roots box face (half_a * (box.edge / 2)) (half_b * (box.edge / 2)) → InDomain c.roots unit
quarter_in_domain c leaves chart i g box face half_a half_b unit site inner bit_a bit_b is =
    let some = (placed c leaves chart i g box site).some in
    unit_in_domain c leaves chart i g box face (half_a * (box.edge / 2)) (half_b * (box.edge / 2)) unit site inner
    (half_within half_a box.edge bit_a some) (half_within half_b box.edge bit_b some) is

-- the face of a leaf with a leaf across is no edge
pub inner_face : (c : Case) (leaves : List Leaf) (chart : Chart) (i : BlockId) (g : Grid) (box : Cube) (face : Face) → IsSite c leaves chart i g box
    → IsFinerAcross c leaves i g face → IsAtEdge c.roots box face → ⊥
inner_face c leaves chart i g box face site across at = across.lies.inner (subst (λ d. IsAtEdge c.roots d face) site.boxed at)

-- the leaf that has it lies across
pub lies_across : (c : Case) (leaves : List Leaf) (chart : Chart) (i : BlockId) (g : Grid) (box : Cube) (face : Face) (a b : ℕ) (unit : Voxel) (other : Leaf)
    → IsSite c leaves chart i g box → (IsAtEdge c.roots box face → ⊥) → unit ≡ unit_across c.roots box face a b
    → Contains leaves other → Holds (box_of c.roots other.0) unit → LiesAcross c.roots c.side leaves (i, g) face a b other
lies_across c leaves chart i g box face a b unit other site inner is has held = record {
  map = site.charted.map.map;
  own_in = site.found;
  other_in = has;
  inner = subst (λ d. IsAtEdge c.roots d face → ⊥) site.boxed inner;
  held = subst (λ d. Holds (box_of c.roots other.0) (unit_across c.roots d face a b)) site.boxed (subst (Holds (box_of c.roots other.0)) is held);
}

-- and is of a level beside the leaf's
pub record IsMet (c : Case) (leaves : List Leaf) (i : BlockId) (g : Grid) (face : Face) (other : Leaf) : Type 0 where
  pub lies : LiesAcross c.roots c.side leaves (i, g) face 0 0 other
  pub no_coarser : level_of i ≤ level_of other.0 + 1
  pub no_finer : level_of other.0 ≤ level_of i + 1

pub met : (c : Case) (leaves : List Leaf) (chart : Chart) (i : BlockId) (g : Grid) (box : Cube) (face : Face) (unit : Voxel) (other : Leaf)
    → IsSite c leaves chart i g box → (IsAtEdge c.roots box face → ⊥) → unit ≡ unit_across c.roots box face 0 0
    → Contains leaves other → Holds (box_of c.roots other.0) unit → IsMet c leaves i g face other
met c leaves chart i g box face unit other site inner is has held =
    let facts = known c leaves chart i g box site in
    let lies = lies_across c leaves chart i g box face 0 0 unit other site inner is has held in
    let some = subst (λ (d : Cube). 0 < d.edge) site.boxed (placed c leaves chart i g box site).some in
    let near = levels_near c.roots c.side leaves i other.0 g other.1 face 0 0 facts.domain site.charted.map.balanced lies some some in
    record { lies = lies; no_coarser = near.0; no_finer = near.1 }

-- ---- a square that was laid

pub laid_at : (old new : Walls) (face : Face) (wall : List ℕ) (side : ℕ) → new ≡ with_wall old face wall → old.side ≡ side
    → (a b : ℕ) → wall_at new face a b ≡ get_or wall (wall_place side a b) 0
laid_at old new face wall side is fits a b =
    ap (λ (w : Walls). wall_at w face a b) is
    ∙ wall_at-with_wall_same old face wall a b ∙ ap (λ s. get_or wall (wall_place s a b) 0) fits

pub keeps : (old new : Walls) (face : Face) (wall : List ℕ) → new ≡ with_wall old face wall → KeepsOthers old new face
keeps old new face wall is other apart =
    ap (λ (w : Walls). wall_of w other) is
    ∙ wall_of-with_wall_other old face other wall apart

pub keeps_twice : (first second third : Walls) (face : Face) → KeepsOthers first second face → KeepsOthers second third face → KeepsOthers first third face
keeps_twice first second third face early late other apart = late other apart ∙ early other apart

-- ---- what is laid holds the samples

pub edge_holds : (c : Case) (leaves : List Leaf) (chart : Chart) (i : BlockId) (g : Grid) (box : Cube) (face : Face) (old new : Walls)
    → IsSite c leaves chart i g box → IsAtEdge c.roots box face → old.side ≡ c.side → new ≡ with_wall old face (face_values g face)
    → HoldsBeside c.roots leaves i g new face
edge_holds c leaves chart i g box face old new site at fits is a b a_in b_in =
    let facts = known c leaves chart i g box site in
    let side = facts.fits in
    let low = facts.low in
    laid_at old new face (face_values g face) g.side is (fits ∙ sym side) a b
    ∙ get_or-face_values g face a b a_in b_in
    ∙ sym (edge_beside c.roots leaves i g face a b (omega arith) facts.ends.edge (subst (λ d. IsAtEdge c.roots d face) site.boxed at))

-- the cells of a leaf have the case's side
pub cells_fit : (c : Case) (leaves : List Leaf) (i : BlockId) (g : Grid) → IsMap c.roots c.side leaves → Contains leaves (i, g) → g.side ≡ c.side
cells_fit c leaves i g is has = (All-contains (HasCells c.side) leaves (i, g) is.cells has).fits

pub same_holds : (c : Case) (leaves : List Leaf) (chart : Chart) (i j : BlockId) (g h : Grid) (box : Cube) (face : Face) (old new : Walls)
    → IsSite c leaves chart i g box → LiesAcross c.roots c.side leaves (i, g) face 0 0 (j, h) → level_of j ≡ level_of i → old.side ≡ c.side
    → new ≡ with_wall old face (face_values h (opposite_of face))
    → HoldsBeside c.roots leaves i g new face
same_holds c leaves chart i j g h box face old new site lies level fits is a b a_in b_in =
    let facts = known c leaves chart i g box site in
    let side = facts.fits in
    let side_too = cells_fit c leaves j h lies.map lies.other_in in
    let n = opposite_of face in
    laid_at old new face (face_values h n) h.side is (fits ∙ sym side_too) a b
    ∙ get_or-face_values h n a b (omega arith) (omega arith)
    ∙ sym (same_beside c.roots c.side leaves i j g h face a b facts.domain lies level (omega arith) (omega arith))

pub coarser_holds : (c : Case) (leaves : List Leaf) (chart : Chart) (i j : BlockId) (g h : Grid) (box : Cube) (face : Face) (old new : Walls)
    → IsSite c leaves chart i g box → LiesAcross c.roots c.side leaves (i, g) face 0 0 (j, h) → level_of j + 1 ≡ level_of i → old.side ≡ c.side
    → new ≡ with_wall old face (doubled_face h (opposite_of face) (first_half face (octant_of i)) (second_half face (octant_of i)))
    → HoldsBeside c.roots leaves i g new face
coarser_holds c leaves chart i j g h box face old new site lies level fits is a b a_in b_in =
    let facts = known c leaves chart i g box site in
    let side = facts.fits in
    let side_too = cells_fit c leaves j h lies.map lies.other_in in
    let n = opposite_of face in
    let half_a = first_half face (octant_of i) in
    let half_b = second_half face (octant_of i) in
    let e = facts.ends.edge in
    let wide = facts.ends.wide in
    let some : 0 < (box_of c.roots i).edge = omega arith in
    let are : ShareFace c.roots c.side leaves (i, g) face (j, h) =
    record { domain = facts.domain; map = lies.map; own_in = lies.own_in; other_in = lies.other_in; share = (across_leaves c.roots c.side leaves i j g h face 0 0 facts.domain lies some some).share } in
    laid_at old new face (doubled_face h n half_a half_b) h.side is (fits ∙ sym side_too) a b
    ∙ get_or-doubled_face h n half_a half_b a b (omega arith) (omega arith)
    ∙ ap (λ s. face_cell h n (half_a * (s / 2) + a / 2) (half_b * (s / 2) + b / 2)) side_too
    ∙ sym (coarser_shares c.roots c.side leaves i j g h face a b are level (omega arith) (omega arith))

-- ---- quarters

-- the first so many quarters of a square hold the samples
pub QuartersHold : Shape → List Leaf → BlockId → Grid → Walls → Face → ℕ → Type 0
QuartersHold shape leaves i g walls face count =
    (a b : ℕ) → a < g.side → b < g.side → a / (g.side / 2) + 2 * (b / (g.side / 2)) < count
    → wall_at walls face a b ≡ value_beside shape leaves i g face a b

quarter_in : (x y p q m n : ℕ) → x ≡ p → y ≡ q → cond (eqb x p && eqb y q) m n ≡ m
quarter_in x y p q m n same same' = grind (arith, nat_tests)

quarter_out : (x y p q m n : ℕ) → (x ≡ p → y ≡ q → ⊥) → cond (eqb x p && eqb y q) m n ≡ n
quarter_out x y p q m n apart = grind (arith, nat_tests)

pub one_quarter_more : (c : Case) (leaves : List Leaf) (chart : Chart) (i k : BlockId) (g l : Grid) (box : Cube) (face : Face) (quarter : ℕ) (walls new : Walls)
    → IsSite c leaves chart i g box → IsFinerAcross c leaves i g face → quarter < 4 → walls.side ≡ c.side
    → LiesAcross c.roots c.side leaves (i, g) face (quarter % 2 * (box.edge / 2)) (quarter / 2 * (box.edge / 2)) (k, l)
    → new ≡ with_wall walls face (with_quarter walls.side (quarter % 2) (quarter / 2) (face_mean l (opposite_of face)) (wall_of walls face))
    → QuartersHold c.roots leaves i g walls face quarter → QuartersHold c.roots leaves i g new face (quarter + 1)
unfolding QuartersHold
one_quarter_more c leaves chart i k g l box face quarter walls new site across few fits lies_here is so_far a b a_in b_in below =
    let lies = subst (λ (d : Cube). LiesAcross c.roots c.side leaves (i, g) face (quarter % 2 * (d.edge / 2)) (quarter / 2 * (d.edge / 2)) (k, l)) site.boxed lies_here in
    let facts = known c leaves chart i g box site in
    let side = facts.fits in
    let even = facts.even in
    let low = facts.low in
    let half = g.side / 2 in
    let half_a = quarter % 2 in
    let half_b = quarter / 2 in
    let value = face_mean l (opposite_of face) in
    let fits_here : walls.side ≡ g.side = fits ∙ sym side in
    let pos : 0 < half = omega arith in
    let x_bit : a / half < 2 = div_below a half 2 pos (omega arith) in
    let y_bit : b / half < 2 = div_below b half 2 pos (omega arith) in
    let here : wall_at new face a b ≡ cond (in_quarter g.side half_a half_b a b) (value (a % half) (b % half)) (wall_at walls face a b) =
    laid_at walls new face (with_quarter walls.side half_a half_b value (wall_of walls face)) walls.side is refl a b
    ∙ ap (λ s. get_or (with_quarter s half_a half_b value (wall_of walls face)) (wall_place s a b) 0) fits_here
    ∙ get_or-with_quarter g.side half_a half_b value (wall_of walls face) a b a_in b_in
    ∙ ap (λ s. cond (in_quarter g.side half_a half_b a b) (value (a % half) (b % half)) (get_or (wall_of walls face) (wall_place s a b) 0)) (sym fits_here) in
    elim (cases_eq (a / half + 2 * (b / half)) quarter) [
      | inl same ↦
          let x_is : a / half ≡ half_a = omega arith in
          let y_is : b / half ≡ half_b = omega arith in
          let level = finer_everywhere c.roots c.side leaves i across.other.0 k g across.other.1 l face half_a half_b facts.domain site.charted.map.balanced across.lies across.finer (omega arith) (omega arith) lies in
          let whole_a : half_a * half + a % half ≡ a = ap (λ q. q * half + a % half) (sym x_is) ∙ (let m = div-add-mod a half in omega arith) in
          let whole_b : half_b * half + b % half ≡ b = ap (λ q. q * half + b % half) (sym y_is) ∙ (let m = div-add-mod b half in omega arith) in
          let halves : g.side / 2 ≡ c.side / 2 = ap (λ s. s / 2) side in
          let rest_a : a % half < c.side / 2 = let m = mod-lt a pos in omega arith in
          let rest_b : b % half < c.side / 2 = let m = mod-lt b pos in omega arith in
          here ∙ quarter_in (a / half) (b / half) half_a half_b _ _ x_is y_is
          ∙ sym (finer_beside c.roots c.side leaves i k g l face half_a half_b (a % half) (b % half) facts.domain (omega arith) (omega arith) lies level rest_a rest_b)
          ∙ ap (λ s. value_beside c.roots leaves i g face (half_a * s + a % half) (half_b * s + b % half)) (sym halves)
          ∙ ap (λ m. value_beside c.roots leaves i g face m (half_b * half + b % half)) whole_a
          ∙ ap (value_beside c.roots leaves i g face a) whole_b
      | inr other ↦
          here ∙ quarter_out (a / half) (b / half) half_a half_b _ _ (λ x_is y_is. other (omega arith))
          ∙ so_far a b a_in b_in (omega arith)
    ]

pub no_quarters : (c : Case) (leaves : List Leaf) (i : BlockId) (g : Grid) (face : Face) (walls : Walls) → QuartersHold c.roots leaves i g walls face 0
unfolding QuartersHold
no_quarters c leaves i g face walls a b a_in b_in below = absurd (omega (arith, below))

pub all_quarters : (c : Case) (leaves : List Leaf) (chart : Chart) (i : BlockId) (g : Grid) (box : Cube) (face : Face) (walls : Walls) → IsSite c leaves chart i g box
    → QuartersHold c.roots leaves i g walls face 4 → HoldsBeside c.roots leaves i g walls face
unfolding QuartersHold
all_quarters c leaves chart i g box face walls site all a b a_in b_in =
    let facts = known c leaves chart i g box site in
    let side = facts.fits in
    let even = facts.even in
    let low = facts.low in
    let half = g.side / 2 in
    let pos : 0 < half = omega arith in
    let x_bit : a / half < 2 = div_below a half 2 pos (omega arith) in
    let y_bit : b / half < 2 = div_below b half 2 pos (omega arith) in
    all a b a_in b_in (omega arith)

-- ---- all faces

-- one face more holds the samples, and the others stay
pub one_face_more : (shape : Shape) (leaves : List Leaf) (i : BlockId) (g : Grid) (walls new : Walls) (k : ℕ) → k < 6
    → HoldsOfFirst (HoldsBeside shape leaves i g walls) k → HoldsBeside shape leaves i g new (get_or all_faces k XLow)
    → KeepsOthers walls new (get_or all_faces k XLow) → new.side ≡ walls.side → HoldsOfFirst (HoldsBeside shape leaves i g new) (k + 1)
one_face_more shape leaves i g walls new k few first here kept sides =
    of_one_more (HoldsBeside shape leaves i g walls) (HoldsBeside shape leaves i g new) k few first here (λ other apart held a b a_in b_in.
    ap (λ l. get_or l (wall_place new.side a b) 0) (kept other apart)
    ∙ ap (λ s. get_or (wall_of walls other) (wall_place s a b) 0) sides ∙ held a b a_in b_in)
