-- What a filled shell holds.
use Rattle.std.proofs.Common.{◌≡◌, ◌≢◌, ℕ, ◌+◌, ◌*◌, ◌<◌, List, Contains, All, true, false, get_or, sym, ap, subst, ◌∙◌, arith, inl, inr, ◌⊎◌, length}
use Rattle.std.proofs.lemmas.Bool.{cases_eq, cases_Bool}
use Rattle.std.proofs.lemmas.Grind.{common_steps}
use Rattle.std.proofs.lemmas.List.Elements.{All-contains}
use Rattle.bf_face.proofs.FaceLemmas.{HoldsOfFirst, of_one_more, one_number}
use Rattle.bf_face.specs.Face.{all_faces, number_of}
use Rattle.bf_face.specs.declared.face.Face.{Face}
use Rattle.bf_face.specs.declared.face.Face.TheVariants.{XLow, XHigh, YLow, YHigh, ZLow, ZHigh}
use Rattle.bf_id.specs.declared.shape.Shape.{Shape}
use Rattle.bf_id.specs.Cube.{Cube}
use Rattle.bf_id.specs.Id.{BlockId, InShape, level_of, box_of}
use Rattle.bf_id.specs.Neighbours.{IsAtEdge}
use Rattle.bf_id.specs.Shape.{IsShape, axis_x, axis_y, axis_z}
use Rattle.bf_id.specs.Tiling.{IsBalanced}
use Rattle.bf_cells.specs.Grid.{Grid}
use Rattle.bf_cells.specs.Shell.{Walls, face_values, wall_at, wall_of, wall_place, with_wall}
use Rattle.bf_cells.proofs.WallLemmas.{get_or-face_values, wall_at-with_wall_other, wall_at-with_wall_same}
use Rattle.bf_case.specs.Beside.{value_beside, HoldsBeside, HoldSamples}
use Rattle.bf_case.specs.Halves.{is_opposite, ShareFace}
use Rattle.bf_case.specs.Map.{Leaf, IsMap, ids_of}
use Rattle.bf_case.specs.Sample.{scale_of}
use Rattle.bf_case.proofs.AcrossLemmas.{edge_beside, EndsIn}
use Rattle.bf_case.proofs.FaceLemmas.{leaf_is, shared_is_inner, some_opposite}
use Rattle.bf_case.proofs.ListLemmas.{Contains-map}
use Rattle.bf_case.proofs.LookupLemmas.{leaf_from_cells_at}
use Rattle.bf_case.proofs.ModelLemmas.{balanced-model_at}
use Rattle.bf_block.specs.Block.{BlockValue, IsModels, map_at}
use Rattle.bf_ghost.specs.Filling.{AreStripsFor, HoldEdges, HoldsPart, IsStripFor, KeepsRest}
use Rattle.bf_ghost.specs.Strips.{StripValue, laid_square, strip_of, strip_side, with_strip}
use Rattle.bf_ghost.proofs.StripLemmas.{length-strip_values, strip_keeps, strip_says}

-- ---- a block of the model

pub record AtHand (b : BlockValue) : Type 0 where
  pub domain : IsShape b.case.roots
  pub map : IsMap b.case.roots b.case.side (map_at b.case b.point)
  pub balanced : IsBalanced b.case.roots (ids_of (map_at b.case b.point))
  pub has : Contains (map_at b.case b.point) (b.id, b.cells)

pub at_hand : (b : BlockValue) → IsModels b → AtHand b
at_hand b models =
    let valid = models.runs.valid in
    let is = balanced-model_at b.case b.point.time b.point.regridded valid in
    record { domain = valid.sized.shape; map = is.map; balanced = is.balanced; has = leaf_from_cells_at (map_at b.case b.point) b.id b.cells models.leaf }

-- it lies in the domain
pub in_shape : (b : BlockValue) → IsModels b → InShape b.case.roots b.id
in_shape b models =
    let at = at_hand b models in
    let leaves = map_at b.case b.point in
    All-contains (InShape b.case.roots) (ids_of leaves) b.id at.map.in_shape (Contains-map (λ (leaf : Leaf). leaf.0) leaves (b.id, b.cells) at.has)

-- ---- one strip

pub told_length : (shape : Shape) (side : ℕ) (leaves : List Leaf) (i : BlockId) (strip : StripValue) (s : ℕ) → IsShape shape → IsMap shape side leaves → s ≡ side
    → IsStripFor shape leaves i strip → length strip.values ≡ strip_side s strip.source strip.target * strip_side s strip.source strip.target
told_length shape side leaves i strip s domain is fits meant =
    let j = meant.leaf.0 in
    let h = meant.leaf.1 in
    let other = leaf_is shape side leaves j h domain is meant.in_map in
    let same : h.side ≡ s = other.fits ∙ sym fits in
    let P : StripValue → Type 0 = λ t. length t.values ≡ strip_side s t.source t.target * strip_side s t.source t.target in
    subst P (sym meant.told) (length-strip_values h j i strip.face ∙ ap (λ u. strip_side u j i * strip_side u j i) same)

pub part_holds : (shape : Shape) (side : ℕ) (leaves : List Leaf) (i : BlockId) (g : Grid) (old new : Walls) (strip : StripValue) → IsShape shape → IsMap shape side leaves
    → IsBalanced shape (ids_of leaves) → Contains leaves (i, g) → old.side ≡ side → IsStripFor shape leaves i strip → new ≡ with_strip old strip
    → HoldsPart shape leaves i g new strip
part_holds shape side leaves i g old new strip domain is balanced has fits meant laid a b a_in b_in part =
    let own = leaf_is shape side leaves i g domain is has in
    let j = meant.leaf.0 in
    let h = meant.leaf.1 in
    let face = strip.face in
    let are : ShareFace shape side leaves (i, g) face (j, h) = record { domain = domain; map = is; own_in = has; other_in = meant.in_map; share = meant.share } in
    let source : strip.source ≡ j = ap (λ (s : StripValue). s.source) meant.told in
    let side_is : g.side ≡ side = own.fits in
    let here : is_opposite side face i j a b ≡ true = ap (λ s. is_opposite s face i j a b) (sym side_is) ∙ ap (λ k. is_opposite g.side face i k a b) (sym source) ∙ part in
    let was = wall_of old face in
    ap (λ (w : Walls). wall_at w face a b) laid
    ∙ wall_at-with_wall_same old face (laid_square old.side strip was) a b
    ∙ ap (λ s. get_or (laid_square s strip was) (wall_place s a b) 0) fits
    ∙ ap (λ t. get_or (laid_square side t was) (wall_place side a b) 0) meant.told
    ∙ strip_says shape side leaves i j g h face was a b are balanced (omega arith) (omega arith) here

same_face : (face other : Face) → (face ≡ other) ⊎ (face ≢ other)
same_face face other =
    elim (cases_eq (number_of face) (number_of other)) [
      | inl same ↦ inl (one_number face other same)
      | inr apart ↦ inr (λ same. apart (ap number_of same))
    ]

pub rest_stays : (side : ℕ) (i : BlockId) (old new : Walls) (strip : StripValue) → old.side ≡ side → strip.target ≡ i → new ≡ with_strip old strip → KeepsRest side i strip old new
rest_stays side i old new strip fits target laid face a b a_in b_in out =
    let wall = laid_square old.side strip (wall_of old strip.face) in
    ap (λ (w : Walls). wall_at w face a b) laid
    ∙ elim (same_face face strip.face) [
      | inr apart ↦ wall_at-with_wall_other old strip.face face wall a b apart
      | inl same ↦
          let test : is_opposite old.side strip.face strip.target strip.source a b ≡ false =
          ap (λ s. is_opposite s strip.face strip.target strip.source a b) fits ∙ ap (λ k. is_opposite side strip.face k strip.source a b) target ∙ out same in
          ap (λ f. wall_at (with_wall old strip.face wall) f a b) same
          ∙ wall_at-with_wall_same old strip.face wall a b
          ∙ strip_keeps old.side strip (wall_of old strip.face) a b (omega arith) (omega arith) test
          ∙ ap (λ f. wall_at old f a b) (sym same)
    ]

-- ---- faces at the domain's edge

-- the first so many faces hold what they must at the edge
abbrev pub EdgesHold : Shape → List Leaf → BlockId → Grid → Walls → ℕ → Type 0
EdgesHold shape leaves i g walls count = HoldsOfFirst (λ face. IsAtEdge shape (box_of shape i) face → HoldsBeside shape leaves i g walls face) count

-- one face more doesn't lie at the edge
pub inner_more : (shape : Shape) (leaves : List Leaf) (i : BlockId) (g : Grid) (walls : Walls) (k : ℕ) → k < 6
    → (IsAtEdge shape (box_of shape i) (get_or all_faces k XLow) → ⊥) → EdgesHold shape leaves i g walls k → EdgesHold shape leaves i g walls (k + 1)
inner_more shape leaves i g walls k few inner so_far =
    let P : Face → Type 0 = λ face. IsAtEdge shape (box_of shape i) face → HoldsBeside shape leaves i g walls face in
    of_one_more P P k few so_far (λ at. absurd (inner at)) (λ other apart held. held)

-- or it does, and the block's own cells are laid there
pub mirrored_more : (shape : Shape) (leaves : List Leaf) (i : BlockId) (g : Grid) (walls new : Walls) (k : ℕ) → k < 6
    → 0 < g.side → (box_of shape i).edge ≡ scale_of (level_of i) → walls.side ≡ g.side
    → IsAtEdge shape (box_of shape i) (get_or all_faces k XLow) → new ≡ with_wall walls (get_or all_faces k XLow) (face_values g (get_or all_faces k XLow))
    → EdgesHold shape leaves i g walls k → EdgesHold shape leaves i g new (k + 1)
mirrored_more shape leaves i g walls new k few some edge_is sides edge is so_far =
    let face = get_or all_faces k XLow in
    let P : Walls → Face → Type 0 = λ w f. IsAtEdge shape (box_of shape i) f → HoldsBeside shape leaves i g w f in
    of_one_more (P walls) (P new) k few so_far
    (λ at a b a_in b_in.
    ap (λ (w : Walls). wall_at w face a b) is
    ∙ wall_at-with_wall_same walls face (face_values g face) a b
    ∙ ap (λ s. get_or (face_values g face) (wall_place s a b) 0) sides
    ∙ get_or-face_values g face a b a_in b_in
    ∙ sym (edge_beside shape leaves i g face a b some edge_is edge))
    (λ other apart held at a b a_in b_in.
    ap (λ (w : Walls). wall_at w other a b) is ∙ wall_at-with_wall_other walls face other (face_values g face) a b apart ∙ held at a b a_in b_in)

-- ---- all strips

-- a face of a strip doesn't lie at the edge
strip_is_inner : (shape : Shape) (side : ℕ) (leaves : List Leaf) (i : BlockId) (strip : StripValue) → IsShape shape → IsMap shape side leaves
    → IsStripFor shape leaves i strip → IsAtEdge shape (box_of shape i) strip.face → ⊥
strip_is_inner shape side leaves i strip domain is meant =
    let other = leaf_is shape side leaves meant.leaf.0 meant.leaf.1 domain is meant.in_map in
    shared_is_inner shape strip.face (box_of shape i) (box_of shape meant.leaf.0)
    (subst (EndsIn shape (box_of shape meant.leaf.0)) (sym other.ends.edge) other.ends) meant.share

pub edges_stay : (shape : Shape) (side : ℕ) (leaves : List Leaf) (i : BlockId) (g : Grid) (old new : Walls) (strip : StripValue) → IsShape shape → IsMap shape side leaves
    → g.side ≡ side → IsStripFor shape leaves i strip → KeepsRest side i strip old new → HoldEdges shape leaves i g old → HoldEdges shape leaves i g new
edges_stay shape side leaves i g old new strip domain is fits meant rest hold face edge a b a_in b_in =
    rest face a b (omega arith) (omega arith) (λ same. absurd (strip_is_inner shape side leaves i strip domain is meant (subst (IsAtEdge shape (box_of shape i)) same edge)))
    ∙ hold face edge a b a_in b_in

-- what is laid stays, whichever strip comes after it
part_stays : (shape : Shape) (side : ℕ) (leaves : List Leaf) (i : BlockId) (g : Grid) (old new : Walls) (one strip : StripValue) → g.side ≡ side
    → HoldsPart shape leaves i g new strip → KeepsRest side i strip old new → HoldsPart shape leaves i g old one → HoldsPart shape leaves i g new one
part_stays shape side leaves i g old new one strip fits part rest before a b a_in b_in lies =
    elim (same_face one.face strip.face) [
      | inr apart ↦ rest one.face a b (omega arith) (omega arith) (λ same. absurd (apart same)) ∙ before a b a_in b_in lies
      | inl same ↦
          elim (cases_Bool (is_opposite g.side strip.face i strip.source a b)) [
            | inl here ↦ subst (λ f. wall_at new f a b ≡ value_beside shape leaves i g f a b) (sym same) (part a b a_in b_in here)
            | inr out ↦ rest one.face a b (omega arith) (omega arith)
                (λ _. ap (λ s. is_opposite s strip.face i strip.source a b) (sym fits) ∙ out) ∙ before a b a_in b_in lies
          ]
    ]

-- each of the first so many strips is laid
abbrev pub PartsHold : Shape → List Leaf → BlockId → Grid → Walls → List StripValue → ℕ → Type 0
PartsHold shape leaves i g walls strips count = (k : ℕ) (d : StripValue) → k < count → HoldsPart shape leaves i g walls (get_or strips k d)

pub no_parts : (shape : Shape) (leaves : List Leaf) (i : BlockId) (g : Grid) (walls : Walls) (strips : List StripValue) → PartsHold shape leaves i g walls strips 0
no_parts shape leaves i g walls strips k d below = absurd (omega (arith, below))

pub one_part_more : (shape : Shape) (side : ℕ) (leaves : List Leaf) (i : BlockId) (g : Grid) (old new : Walls) (strips : List StripValue) (strip : StripValue) (count : ℕ)
    → g.side ≡ side → count < length strips → strip ≡ get_or strips count strip
    → HoldsPart shape leaves i g new strip → KeepsRest side i strip old new → PartsHold shape leaves i g old strips count → PartsHold shape leaves i g new strips (count + 1)
one_part_more shape side leaves i g old new strips strip count fits within is part rest so_far k d below =
    elim (cases_eq k count) [
      | inl same ↦
          let here : get_or strips k d ≡ strip = ap (λ n. get_or strips n d) same ∙ any_default strips count d strip within ∙ sym is in
          subst (HoldsPart shape leaves i g new) (sym here) part
      | inr before ↦ part_stays shape side leaves i g old new (get_or strips k d) strip fits part rest (so_far k d (omega arith))
    ]
  where
    any_default : (xs : List StripValue) (p : ℕ) (d e : StripValue) → p < length xs → get_or xs p d ≡ get_or xs p e
    any_default xs p d e in_xs = grind (arith, common_steps)

-- ---- a filled shell

edge_cases : (shape : Shape) (c : Cube) (face : Face) → IsAtEdge shape c face ⊎ (IsAtEdge shape c face → ⊥)
edge_cases shape c XLow = cases_eq c.x 0
edge_cases shape c XHigh = cases_eq (c.x + c.edge) (axis_x shape).extent
edge_cases shape c YLow = cases_eq c.y 0
edge_cases shape c YHigh = cases_eq (c.y + c.edge) (axis_y shape).extent
edge_cases shape c ZLow = cases_eq c.z 0
edge_cases shape c ZHigh = cases_eq (c.z + c.edge) (axis_z shape).extent

-- with all strips and the edges laid, the walls hold the samples
pub all_hold : (shape : Shape) (side : ℕ) (leaves : List Leaf) (i : BlockId) (g : Grid) (walls : Walls) (strips : List StripValue) → IsShape shape → IsMap shape side leaves
    → IsBalanced shape (ids_of leaves) → Contains leaves (i, g) → AreStripsFor shape leaves i strips
    → HoldEdges shape leaves i g walls → All (HoldsPart shape leaves i g walls) strips → HoldSamples shape leaves i g walls
all_hold shape side leaves i g walls strips domain is balanced has are edges parts face a b a_in b_in =
    let own = leaf_is shape side leaves i g domain is has in
    let fits = own.fits in
    elim (edge_cases shape (box_of shape i) face) [
      | inl edge ↦ edges face edge a b a_in b_in
      | inr inner ↦
          let across = some_opposite shape side leaves i g face a b domain is balanced has inner (omega arith) (omega arith) in
          let strip = strip_of across.other face i in
          let part = All-contains (HoldsPart shape leaves i g walls) strips strip parts (are.whole across.other face across.in_map across.share) in
          part a b a_in b_in (ap (λ s. is_opposite s face i across.other.0 a b) fits ∙ across.part)
    ]

-- whether a face lies at the edge, by the shape, the cube and the face that a call was given
pub edge_at : (shape roots : Shape) (cube : Cube) (i : BlockId) (face : Face) → shape ≡ roots → cube ≡ box_of shape i → IsAtEdge shape cube face → IsAtEdge roots (box_of roots i) face
edge_at shape roots cube i face same boxed at = subst (λ s. IsAtEdge s (box_of s i) face) same (subst (λ d. IsAtEdge shape d face) boxed at)
