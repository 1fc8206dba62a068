-- Places of boxes, and the units that they have.
use Rattle.std.proofs.Common.{◌≡◌, ℕ, true, false, ◌+◌, ◌-◌, ◌*◌, ◌/◌, ◌%◌, ◌^◌, ◌<◌, ◌≤◌, List, [], ◌∷◌, length, get_or, ◌⊎◌, inl, inr, ◌↔◌, sym, ap, subst, ◌∙◌, All, AllPairs, Contains, Decides, map, eqb, eqb-true, eq-eqb, arith, lit<, pow-add, pow_pos}
use Rattle.std.specs.List.{list_any}
use Rattle.std.proofs.Math.ListN.{set}
use Rattle.std.proofs.Math.Nat.{le-div_iff_mul-le, div-lt_iff_lt-mul, mul-div_cancel, pow-le-pow_right}
use Rattle.std.proofs.lemmas.Nat.{mod_below, div_below, mul-le}
use Rattle.std.proofs.lemmas.Bool.{cases_eq, cases_lt, cases_Bool, both_ways}
use Rattle.std.proofs.lemmas.List.{get_or-set_same, get_or-set_other, get_or-map, length-map, get_or_default}
use Rattle.std.proofs.lemmas.List.Elements.{Contains-get_or}
use Rattle.std.proofs.lemmas.Map.Views.{Contains-from_any}
use Rattle.std.proofs.lemmas.Map.Made.{IsDistinct-from_AllPairs}
use Rattle.std.proofs.lemmas.Map.Steps.{length-le_from_distinct_below}
use Rattle.bf_id.specs.declared.shape.Shape.{Shape}
use Rattle.bf_id.specs.Cube.{Cube, Voxel, Spans, Holds, halved, narrowed, holds, in_boxes}
use Rattle.bf_id.specs.Shape.{IsShape, InDomain, root_cube}
use Rattle.bf_id.specs.Id.{BlockId, IsId, InShape, level_of, box_of, root_id}
use Rattle.bf_id.specs.Tiling.{Tiles}
use Rattle.bf_id.specs.Walk.{IsBefore}
use Rattle.bf_id.proofs.Boxes.{root_coordinates, root_from_coordinates, root_below, root_in_domain, edge-box, domain_holds, corner_of, holds_corner}
use Rattle.bf_id.proofs.Cubes.{narrowed_within}
use Rattle.bf_case.specs.Map.{Leaf, ids_of}
use Rattle.bf_case.specs.Sample.{scale_of}
use Rattle.bf_case.proofs.AlignLemmas.{IsMultiple}
use Rattle.bf_case.proofs.TestLemmas.{holds_decides}
use Rattle.bf_case.proofs.SampleLemmas.{not_before_itself}
use Rattle.bf_plain.specs.Atlas.{Chart, boxes_along, place_of, box_at, box_with, box_in, chart_place, number_at, id_at, HasUnit, Charts}

-- ---- boxes by their places

-- the box at a box's place
pub box_at-place_of : (wide deep : ℕ) (v : Voxel) → v.x < wide → v.y < deep → box_at wide deep (place_of wide deep v) ≡ v
box_at-place_of wide deep v x_in y_in =
    let e = root_coordinates wide deep v.x v.y v.z x_in y_in in
    λ k. record { x = e.0 k; y = e.1 k; z = e.2 k }

-- the place of the box at a place
pub place_of-box_at : (wide deep place : ℕ) → place_of wide deep (box_at wide deep place) ≡ place
place_of-box_at wide deep place = root_from_coordinates wide deep place

-- ---- the boxes of a cube in turn

pub steps_in : (edge step : ℕ) → 0 < edge → step < edge * (edge * edge) → (step % edge < edge) × (step / edge % edge < edge) × (step / edge / edge < edge)
steps_in edge step some below =
    let row : step / edge < edge * edge = div_below step edge (edge * edge) some (omega arith) in
    (mod_below step edge some, mod_below (step / edge) edge some, div_below (step / edge) edge edge some row)

-- a cube holds its boxes
pub Holds-box_in : (c : Cube) (step : ℕ) → 0 < c.edge → step < c.edge * (c.edge * c.edge) → Holds c (box_in c step)
Holds-box_in c step some below = let in' = steps_in c.edge step some below in omega arith

-- at which step a cube's box has its turn
abbrev pub step_of : Cube → Voxel → ℕ
step_of c v = place_of c.edge c.edge (record { x = v.x - c.x; y = v.y - c.y; z = v.z - c.z })

pub box_in-step_of : (c : Cube) (v : Voxel) → Holds c v → box_in c (step_of c v) ≡ v
box_in-step_of c v h =
    let e = root_coordinates c.edge c.edge (v.x - c.x) (v.y - c.y) (v.z - c.z) (omega arith) (omega arith) in
    let x : c.x + step_of c v % c.edge ≡ v.x = omega (arith, e.0) in
    let y : c.y + step_of c v / c.edge % c.edge ≡ v.y = omega (arith, e.1) in
    let z : c.z + step_of c v / c.edge / c.edge ≡ v.z = omega (arith, e.2) in
    λ k. record { x = x k; y = y k; z = z k }

pub step_of-below : (c : Cube) (v : Voxel) → Holds c v → step_of c v < c.edge * (c.edge * c.edge)
step_of-below c v h = root_below c.edge c.edge c.edge (v.x - c.x) (v.y - c.y) (v.z - c.z) (omega arith) (omega arith) (omega arith)

-- the place of such a box
pub place_of-below : (wide deep q : ℕ) (c : Cube) (step : ℕ) → q ≡ place_of wide deep (box_in c step) → 0 < c.edge → step < c.edge * (c.edge * c.edge)
    → c.x + c.edge ≤ wide → c.y + c.edge ≤ deep → q < wide * (deep * (c.z + c.edge))
place_of-below wide deep q c step is some below x_in y_in =
    let in' = Holds-box_in c step some below in
    let b = box_in c step in
    rw is (root_below wide deep (c.z + c.edge) b.x b.y b.z (omega arith) (omega arith) in'.along_z.1)

pub some_steps : (edge step : ℕ) → step < edge * (edge * edge) → 0 < edge
some_steps edge step below = by (cases_lt 0 edge)
  where
    by : (0 < edge) ⊎ (edge ≤ 0) → 0 < edge
    by (inl some) = some
    by (inr none) = absurd (let e : edge ≡ 0 = omega arith in let z : edge * (edge * edge) ≡ 0 = ap (λ k. k * (k * k)) e in omega arith)

pub step_bound : (edge other step : ℕ) → edge ≡ other → step < edge * edge * edge → step < other * (other * other)
step_bound edge other step same below = subst (λ n. step < n * (n * n)) same (omega arith)

pub all_steps : (edge other step : ℕ) → edge ≡ other → edge * edge * edge ≤ step → other * (other * other) ≤ step
all_steps edge other step same above = subst (λ n. n * (n * n) ≤ step) same (omega arith)

-- ---- painting

-- the numbers of the boxes that had their turn
abbrev pub Painted : ℕ → ℕ → Cube → ℕ → ℕ → List ℕ → Type 0
Painted wide deep c number step numbers =
    (place : ℕ) → Holds c (box_at wide deep place) → step_of c (box_at wide deep place) < step → get_or numbers place 0 ≡ number

abbrev pub Kept : ℕ → ℕ → Cube → List ℕ → List ℕ → Type 0
Kept wide deep c before numbers = (place : ℕ) → (Holds c (box_at wide deep place) → ⊥) → get_or numbers place 0 ≡ get_or before place 0

pub Painted-more : (wide deep : ℕ) (c : Cube) (number step q : ℕ) (numbers : List ℕ) → Painted wide deep c number step numbers
    → q ≡ place_of wide deep (box_in c step) → q < length numbers → Painted wide deep c number (step + 1) (set numbers q number)
Painted-more wide deep c number step q numbers painted is below place h turn = by (cases_eq place q)
  where
    by : (place ≡ q) ⊎ (place ≡ q → ⊥) → get_or (set numbers q number) place 0 ≡ number
    by (inl same) = ap (λ k. get_or (set numbers q number) k 0) same ∙ get_or-set_same numbers q number 0 below
    by (inr other) = get_or-set_other numbers q place number 0 other ∙ painted place h (earlier (cases_lt (step_of c (box_at wide deep place)) step))
      where
        earlier : (step_of c (box_at wide deep place) < step) ⊎ (step ≤ step_of c (box_at wide deep place)) → step_of c (box_at wide deep place) < step
        earlier (inl less) = less
        earlier (inr more) = absurd
            (let now : step ≡ step_of c (box_at wide deep place) = omega arith in
            other (sym (place_of-box_at wide deep place) ∙ ap (place_of wide deep) (sym (box_in-step_of c (box_at wide deep place) h) ∙ ap (box_in c) (sym now)) ∙ sym is))

pub Kept-more : (wide deep : ℕ) (c : Cube) (number step q : ℕ) (before numbers : List ℕ) → Kept wide deep c before numbers
    → q ≡ place_of wide deep (box_in c step) → 0 < c.edge → step < c.edge * (c.edge * c.edge) → c.x + c.edge ≤ wide → c.y + c.edge ≤ deep
    → Kept wide deep c before (set numbers q number)
Kept-more wide deep c number step q before numbers kept is some below x_in y_in place out =
    let held : Holds c (box_in c step) = Holds-box_in c step some below in
    let box : box_at wide deep q ≡ box_in c step = ap (box_at wide deep) is ∙ box_at-place_of wide deep (box_in c step) (omega arith) (omega arith) in
    get_or-set_other numbers q place number 0 (λ same. out (subst (Holds c) (sym box ∙ ap (box_at wide deep) (sym same)) held)) ∙ kept place out

-- ---- boxes of blocks

-- the corner and the edge of a cube are multiples of a unit
pub record OnGrid (unit : ℕ) (c : Cube) : Type 0 where
  pub x : IsMultiple c.x unit
  pub y : IsMultiple c.y unit
  pub z : IsMultiple c.z unit
  pub edge : IsMultiple c.edge unit

half_multiple : (half low step : ℕ) → IsMultiple low (2 * half) → IsMultiple (low + step * half) half
half_multiple half low step (k, is) = (2 * k + step, rw is (omega arith))

OnGrid-halved : (c : Cube) (octant half : ℕ) → c.edge ≡ 2 * half → OnGrid (2 * half) c → OnGrid half (halved c octant)
OnGrid-halved c octant half e grid =
    let same : half ≡ c.edge / 2 = omega arith in
    let P : ℕ → Type 0 = λ n. OnGrid n (halved c octant) in
    let whole : OnGrid (2 * (c.edge / 2)) c = subst (λ n. OnGrid (2 * n) c) same grid in
    subst P (sym same) (record {
      x = half_multiple (c.edge / 2) c.x (octant % 2) whole.x;
      y = half_multiple (c.edge / 2) c.y (octant / 2 % 2) whole.y;
      z = half_multiple (c.edge / 2) c.z (octant / 4) whole.z;
      edge = (1, omega arith);
    })

OnGrid-narrowed : (ds : List ℕ) (c : Cube) (m : ℕ) → c.edge ≡ 2 ^ (length ds + m) → OnGrid (2 ^ (length ds + m)) c → OnGrid (2 ^ m) (narrowed c ds)
OnGrid-narrowed [] c m e grid = subst (λ n. OnGrid (2 ^ n) c) (omega arith) grid
OnGrid-narrowed (d ∷ ds) c m e grid =
    let p : 2 ^ (length (d ∷ ds) + m) ≡ 2 * 2 ^ (length ds + m) = two (length ds + m) (length (d ∷ ds) + m) (omega arith) in
    let q : c.edge ≡ 2 * 2 ^ (length ds + m) = e ∙ p in
    OnGrid-narrowed ds (halved c d) m (omega arith) (OnGrid-halved c d (2 ^ (length ds + m)) q (subst (λ n. OnGrid n c) p grid))
  where
    two : (n k : ℕ) → k ≡ n + 1 → 2 ^ k ≡ 2 * 2 ^ n
    two n k is = let e : 2 ^ (n + 1) ≡ 2 ^ n * 2 = pow-add 2 n 1 in ap (λ j. 2 ^ j) is ∙ omega arith

-- the box of a block begins at multiples of its edge
pub box_on_grid : (shape : Shape) (i : BlockId) → level_of i ≤ 4 → OnGrid (box_of shape i).edge (box_of shape i)
box_on_grid shape i shallow =
    let m : ℕ = 4 - level_of i in
    let left : level_of i + m ≡ 4 = omega arith in
    let sixteen : 2 ^ (level_of i + m) ≡ 16 = ap (λ n. 2 ^ n) left in
    let root : OnGrid 16 (root_cube shape i.root) = record {
      x = (i.root % shape.nx, omega arith);
      y = (i.root / shape.nx % shape.ny, omega arith);
      z = (i.root / shape.nx / shape.ny, omega arith);
      edge = (1, omega arith);
    } in
    subst (λ n. OnGrid n (box_of shape i)) (sym (edge-box shape i m left))
    (OnGrid-narrowed i.digits (root_cube shape i.root) m (sym sixteen) (subst (λ n. OnGrid n (root_cube shape i.root)) (sym sixteen) root))

-- and so at multiples of the edge of a box of its level or of a finer one
pub box_on_fine_grid : (shape : Shape) (i : BlockId) (level : ℕ) → level_of i ≤ level → level ≤ 4 → OnGrid (scale_of level) (box_of shape i)
box_on_fine_grid shape i level coarse shallow =
    let grid = box_on_grid shape i (omega arith) in
    let m : ℕ = 4 - level_of i in
    let edge : (box_of shape i).edge ≡ 2 ^ m = edge-box shape i m (omega arith) in
    let split : 2 ^ (level - level_of i + (4 - level)) ≡ 2 ^ (level - level_of i) * 2 ^ (4 - level) = pow-add 2 (level - level_of i) (4 - level) in
    let same : level - level_of i + (4 - level) ≡ m = omega arith in
    let whole : (box_of shape i).edge ≡ 2 ^ (level - level_of i) * 2 ^ (4 - level) = edge ∙ ap (λ n. 2 ^ n) (sym same) ∙ split in
    let many : ℕ = 2 ^ (level - level_of i) in
    record {
      x = finer many (scale_of level) (box_of shape i).x whole grid.x;
      y = finer many (scale_of level) (box_of shape i).y whole grid.y;
      z = finer many (scale_of level) (box_of shape i).z whole grid.z;
      edge = (many, whole);
    }
  where
    finer : {edge : ℕ} (many unit n : ℕ) → edge ≡ many * unit → IsMultiple n edge → IsMultiple n unit
    finer many unit n e (k, is) = (k * many, is ∙ ap (λ j. k * j) e ∙ omega arith)

-- along one axis, what units and boxes say
spans_in_boxes : (unit low length u : ℕ) → 0 < unit → IsMultiple low unit → IsMultiple length unit → Spans low length u ↔ Spans (low / unit) (length / unit) (u / unit)
spans_in_boxes unit low length u some (a, p) (n, q) =
    let a_is : low / unit ≡ a = ap (λ k. k / unit) p ∙ mul-div_cancel a some in
    let n_is : length / unit ≡ n = ap (λ k. k / unit) q ∙ mul-div_cancel n some in
    let above : (a ≤ u / unit) ↔ (a * unit ≤ u) = le-div_iff_mul-le some in
    let below : (u / unit < a + n) ↔ (u < (a + n) * unit) = div-lt_iff_lt-mul some in
    let whole : (a + n) * unit ≡ low + length = omega arith in (
      λ s. (omega (arith, above.1 (omega arith)), omega (arith, below.1 (omega arith))),
      λ s. (omega (arith, above.0 (omega arith)), omega (arith, below.0 (omega arith))),
    )

-- a cube holds a unit where, in boxes, it holds the unit's box
pub holds_in_boxes : (level : ℕ) (c : Cube) (v : Voxel) → OnGrid (scale_of level) c → Holds c v ↔ Holds (in_boxes level c) (box_with level v)
holds_in_boxes level c v grid =
    let some : 0 < scale_of level = pow_pos (4 - level) in
    let x = spans_in_boxes (scale_of level) c.x c.edge v.x some grid.x grid.edge in
    let y = spans_in_boxes (scale_of level) c.y c.edge v.y some grid.y grid.edge in
    let z = spans_in_boxes (scale_of level) c.z c.edge v.z some grid.z grid.edge in (
      λ h. record { along_x = x.0 h.along_x; along_y = y.0 h.along_y; along_z = z.0 h.along_z },
      λ h. record { along_x = x.1 h.along_x; along_y = y.1 h.along_y; along_z = z.1 h.along_z },
    )

-- ---- filling

-- the boxes of a block lie in the domain
pub record LiesIn (wide deep high : ℕ) (c : Cube) : Type 0 where
  pub along_x : c.x + c.edge ≤ wide
  pub along_y : c.y + c.edge ≤ deep
  pub along_z : c.z + c.edge ≤ high

ends_within : (unit low length roots many : ℕ) → 0 < unit → many * unit ≡ 16 → IsMultiple low unit → IsMultiple length unit → low + length ≤ 16 * roots
    → low / unit + length / unit ≤ roots * many
ends_within unit low length roots many some whole (a, p) (n, q) inside =
    let a_is : low / unit ≡ a = ap (λ k. k / unit) p ∙ mul-div_cancel a some in
    let n_is : length / unit ≡ n = ap (λ k. k / unit) q ∙ mul-div_cancel n some in
    let sum : (a + n) * unit ≡ low + length = omega arith in
    let all : roots * many * unit ≡ 16 * roots = (let e : roots * many * unit ≡ roots * (many * unit) = omega arith in e ∙ ap (λ k. roots * k) whole ∙ omega arith) in
    omega (arith, mul-le_cancel (a + n) (roots * many) unit some (omega arith))
  where
    mul-le_cancel : (m n k : ℕ) → 0 < k → m * k ≤ n * k → m ≤ n
    mul-le_cancel m n k some h = let f : (m ≤ n * k / k) ↔ (m * k ≤ n * k) = le-div_iff_mul-le some in omega (arith, f.1 h, mul-div_cancel n some)

pub boxes_lie_in : (shape : Shape) (i : BlockId) (level : ℕ) → IsShape shape → IsId i → InShape shape i → level_of i ≤ level → level ≤ 4
    → LiesIn (boxes_along shape.nx level) (boxes_along shape.ny level) (boxes_along shape.nz level) (in_boxes level (box_of shape i))
boxes_lie_in shape i level is id in' coarse shallow =
    let some : 0 < scale_of level = pow_pos (4 - level) in
    let whole : 2 ^ level * scale_of level ≡ 16 =
    (let e : level + (4 - level) ≡ 4 = omega arith in sym (pow-add 2 level (4 - level)) ∙ ap (λ n. 2 ^ n) e) in
    let grid = box_on_fine_grid shape i level coarse shallow in
    let root = root_in_domain shape i.root is in' in
    let within = narrowed_within i.digits (root_cube shape i.root) id.octal in
    let b = box_of shape i in
    record {
      along_x = ends_within (scale_of level) b.x b.edge shape.nx (2 ^ level) some whole grid.x grid.edge (omega arith);
      along_y = ends_within (scale_of level) b.y b.edge shape.ny (2 ^ level) some whole grid.y grid.edge (omega arith);
      along_z = ends_within (scale_of level) b.z b.edge shape.nz (2 ^ level) some whole grid.z grid.edge (omega arith);
    }

-- the box with a unit of the domain is one of the domain's boxes
box_inside : (unit u roots many : ℕ) → 0 < unit → many * unit ≡ 16 → u < 16 * roots → u / unit < roots * many
box_inside unit u roots many some whole inside =
    let all : roots * many * unit ≡ 16 * roots = (let e : roots * many * unit ≡ roots * (many * unit) = omega arith in e ∙ ap (λ k. roots * k) whole ∙ omega arith) in
    let f : (u / unit < roots * many) ↔ (u < roots * many * unit) = div-lt_iff_lt-mul some in
    f.1 (omega arith)

pub record IsBox (shape : Shape) (level : ℕ) (b : Voxel) : Type 0 where
  pub along_x : b.x < boxes_along shape.nx level
  pub along_y : b.y < boxes_along shape.ny level
  pub along_z : b.z < boxes_along shape.nz level

pub box_with-inside : (shape : Shape) (level : ℕ) (v : Voxel) → level ≤ 4 → InDomain shape v → IsBox shape level (box_with level v)
box_with-inside shape level v shallow in' =
    let some : 0 < scale_of level = pow_pos (4 - level) in
    let whole : 2 ^ level * scale_of level ≡ 16 =
    (let e : level + (4 - level) ≡ 4 = omega arith in sym (pow-add 2 level (4 - level)) ∙ ap (λ n. 2 ^ n) e) in
    record {
      along_x = box_inside (scale_of level) v.x shape.nx (2 ^ level) some whole in'.along_x;
      along_y = box_inside (scale_of level) v.y shape.ny (2 ^ level) some whole in'.along_y;
      along_z = box_inside (scale_of level) v.z shape.nz (2 ^ level) some whole in'.along_z;
    }

pub chart_place-below : (shape : Shape) (level : ℕ) (v : Voxel) → level ≤ 4 → InDomain shape v
    → chart_place shape level v < boxes_along shape.nx level * (boxes_along shape.ny level * boxes_along shape.nz level)
chart_place-below shape level v shallow in' =
    let b = box_with-inside shape level v shallow in' in
    root_below (boxes_along shape.nx level) (boxes_along shape.ny level) (boxes_along shape.nz level) _ _ _ b.along_x b.along_y b.along_z

-- after the first leaves: what one of them holds has a leaf's number
abbrev pub Filled : Shape → List BlockId → ℕ → ℕ → List ℕ → Type 0
Filled shape ids level count numbers =
    (v : Voxel) (k : ℕ) → InDomain shape v → k < count → Holds (box_of shape (id_at ids k)) v
    → HasUnit shape ids v (get_or numbers (chart_place shape level v) 0)

pub Filled-more : (shape : Shape) (ids : List BlockId) (level k : ℕ) (c : Cube) (before after : List ℕ) → level ≤ 4 → k < length ids
    → OnGrid (scale_of level) (box_of shape (id_at ids k)) → c ≡ in_boxes level (box_of shape (id_at ids k))
    → ((place : ℕ) → Holds c (box_at (boxes_along shape.nx level) (boxes_along shape.ny level) place) → get_or after place 0 ≡ k)
    → Kept (boxes_along shape.nx level) (boxes_along shape.ny level) c before after
    → Filled shape ids level k before → Filled shape ids level (k + 1) after
Filled-more shape ids level k c before after shallow below grid is painted kept filled v j in' earlier holds' =
    by (cases_Bool (holds (box_of shape (id_at ids k)) v))
  where
    wide : ℕ
    wide = boxes_along shape.nx level

    deep : ℕ
    deep = boxes_along shape.ny level

    box : box_at (boxes_along shape.nx level) (boxes_along shape.ny level) (chart_place shape level v) ≡ box_with level v
    box = let b = box_with-inside shape level v shallow in' in
        box_at-place_of (boxes_along shape.nx level) (boxes_along shape.ny level) (box_with level v) b.along_x b.along_y

    both : Holds (box_of shape (id_at ids k)) v ↔ Holds (in_boxes level (box_of shape (id_at ids k))) (box_with level v)
    both = holds_in_boxes level (box_of shape (id_at ids k)) v grid

    by : (holds (box_of shape (id_at ids k)) v ≡ true) ⊎ (holds (box_of shape (id_at ids k)) v ≡ false)
        → HasUnit shape ids v (get_or after (chart_place shape level v) 0)
    by (inl held) =
        let h : Holds (box_of shape (id_at ids k)) v = (holds_decides (box_of shape (id_at ids k)) v).0 held in
        let h' : Holds c (box_with level v) = subst (λ d. Holds d (box_with level v)) (sym is) (both.0 h) in
        let number = painted (chart_place shape level v) (subst (Holds c) (sym box) h') in
        subst (HasUnit shape ids v) (sym number) (record { below = below; holds = h })
    by (inr missed) =
        let out : Holds (box_of shape (id_at ids k)) v → ⊥ = λ h. both_ways (holds (box_of shape (id_at ids k)) v) missed ((holds_decides (box_of shape (id_at ids k)) v).1 h) in
        let same = kept (chart_place shape level v) (λ h. out (both.1 (subst (λ d. Holds d (box_with level v)) is (subst (Holds c) box h)))) in
        subst (HasUnit shape ids v) (sym same) (filled v j in' (older (cases_eq j k)) holds')
      where
        older : (j ≡ k) ⊎ (j ≡ k → ⊥) → j < k
        older (inl now) = absurd (both_ways (holds (box_of shape (id_at ids k)) v) missed ((holds_decides (box_of shape (id_at ids k)) v).1 (subst (λ n. Holds (box_of shape (id_at ids n)) v) now holds')))
        older (inr other) = omega arith

-- ---- leaves by their numbers

pub id_of_leaf : (leaves : List Leaf) (k : ℕ) (leaf : Leaf) → k < length leaves → leaf ≡ get_or leaves k leaf → leaf.0 ≡ id_at (ids_of leaves) k
id_of_leaf leaves k leaf below is =
    ap (λ (l : Leaf). l.0) is ∙ sym (get_or-map (λ (l : Leaf). l.0) leaves k leaf (root_id 0) below)

-- the boxes of a leaf, by its number
pub record LeafBoxes (shape : Shape) (ids : List BlockId) (level k : ℕ) (c : Cube) : Type 0 where
  pub below : k < length ids
  pub grid : OnGrid (scale_of level) (box_of shape (id_at ids k))
  pub boxes : c ≡ in_boxes level (box_of shape (id_at ids k))
  pub lies : LiesIn (boxes_along shape.nx level) (boxes_along shape.ny level) (boxes_along shape.nz level) c

pub leaf_boxes : (shape : Shape) (leaves : List Leaf) (level k : ℕ) (leaf : Leaf) (c : Cube) → IsShape shape → level ≤ 4
    → All IsId (ids_of leaves) → All (InShape shape) (ids_of leaves) → All (λ i. level_of i ≤ level) (ids_of leaves)
    → k < length leaves → leaf ≡ get_or leaves k leaf → c ≡ in_boxes level (box_of shape leaf.0) → LeafBoxes shape (ids_of leaves) level k c
leaf_boxes shape leaves level k leaf c is shallow ids in' coarse below at boxes =
    let h : k < length (ids_of leaves) = omega (arith, length-map leaves (λ (l : Leaf). l.0), below) in
    let i = id_at (ids_of leaves) k in
    let same = boxes ∙ ap (λ j. in_boxes level (box_of shape j)) (id_of_leaf leaves k leaf below at) in
    let P : Cube → Type 0 = LiesIn (boxes_along shape.nx level) (boxes_along shape.ny level) (boxes_along shape.nz level) in
    record {
      below = h;
      grid = box_on_fine_grid shape i level (coarse k (root_id 0) h) shallow;
      boxes = same;
      lies = subst P (sym same) (boxes_lie_in shape i level is (ids k (root_id 0) h) (in' k (root_id 0) h) (coarse k (root_id 0) h) shallow);
    }

-- the number for a unit
pub number_is : (chart whole : Chart) (v : Voxel) (place n : ℕ) → whole ≡ chart → place ≡ chart_place whole.shape whole.level v
    → n ≡ get_or whole.numbers place 0 → n ≡ number_at chart v
number_is chart whole v place n same at is = is ∙ ap (λ k. get_or whole.numbers k 0) at ∙ ap (λ (c : Chart). number_at c v) same

-- where all leaves of a tiling are filled in, each unit has its leaf
pub Charts-from_filled : (shape : Shape) (ids : List BlockId) (chart : Chart) → Tiles shape ids → chart.shape ≡ shape
    → Filled shape ids chart.level (length ids) chart.numbers → Charts shape ids chart
Charts-from_filled shape ids chart tiles same filled = record {
  same_shape = same;
  leaves = λ v in'.
      (let (i, (k, below, is), held) = tiles.covered v in' in
      let default : get_or ids k (root_id 0) ≡ i = get_or_default ids k (root_id 0) i below ∙ is in
      subst (λ (s : Shape). HasUnit shape ids v (get_or chart.numbers (chart_place s chart.level v) 0)) (sym same)
      (filled v k in' below (subst (λ j. Holds (box_of shape j) v) (sym default) held)));
}

-- ---- sizes

pub sides_few : (roots level : ℕ) → roots ≤ 16 → level ≤ 4 → boxes_along roots level ≤ 256
sides_few roots level few shallow =
    let power : 2 ^ level ≤ 2 ^ 4 = pow-le-pow_right {n = 2} (lit< tt) shallow in
    mul-le roots (2 ^ level) 16 16 few (omega (arith, power))

pub rooms : (shape : Shape) (level : ℕ) (c : Cube) → LiesIn (boxes_along shape.nx level) (boxes_along shape.ny level) (boxes_along shape.nz level) c
    → boxes_along shape.nx level * (boxes_along shape.ny level * (c.z + c.edge))
    ≤ boxes_along shape.nx level * (boxes_along shape.ny level * boxes_along shape.nz level)
rooms shape level c lies =
    mul-le (boxes_along shape.nx level) _ (boxes_along shape.nx level) _ (omega arith)
    (mul-le (boxes_along shape.ny level) (c.z + c.edge) (boxes_along shape.ny level) (boxes_along shape.nz level) (omega arith) lies.along_z)

-- ---- how many leaves there are

-- the place of the box at a leaf's low corner
abbrev corner_place : Shape → ℕ → BlockId → ℕ
corner_place shape level i = chart_place shape level (corner_of (box_of shape i))

-- no two leaves have one
corners_differ : (shape : Shape) (ids : List BlockId) (level : ℕ) (i j : BlockId) → IsShape shape → Tiles shape ids → level ≤ 4 → Contains ids i → Contains ids j
    → IsId i → IsId j → InShape shape i → InShape shape j → level_of i ≤ level → corner_place shape level i ≡ corner_place shape level j → i ≡ j
corners_differ shape ids level i j is tiles shallow i_in j_in p q i_of j_of coarse same =
    let v = corner_of (box_of shape i) in
    let w = corner_of (box_of shape j) in
    let wide = boxes_along shape.nx level in
    let deep = boxes_along shape.ny level in
    let first = holds_corner shape i p.shallow in
    let second = holds_corner shape j q.shallow in
    let here = box_with-inside shape level v shallow (domain_holds shape i v is p i_of first) in
    let there = box_with-inside shape level w shallow (domain_holds shape j w is q j_of second) in
    let box : box_with level v ≡ box_with level w =
    sym (box_at-place_of wide deep (box_with level v) here.along_x here.along_y) ∙ ap (box_at wide deep) same
    ∙ box_at-place_of wide deep (box_with level w) there.along_x there.along_y in
    let grid = box_on_fine_grid shape i level coarse shallow in
    let both = (holds_in_boxes level (box_of shape i) v grid).0 first in
    let other = (holds_in_boxes level (box_of shape i) w grid).1 (subst (Holds (in_boxes level (box_of shape i))) box both) in
    tiles.apart w i j i_in j_in other second

-- so there are no more leaves than boxes
pub leaves_few : (shape : Shape) (ids : List BlockId) (level : ℕ) → IsShape shape → Tiles shape ids → AllPairs IsBefore ids → All IsId ids → All (InShape shape) ids
    → All (λ i. level_of i ≤ level) ids → level ≤ 4 → length ids < 2 ^ 32
leaves_few shape ids level is tiles rising named in' coarse shallow =
    let count = boxes_along shape.nx level * (boxes_along shape.ny level * boxes_along shape.nz level) in
    let few : count ≤ 256 * (256 * 256) = mul-le (boxes_along shape.nx level) _ 256 _ (sides_few shape.nx level is.few_x shallow)
    (mul-le (boxes_along shape.ny level) (boxes_along shape.nz level) 256 256 (sides_few shape.ny level is.few_y shallow) (sides_few shape.nz level is.few_z shallow)) in
    let places = map (corner_place shape level) ids in
    omega (
      arith,
      few,
      length-map ids (corner_place shape level),
      length-le_from_distinct_below places count
          (IsDistinct-from_AllPairs eqb_decides places apart) below,
    )
  where
    eqb_decides : (a b : ℕ) → Decides (eqb a b) (a ≡ b)
    eqb_decides a b = (eqb-true a b, eq-eqb a b)

    at : (k : ℕ) (d : ℕ) → k < length ids → get_or (map (corner_place shape level) ids) k d ≡ corner_place shape level (get_or ids k (root_id 0))
    at k d h = get_or-map (corner_place shape level) ids k (root_id 0) d h

    apart : AllPairs (λ x y. x ≡ y → ⊥) (map (corner_place shape level) ids)
    apart j k d less h' same =
        let h : k < length ids = omega (arith, length-map ids (corner_place shape level), h') in
        let a : BlockId = get_or ids j (root_id 0) in
        let b : BlockId = get_or ids k (root_id 0) in
        let one : a ≡ b = corners_differ shape ids level a b is tiles shallow (Contains-get_or ids j (root_id 0) (omega arith)) (Contains-get_or ids k (root_id 0) h)
        (named j (root_id 0) (omega arith)) (named k (root_id 0) h) (in' j (root_id 0) (omega arith)) (in' k (root_id 0) h) (coarse j (root_id 0) (omega arith))
        (sym (at j d (omega arith)) ∙ same ∙ at k d h) in
        not_before_itself b (subst (λ i. IsBefore i b) one (rising j k (root_id 0) less h))

    below : (q : ℕ) → list_any (eqb q) (map (corner_place shape level) ids) ≡ true
        → q < boxes_along shape.nx level * (boxes_along shape.ny level * boxes_along shape.nz level)
    below q found =
        let has = Contains-from_any {eq = eqb} (λ a b. eqb-true a b) q (map (corner_place shape level) ids) found in
        let h : has.0 < length ids = omega (arith, length-map ids (corner_place shape level), has.1) in
        let i : BlockId = get_or ids has.0 (root_id 0) in
        let p : IsId i = named has.0 (root_id 0) h in
        let inside = domain_holds shape i (corner_of (box_of shape i)) is p (in' has.0 (root_id 0) h) (holds_corner shape i p.shallow) in
        let is_place : q ≡ corner_place shape level i = sym has.2 ∙ at has.0 q h in
        rw is_place (chart_place-below shape level (corner_of (box_of shape i)) shallow inside)
