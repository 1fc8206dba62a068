-- Boxes of blocks: roots, children, edges, and which boxes nest.
use Rattle.std.proofs.Common.{◌≡◌, ℕ, ◌+◌, ◌-◌, ◌*◌, ◌/◌, ◌%◌, ◌^◌, ◌<◌, ◌≤◌, List, [], ◌∷◌, ◌++◌, ◌⊎◌, inl, inr, refl, sym, ap, ◌∙◌, All, Decides, arith, ◌==◌, pow-add, div-add-mod', pow_pos, length-append}
use Rattle.std.proofs.lemmas.Bool.{cases_eq}
use Rattle.std.proofs.lemmas.Bool.Decides.{Decides-eqb, Decides-and, Decides-like}
use Rattle.std.proofs.lemmas.Slice.Eq.{slice_eq-Decides}
use Rattle.std.proofs.lemmas.Nat.{shl-shr, mul-add-lt, div-mul-add, mod-mul-add, div_below, mod_below}
use Rattle.std.proofs.lemmas.List.Elements.{All-nil, All-cons, All-head, All-tail, All-push}
use lib.Pointwise.{pointwise}
use Rattle.bf_id.specs.Cube.{Cube, Voxel, Holds, Within, Apart, halved, narrowed}
use Rattle.bf_id.specs.Meeting.{Meet}
use Rattle.bf_id.specs.Shape.{IsShape, root_count, root_cube, InDomain}
use Rattle.bf_id.specs.Id.{BlockId, IsId, level_of, child_of, box_of, InShape, Touch, id_eq, Begins}
use Rattle.bf_id.specs.declared.shape.Shape.{Shape}
use Rattle.bf_id.proofs.Cubes.{Holds-within, halved_meeting, Meet_sym, halved_within, halved_holding, halved_is_one, narrowed-append, narrowed-push, narrowed_within, power-narrowed}

-- what is true of each element of a list is true of each at its end
pub All-end : (P : ℕ → Type 0) (xs ys : List ℕ) → All P (xs ++ ys) → All P ys
All-end P [] ys all = all
All-end P (x ∷ xs) ys all = All-end P xs ys (All-tail P x (xs ++ ys) all)

-- and of each at its front
pub All-front : (P : ℕ → Type 0) (xs ys : List ℕ) → All P (xs ++ ys) → All P xs
All-front P [] ys all = All-nil P
All-front P (x ∷ xs) ys all = All-cons P x xs (All-head P x (xs ++ ys) all) (All-front P xs ys (All-tail P x (xs ++ ys) all))

-- ---- ids

-- ids of one root and the same octants are one id
pub same_id : (i j : BlockId) → i.root ≡ j.root → i.digits ≡ j.digits → i ≡ j
same_id i j e f = λ k. record { root = e k; digits = f k }

-- the test of equality is right
pub id_eq_is_equal : (i j : BlockId) → Decides (id_eq i j) (i ≡ j)
id_eq_is_equal i j =
    Decides-like (id_eq i j) (λ both. same_id i j both.0 both.1) (λ same. (ap (λ (k : BlockId). k.root) same, ap (λ (k : BlockId). k.digits) same))
    (Decides-and (i.root == j.root) (pointwise ◌==◌ i.digits j.digits)
    (Decides-eqb i.root j.root) (slice_eq-Decides Decides-eqb i.digits j.digits (pointwise ◌==◌ i.digits j.digits) refl))

-- a child's level
pub level-child : (i : BlockId) (o : ℕ) → level_of (child_of i o) ≡ level_of i + 1
level-child i o = length-append i.digits (o ∷ [])

-- a child of a name is a name
pub IsId-child : (i : BlockId) (o : ℕ) → IsId i → level_of i < 4 → o < 8 → IsId (child_of i o)
IsId-child i o is h below = record {
  root_fits = is.root_fits;
  shallow = rw (level-child i o) (omega arith);
  octal = All-push (λ k. k < 8) i.digits o is.octal below;
}

-- and so is a parent
pub IsId-parent : (i : BlockId) (o : ℕ) → IsId (child_of i o) → IsId i
IsId-parent i o is = record {
  root_fits = is.root_fits;
  shallow = omega (arith, is.shallow, level-child i o);
  octal = All-front (λ k. k < 8) i.digits (o ∷ []) is.octal;
}

-- a block touches what touches it
pub Touch_sym : (shape : Shape) (i j : BlockId) → Touch shape i j → Touch shape j i
Touch_sym shape i j t = (λ e. t.0 (sym e), Meet_sym shape (box_of shape i) (box_of shape j) t.1)

-- ---- edges

-- the edge of a box, by the levels that are left below it
pub edge-box : (shape : Shape) (i : BlockId) (m : ℕ) → level_of i + m ≡ 4 → (box_of shape i).edge ≡ 2 ^ m
edge-box shape i m e = power-narrowed i.digits (root_cube shape i.root) m (ap (λ (k : ℕ). 2 ^ k) (sym e))

-- the edge of a box times its number of halvings is a root's edge
pub edge-times : (shape : Shape) (i : BlockId) → level_of i ≤ 4 → (box_of shape i).edge * 2 ^ level_of i ≡ 16
edge-times shape i h =
    let m : ℕ = 4 - level_of i in
    let left : level_of i + m ≡ 4 = omega arith in
    let all : m + level_of i ≡ 4 = omega arith in
    rw (edge-box shape i m left) (sym (pow-add 2 m (level_of i)) ∙ ap (λ (k : ℕ). 2 ^ k) all)

-- so it is a root's edge over that number
pub edge-over : (shape : Shape) (i : BlockId) → level_of i ≤ 4 → (box_of shape i).edge ≡ 16 / 2 ^ level_of i
edge-over shape i h = sym (shl-shr (box_of shape i).edge (level_of i)) ∙ ap (λ (k : ℕ). k / 2 ^ level_of i) (edge-times shape i h)

-- above the last level the edge of a box is even
pub edge_is_even : (shape : Shape) (i : BlockId) → level_of i < 4 → (box_of shape i).edge / 2 + (box_of shape i).edge / 2 ≡ (box_of shape i).edge
edge_is_even shape i h =
    let m : ℕ = 3 - level_of i in
    let left : level_of i + (m + 1) ≡ 4 = omega arith in
    let whole : 2 ^ (m + 1) ≡ 2 ^ m * 2 = pow-add 2 m 1 in
    omega (arith, edge-box shape i (m + 1) left)

-- ---- children

-- the box of a child is the half of its parent's box
pub box-child : (shape : Shape) (i : BlockId) (o : ℕ) → box_of shape (child_of i o) ≡ halved (box_of shape i) o
box-child shape i o = narrowed-push i.digits o (root_cube shape i.root)

-- a child lies in its parent
pub child_within : (shape : Shape) (i : BlockId) (o : ℕ) → o < 8 → Within (box_of shape (child_of i o)) (box_of shape i)
child_within shape i o h = rw (box-child shape i o) (halved_within (box_of shape i) o h)

-- a parent holds what a child holds
pub parent_holds : (shape : Shape) (i : BlockId) (o : ℕ) (v : Voxel) → o < 8 → Holds (box_of shape (child_of i o)) v → Holds (box_of shape i) v
parent_holds shape i o v h inside = Holds-within (box_of shape (child_of i o)) (box_of shape i) v (child_within shape i o h) inside

-- each voxel of a block is in a child
pub child_holding : (shape : Shape) (i : BlockId) (v : Voxel) → level_of i < 4 → Holds (box_of shape i) v → (o : ℕ) × (o < 8) × Holds (box_of shape (child_of i o)) v
child_holding shape i v h inside =
    let half = halved_holding (box_of shape i) v (edge_is_even shape i h) inside in
    (half.0, half.1, rw (box-child shape i half.0) half.2)

-- a voxel is in one child at most
pub child_is_one : (shape : Shape) (i : BlockId) (v : Voxel) (o p : ℕ) → o < 8 → p < 8 → Holds (box_of shape (child_of i o)) v → Holds (box_of shape (child_of i p)) v → o ≡ p
child_is_one shape i v o p a b h k =
    halved_is_one (box_of shape i) v o p a b (rw (box-child shape i o) at h) (rw (box-child shape i p) at k)

-- a child meets what a parent meets
pub child_meeting : (shape : Shape) (i : BlockId) (d : Cube) → level_of i < 4 → Meet shape (box_of shape i) d → (o : ℕ) × (o < 8) × Meet shape (box_of shape (child_of i o)) d
child_meeting shape i d h meets =
    let half = halved_meeting shape (box_of shape i) d (edge_is_even shape i h) meets in
    (half.0, half.1, rw (box-child shape i half.0) half.2)

-- ---- roots

-- the coordinates of a root from its place
pub root_coordinates : (nx ny x y z : ℕ) → x < nx → y < ny → let r = x + nx * (y + ny * z) in (r % nx ≡ x) × (r / nx % ny ≡ y) × (r / nx / ny ≡ z)
root_coordinates nx ny x y z p q =
    let inner : y + ny * z ≡ z * ny + y = omega arith in
    let outer : x + nx * (y + ny * z) ≡ (y + ny * z) * nx + x = omega arith in
    let row : (x + nx * (y + ny * z)) / nx ≡ y + ny * z = rw outer (div-mul-add (y + ny * z) nx x p) in
    (rw outer (mod-mul-add (y + ny * z) nx x p), rw (row, inner) (mod-mul-add z ny y q), rw (row, inner) (div-mul-add z ny y q))

-- the place of a root from its coordinates
pub root_from_coordinates : (nx ny r : ℕ) → r % nx + nx * (r / nx % ny + ny * (r / nx / ny)) ≡ r
root_from_coordinates nx ny r =
    let inner : r / nx % ny + ny * (r / nx / ny) ≡ r / nx = omega (arith, div-add-mod' (r / nx) ny) in
    rw inner (omega (arith, div-add-mod' r nx))

-- a place within the domain is below the number of roots
pub root_below : (nx ny nz x y z : ℕ) → x < nx → y < ny → z < nz → x + nx * (y + ny * z) < nx * (ny * nz)
root_below nx ny nz x y z p q r =
    let inner : y + ny * z < ny * nz = omega (arith, mul-add-lt z ny y nz r q) in
    omega (arith, mul-add-lt (y + ny * z) nx x (ny * nz) inner p)

-- a root below the number of roots lies in the domain
pub root_in_domain : (shape : Shape) (r : ℕ) → IsShape shape → r < root_count shape → (r % shape.nx < shape.nx) × (r / shape.nx % shape.ny < shape.ny) × (r / shape.nx / shape.ny < shape.nz)
root_in_domain shape r is h =
    let row : r / shape.nx < shape.ny * shape.nz = div_below r shape.nx (shape.ny * shape.nz) is.some_x (omega arith) in
    (mod_below r shape.nx is.some_x, mod_below (r / shape.nx) shape.ny is.some_y, div_below (r / shape.nx) shape.ny shape.nz is.some_y (omega arith))

-- the domain holds what a root's cube holds
pub domain_holds_root : (shape : Shape) (r : ℕ) (v : Voxel) → IsShape shape → r < root_count shape → Holds (root_cube shape r) v → InDomain shape v
domain_holds_root shape r v is h inside = let at = root_in_domain shape r is h in omega arith

-- the root whose cube holds the voxel
abbrev pub root_of_voxel : Shape → Voxel → ℕ
root_of_voxel shape v = v.x / 16 + shape.nx * (v.y / 16 + shape.ny * (v.z / 16))

-- a root of the domain holds the voxel
pub root_holding : (shape : Shape) (v : Voxel) → InDomain shape v → (r : ℕ) × (r ≡ root_of_voxel shape v) × (r < root_count shape) × Holds (root_cube shape r) v
root_holding shape v is =
    let x : v.x / 16 < shape.nx = omega arith in
    let y : v.y / 16 < shape.ny = omega arith in
    let z : v.z / 16 < shape.nz = omega arith in
    let at = root_coordinates shape.nx shape.ny (v.x / 16) (v.y / 16) (v.z / 16) x y in (
      root_of_voxel shape v,
      refl,
      root_below shape.nx shape.ny shape.nz (v.x / 16) (v.y / 16) (v.z / 16) x y z,
      record { along_x = rw at.0 (omega arith); along_y = rw at.1 (omega arith); along_z = rw at.2 (omega arith) },
    )

-- a voxel is in one root at most
pub root_is_one : (shape : Shape) (r s : ℕ) (v : Voxel) → Holds (root_cube shape r) v → Holds (root_cube shape s) v → r ≡ s
root_is_one shape r s v h k =
    let x : r % shape.nx ≡ s % shape.nx = omega arith in
    let y : r / shape.nx % shape.ny ≡ s / shape.nx % shape.ny = omega arith in
    let z : r / shape.nx / shape.ny ≡ s / shape.nx / shape.ny = omega arith in
    sym (root_from_coordinates shape.nx shape.ny r) ∙ rw (x, y, z) (root_from_coordinates shape.nx shape.ny s)

-- ---- nesting

-- the second list goes on where the first ends
abbrev pub Continues : List ℕ → List ℕ → Type 0
Continues ds es = (rest : List ℕ) × (es ≡ ds ++ rest)

-- narrowed cubes that hold one voxel: one list continues the other
pub continues_from_holds : (ds es : List ℕ) (c : Cube) (v : Voxel) → All (λ o. o < 8) ds → All (λ o. o < 8) es → Holds (narrowed c ds) v → Holds (narrowed c es) v → Continues ds es ⊎ Continues es ds
continues_from_holds [] es c v p q h k = inl (es, refl)
continues_from_holds (d ∷ ds) [] c v p q h k = inr (d ∷ ds, refl)
continues_from_holds (d ∷ ds) (e ∷ es) c v p q h k =
    joined (continues_from_holds ds es (halved c d) v p' q' h (rw (← same) at k))
  where
    p' : All (λ o. o < 8) ds
    p' = All-tail (λ o. o < 8) d ds p

    q' : All (λ o. o < 8) es
    q' = All-tail (λ o. o < 8) e es q

    same : d ≡ e
    same = halved_is_one c v d e (All-head (λ o. o < 8) d ds p) (All-head (λ o. o < 8) e es q)
        (Holds-within (narrowed (halved c d) ds) (halved c d) v (narrowed_within ds (halved c d) p') h)
        (Holds-within (narrowed (halved c e) es) (halved c e) v (narrowed_within es (halved c e) q') k)

    joined : Continues ds es ⊎ Continues es ds → Continues (d ∷ ds) (e ∷ es) ⊎ Continues (e ∷ es) (d ∷ ds)
    joined (inl (rest, goes)) = inl (rest, cc same)
    joined (inr (rest, goes)) = inr (rest, cc same)

-- boxes that hold one voxel: one block begins the other
pub begins_from_holds : (shape : Shape) (i j : BlockId) (v : Voxel) → IsShape shape → IsId i → IsId j → Holds (box_of shape i) v → Holds (box_of shape j) v → Begins i j ⊎ Begins j i
begins_from_holds shape i j v is p q h k =
    joined (continues_from_holds i.digits j.digits (root_cube shape i.root) v p.octal q.octal h (rw (← same) at k))
  where
    same : i.root ≡ j.root
    same = root_is_one shape i.root j.root v
        (Holds-within (box_of shape i) (root_cube shape i.root) v (narrowed_within i.digits (root_cube shape i.root) p.octal) h)
        (Holds-within (box_of shape j) (root_cube shape j.root) v (narrowed_within j.digits (root_cube shape j.root) q.octal) k)

    joined : Continues i.digits j.digits ⊎ Continues j.digits i.digits → Begins i j ⊎ Begins j i
    joined (inl more) = inl (same, more)
    joined (inr more) = inr (sym same, more)

-- a block lies in what begins it
pub begins_within : (shape : Shape) (i j : BlockId) → IsId j → Begins i j → Within (box_of shape j) (box_of shape i)
begins_within shape i j is begins =
    let rest = begins.1.0 in
    let goes : j.digits ≡ i.digits ++ rest = begins.1.1 in
    let octal : All (λ o. o < 8) rest = All-end (λ o. o < 8) i.digits rest (rw goes at is.octal) in
    rw (← begins.0, goes, narrowed-append i.digits rest (root_cube shape i.root)) (narrowed_within rest (box_of shape i) octal)

-- of two lists one continues the other, or neither does
pub continues_cases : (ds es : List ℕ) → Continues ds es ⊎ Continues es ds ⊎ (Continues ds es ⊎ Continues es ds → ⊥)
continues_cases [] es = inl (es, refl)
continues_cases (d ∷ ds) [] = inr (inl (d ∷ ds, refl))
continues_cases (d ∷ ds) (e ∷ es) = joined (cases_eq d e) (continues_cases ds es)
  where
    joined : (d ≡ e) ⊎ (d ≡ e → ⊥) → Continues ds es ⊎ Continues es ds ⊎ (Continues ds es ⊎ Continues es ds → ⊥) → Continues (d ∷ ds) (e ∷ es) ⊎ Continues (e ∷ es) (d ∷ ds) ⊎ (Continues (d ∷ ds) (e ∷ es) ⊎ Continues (e ∷ es) (d ∷ ds) → ⊥)
    joined (inl same) (inl (rest, goes)) = inl (rest, cc)
    joined (inl same) (inr (inl (rest, goes))) = inr (inl (rest, cc))
    joined (inl same) (inr (inr part)) = inr (inr (elim [ inl (rest, goes) ↦ part (inl (rest, cc)) | inr (rest, goes) ↦ part (inr (rest, cc)) ]))
    joined (inr other) tails = inr (inr (elim [ inl (rest, goes) ↦ other cc | inr (rest, goes) ↦ other cc ]))

-- of two blocks one begins the other, or neither does
pub begins_cases : (i j : BlockId) → Begins i j ⊎ Begins j i ⊎ (Begins i j ⊎ Begins j i → ⊥)
begins_cases i j = joined (cases_eq i.root j.root) (continues_cases i.digits j.digits)
  where
    joined : (i.root ≡ j.root) ⊎ (i.root ≡ j.root → ⊥) → Continues i.digits j.digits ⊎ Continues j.digits i.digits ⊎ (Continues i.digits j.digits ⊎ Continues j.digits i.digits → ⊥) → Begins i j ⊎ Begins j i ⊎ (Begins i j ⊎ Begins j i → ⊥)
    joined (inl same) (inl more) = inl (same, more)
    joined (inl same) (inr (inl more)) = inr (inl (sym same, more))
    joined (inl same) (inr (inr part)) = inr (inr (elim [ inl begins ↦ part (inl begins.1) | inr begins ↦ part (inr begins.1) ]))
    joined (inr other) tails = inr (inr (elim [ inl begins ↦ other begins.0 | inr begins ↦ other (sym begins.0) ]))

-- boxes lie apart, or one in the other
pub nest_or_apart : (shape : Shape) (i j : BlockId) → IsShape shape → IsId i → IsId j → Apart (box_of shape i) (box_of shape j) ⊎ Within (box_of shape i) (box_of shape j) ⊎ Within (box_of shape j) (box_of shape i)
nest_or_apart shape i j is p q = by (begins_cases i j)
  where
    by : Begins i j ⊎ Begins j i ⊎ (Begins i j ⊎ Begins j i → ⊥) → Apart (box_of shape i) (box_of shape j) ⊎ Within (box_of shape i) (box_of shape j) ⊎ Within (box_of shape j) (box_of shape i)
    by (inl begins) = inr (inr (begins_within shape i j q begins))
    by (inr (inl begins)) = inr (inl (begins_within shape j i p begins))
    by (inr (inr part)) = inl (λ v h k. part (begins_from_holds shape i j v is p q h k))

-- the domain holds what the box of one of its blocks holds
pub domain_holds : (shape : Shape) (i : BlockId) (v : Voxel) → IsShape shape → IsId i → InShape shape i → Holds (box_of shape i) v → InDomain shape v
domain_holds shape i v is p at inside =
    domain_holds_root shape i.root v is at (Holds-within (box_of shape i) (root_cube shape i.root) v (narrowed_within i.digits (root_cube shape i.root) p.octal) inside)

-- the voxel at the low corner of a cube
abbrev pub corner_of : Cube → Voxel
corner_of c = record { x = c.x; y = c.y; z = c.z }

-- a box holds its corner
pub holds_corner : (shape : Shape) (i : BlockId) → level_of i ≤ 4 → Holds (box_of shape i) (corner_of (box_of shape i))
holds_corner shape i h =
    let m : ℕ = 4 - level_of i in
    let left : level_of i + m ≡ 4 = omega arith in
    omega (arith, edge-box shape i m left, pow_pos m)
