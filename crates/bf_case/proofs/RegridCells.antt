-- What a regrid does to cells: a kept leaf keeps them, a refined leaf gives its octants, and a merging octet its means.
use Rattle.std.proofs.Common.{◌≡◌, ℕ, ◌+◌, ◌-◌, ◌*◌, ◌/◌, ◌%◌, ◌^◌, ◌<◌, ◌≤◌, true, false, eqb, ◌&&◌, List, Some, Contains, sym, ap, subst, ◌∙◌, arith, pow-add, pow_pos}
use Rattle.std.specs.Prelude.{nat_le}
use Rattle.std.specs.Option.{option_map_or}
use Rattle.std.proofs.Math.Nat.{div-div-eq-div-mul, mul-div_cancel, div-add-mod}
use Rattle.std.proofs.lemmas.Nat.{shl-shr, div_below, mod_below}
use Rattle.std.proofs.lemmas.Bool.{cond-true, cond-false, le-leb, lt-leb}
use Rattle.std.proofs.lemmas.Bool.Decides.{nat_tests}
use Rattle.std.proofs.lemmas.List.Elements.{All-contains}
use Rattle.bf_case.proofs.FinestLemmas.{mean_same}
use Rattle.bf_id.specs.declared.shape.Shape.{Shape}
use Rattle.bf_id.specs.Cube.{Cube, Voxel}
use Rattle.bf_id.specs.Id.{BlockId, level_of, child_of, box_of}
use Rattle.bf_id.proofs.Boxes.{edge-box, box-child, level-child, parent_holds}
use Rattle.bf_cells.specs.Grid.{Grid, cell_at, table}
use Rattle.bf_cells.specs.Octant.{octant_x, octant_y, octant_z, octant_copy_of, mean_at}
use Rattle.bf_cells.proofs.GridLemmas.{same_tables}
use Rattle.bf_case.specs.Map.{Leaf, HasCells, IsMap}
use Rattle.bf_case.specs.Sample.{scale_of, unit_of, moved, corner_of, cell_corner, leaf_at, value_at, mean_of_eight, sample_of, sample}
use Rattle.bf_case.specs.Regrid.{octant_at, merged_grid, sampled_leaf}
use Rattle.bf_case.proofs.SampleLemmas.{own_cell_held, leaf_holding, id_of_leaf, own_leaf}

-- ---- one axis

-- a cell of a child lies in this cell of its parent
octant_axis : (side low high scale coarse step x : ℕ) → side % 2 ≡ 0 → 0 < scale → high ≡ low + step * scale → coarse ≡ scale * 2
    → (side * high + x * scale - side * low) / coarse ≡ step * (side / 2) + x / 2
octant_axis side low high scale coarse step x even some high_is coarse_is =
    let half : ℕ = side / 2 in
    let twice : side ≡ half + half = omega arith in
    let offset : side * (low + step * scale) + x * scale - side * low ≡ (side * step + x) * scale = omega arith in
    let halves : (side * step + x) * scale / (scale * 2) ≡ (side * step + x) / 2 =
    sym (div-div-eq-div-mul ((side * step + x) * scale) scale 2) ∙ ap (λ n. n / 2) (mul-div_cancel (side * step + x) some) in
    let parts : side * step + x ≡ step * half * 2 + x = ap (λ s. s * step + x) twice ∙ omega arith in
    rw (high_is, coarse_is) (ap (λ n. n / (scale * 2)) offset ∙ halves ∙ ap (λ n. n / 2) parts ∙ omega arith)

-- a cell of a parent begins where a cell of the child in whose octant it lies begins
corner_axis : (side half low high scale coarse x : ℕ) → side ≡ half + half → high ≡ low + x / half * scale → coarse ≡ scale * 2
    → side * low + x * coarse ≡ side * high + 2 * (x % half) * scale
corner_axis side half low high scale coarse x twice high_is coarse_is =
    let q : ℕ = x / half in
    let r : ℕ = x % half in
    let whole : half * q + r ≡ x = div-add-mod x half in
    let parts : (half + half) * low + (half * q + r) * (scale * 2) ≡ (half + half) * (low + q * scale) + 2 * r * scale = omega arith in
    rw (high_is, coarse_is, twice) (ap (λ n. (half + half) * low + n * (scale * 2)) (sym whole) ∙ parts)

-- so many finest cells beyond a cell of a block lies this cell
moved_axis : (corner n more x level : ℕ) → n + more ≡ x * scale_of level → (corner + n + more - corner) / scale_of level ≡ x
moved_axis corner n more x level e =
    let less : corner + n + more - corner ≡ n + more = omega arith in
    rw (less, e) (shl-shr x (4 - level))

-- ---- a parent and its children

-- a cell of a parent is twice as wide as one of a child
scale_of-parent : (i : BlockId) (o : ℕ) → level_of i < 4 → scale_of (level_of i) ≡ scale_of (level_of (child_of i o)) * 2
scale_of-parent i o above =
    let m : ℕ = 4 - level_of (child_of i o) in
    let more : 4 - level_of i ≡ m + 1 = omega (arith, level-child i o) in
    ap (λ k. 2 ^ k) more ∙ pow-add 2 m 1

-- half the edge of a parent's box is as long as the edge of a child's
half_edge : (shape : Shape) (i : BlockId) (o : ℕ) → level_of i < 4 → (box_of shape i).edge / 2 ≡ scale_of (level_of (child_of i o))
half_edge shape i o above =
    let m : ℕ = 4 - level_of (child_of i o) in
    let whole : (box_of shape i).edge ≡ 2 ^ m * 2 = edge-box shape i (m + 1) (omega (arith, level-child i o)) ∙ pow-add 2 m 1 in
    omega (arith, whole)

-- where the box of a child begins
record BeginsChild (shape : Shape) (i : BlockId) (o : ℕ) : Type 0 where
  along_x : (box_of shape (child_of i o)).x ≡ (box_of shape i).x + octant_x o * scale_of (level_of (child_of i o))
  along_y : (box_of shape (child_of i o)).y ≡ (box_of shape i).y + octant_y o * scale_of (level_of (child_of i o))
  along_z : (box_of shape (child_of i o)).z ≡ (box_of shape i).z + octant_z o * scale_of (level_of (child_of i o))

child_begins : (shape : Shape) (i : BlockId) (o : ℕ) → level_of i < 4 → BeginsChild shape i o
child_begins shape i o above =
    let box : Cube = box_of shape i in
    let half = half_edge shape i o above in
    record {
      along_x = ap (λ (c : Cube). c.x) (box-child shape i o) ∙ ap (λ e. box.x + octant_x o * e) half;
      along_y = ap (λ (c : Cube). c.y) (box-child shape i o) ∙ ap (λ e. box.y + octant_y o * e) half;
      along_z = ap (λ (c : Cube). c.z) (box-child shape i o) ∙ ap (λ e. box.z + octant_z o * e) half;
    }

-- the scale of a level is positive
scale_some : (level : ℕ) → 0 < scale_of level
scale_some level = pow_pos (4 - level)

-- ---- a refined leaf

-- the value of a leaf at a cell of its child
child_value : (shape : Shape) (side : ℕ) (leaf : Leaf) (o x y z : ℕ) → side % 2 ≡ 0 → level_of leaf.0 < 4
    → value_at shape side leaf (cell_corner shape side (child_of leaf.0 o) x y z)
    ≡ cell_at leaf.1 (octant_x o * (side / 2) + x / 2) (octant_y o * (side / 2) + y / 2) (octant_z o * (side / 2) + z / 2)
child_value shape side leaf o x y z even above =
    let i : BlockId = leaf.0 in
    let p : Voxel = cell_corner shape side (child_of i o) x y z in
    let corner : Voxel = corner_of shape side i in
    let coarse = scale_of (level_of i) in
    let scale = scale_of (level_of (child_of i o)) in
    let begins = child_begins shape i o above in
    let wider = scale_of-parent i o above in
    let some = scale_some (level_of (child_of i o)) in
    let ex = octant_axis side _ _ scale coarse (octant_x o) x even some begins.along_x wider in
    let ey = octant_axis side _ _ scale coarse (octant_y o) y even some begins.along_y wider in
    let ez = octant_axis side _ _ scale coarse (octant_z o) z even some begins.along_z wider in
    ap (λ a. cell_at leaf.1 a ((p.y - corner.y) / coarse) ((p.z - corner.z) / coarse)) ex
    ∙ ap (λ a. cell_at leaf.1 (octant_x o * (side / 2) + x / 2) a ((p.z - corner.z) / coarse)) ey
    ∙ ap (λ a. cell_at leaf.1 (octant_x o * (side / 2) + x / 2) (octant_y o * (side / 2) + y / 2) a) ez

-- the leaf that has a cell of a leaf's child is that leaf
leaf_of_child : (shape : Shape) (side : ℕ) (leaves : List Leaf) (leaf : Leaf) (o x y z : ℕ) → 0 < side → IsMap shape side leaves → Contains leaves leaf
    → level_of leaf.0 < 4 → o < 8 → x < side → y < side → z < side
    → leaf_at shape side leaves (cell_corner shape side (child_of leaf.0 o) x y z) ≡ Some leaf
leaf_of_child shape side leaves leaf o x y z some is has above octal hx hy hz =
    let p : Voxel = cell_corner shape side (child_of leaf.0 o) x y z in
    leaf_holding shape side leaves leaf p is has
    (parent_holds shape leaf.0 o (unit_of side p) octal
    (own_cell_held shape side (child_of leaf.0 o) x y z some (omega (arith, level-child leaf.0 o)) hx hy hz))

-- the sample at a cell of a leaf's child is a cell of the leaf
child_sample : (shape : Shape) (side : ℕ) (leaves : List Leaf) (leaf : Leaf) (o x y z : ℕ) → side % 2 ≡ 0 → IsMap shape side leaves → Contains leaves leaf
    → level_of leaf.0 < 4 → o < 8 → x < side → y < side → z < side
    → sample shape side leaves (level_of (child_of leaf.0 o)) (cell_corner shape side (child_of leaf.0 o) x y z)
    ≡ cell_at leaf.1 (octant_x o * (side / 2) + x / 2) (octant_y o * (side / 2) + y / 2) (octant_z o * (side / 2) + z / 2)
unfolding sample
child_sample shape side leaves leaf o x y z even is has above octal hx hy hz =
    let level = level_of (child_of leaf.0 o) in
    let p : Voxel = cell_corner shape side (child_of leaf.0 o) x y z in
    let coarser : nat_le (level_of leaf.0) level ≡ true = le-leb (level_of leaf.0) level (omega (arith, level-child leaf.0 o)) in
    ap (λ l. option_map_or (sample_of shape side level p) l 0) (leaf_of_child shape side leaves leaf o x y z (omega arith) is has above octal hx hy hz)
    ∙ cond-true (nat_le (level_of leaf.0) level) (value_at shape side leaf p) (mean_of_eight shape side leaf p) coarser
    ∙ child_value shape side leaf o x y z even above

-- the side of a leaf's cells
record IsSide (side : ℕ) (g : Grid) : Type 0 where
  fits : g.side ≡ side
  even : side % 2 ≡ 0
  wide : 2 ≤ side

side_of_leaf : (shape : Shape) (side : ℕ) (leaves : List Leaf) (leaf : Leaf) → IsMap shape side leaves → Contains leaves leaf → IsSide side leaf.1
side_of_leaf shape side leaves leaf is has =
    let cells : HasCells side leaf = All-contains (HasCells side) leaves leaf is.cells has in
    record { fits = cells.fits; even = subst (λ s. s % 2 ≡ 0) cells.fits cells.valid.even; wide = omega (arith, cells.fits, cells.valid.low) }

-- a refined leaf gives its octants
pub sampled_leaf-child : (shape : Shape) (side : ℕ) (leaves : List Leaf) (i : BlockId) (g : Grid) (o : ℕ) → IsMap shape side leaves → Contains leaves (i, g)
    → level_of i < 4 → o < 8 → sampled_leaf shape side leaves (child_of i o) ≡ (child_of i o, octant_copy_of g o)
unfolding octant_copy_of
sampled_leaf-child shape side leaves i g o is has above octal =
    let leaf : Leaf = (i, g) in
    let cells = side_of_leaf shape side leaves leaf is has in
    let copied : ℕ → ℕ → ℕ → ℕ → ℕ = λ s x y z. cell_at g (octant_x o * (s / 2) + x / 2) (octant_y o * (s / 2) + y / 2) (octant_z o * (s / 2) + z / 2) in
    let same = same_tables side (λ x y z. sample shape side leaves (level_of (child_of i o)) (cell_corner shape side (child_of i o) x y z)) (copied side)
    (λ x y z hx hy hz. child_sample shape side leaves leaf o x y z cells.even is has above octal hx hy hz) in
    let sided : table side (copied side) ≡ table g.side (copied g.side) = ap (λ s. table s (copied s)) (sym cells.fits) in
    let with : Grid → Leaf = λ h. (child_of i o, h) in
    ap with (same ∙ sided)

-- ---- a merging octet

-- the value of a leaf so many finest cells beyond one of its cells
value_beyond : (shape : Shape) (side : ℕ) (leaf : Leaf) (x y z a b c x' y' z' : ℕ)
    → x * scale_of (level_of leaf.0) + a ≡ x' * scale_of (level_of leaf.0)
    → y * scale_of (level_of leaf.0) + b ≡ y' * scale_of (level_of leaf.0)
    → z * scale_of (level_of leaf.0) + c ≡ z' * scale_of (level_of leaf.0)
    → value_at shape side leaf (moved (cell_corner shape side leaf.0 x y z) a b c) ≡ cell_at leaf.1 x' y' z'
value_beyond shape side leaf x y z a b c x' y' z' hx hy hz =
    let level = level_of leaf.0 in
    let corner : Voxel = corner_of shape side leaf.0 in
    let p : Voxel = moved (cell_corner shape side leaf.0 x y z) a b c in
    let ex = moved_axis corner.x (x * scale_of level) a x' level hx in
    let ey = moved_axis corner.y (y * scale_of level) b y' level hy in
    let ez = moved_axis corner.z (z * scale_of level) c z' level hz in
    ap (λ n. cell_at leaf.1 n ((p.y - corner.y) / scale_of level) ((p.z - corner.z) / scale_of level)) ex
    ∙ ap (λ n. cell_at leaf.1 x' n ((p.z - corner.z) / scale_of level)) ey
    ∙ ap (λ n. cell_at leaf.1 x' y' n) ez

same_voxel : (p q : Voxel) → p.x ≡ q.x → p.y ≡ q.y → p.z ≡ q.z → p ≡ q
same_voxel p q ex ey ez = λ k. record { x = ex k; y = ey k; z = ez k }

-- the mean of the eight cells of a leaf that begin at a cell with even coordinates
own_mean : (shape : Shape) (side : ℕ) (leaf : Leaf) (x y z : ℕ)
    → mean_of_eight shape side leaf (cell_corner shape side leaf.0 (2 * x) (2 * y) (2 * z)) ≡ mean_at leaf.1 x y z
own_mean shape side leaf x y z =
    let scale = scale_of (level_of leaf.0) in
    let p : Voxel = cell_corner shape side leaf.0 (2 * x) (2 * y) (2 * z) in
    let stay : (n : ℕ) → 2 * n * scale + 0 ≡ 2 * n * scale = λ n. omega arith in
    let next : (n : ℕ) → 2 * n * scale + scale ≡ (2 * n + 1) * scale = λ n. omega arith in
    let at : (a b c x' y' z' : ℕ) → 2 * x * scale + a ≡ x' * scale → 2 * y * scale + b ≡ y' * scale → 2 * z * scale + c ≡ z' * scale
    → value_at shape side leaf (moved p a b c) ≡ cell_at leaf.1 x' y' z' = value_beyond shape side leaf (2 * x) (2 * y) (2 * z) in
    let here : p ≡ moved p 0 0 0 = same_voxel p (moved p 0 0 0) (omega arith) (omega arith) (omega arith) in
    mean_same _ _ _ _ _ _ _ _ _ _ _ _ _ _ _ _
    (ap (value_at shape side leaf) here ∙ at 0 0 0 _ _ _ (stay x) (stay y) (stay z)) (at scale 0 0 _ _ _ (next x) (stay y) (stay z))
    (at 0 scale 0 _ _ _ (stay x) (next y) (stay z)) (at scale scale 0 _ _ _ (next x) (next y) (stay z))
    (at 0 0 scale _ _ _ (stay x) (stay y) (next z)) (at scale 0 scale _ _ _ (next x) (stay y) (next z))
    (at 0 scale scale _ _ _ (stay x) (next y) (next z)) (at scale scale scale _ _ _ (next x) (next y) (next z))

-- the octant of a cell
pub record IsOctant (half x y z : ℕ) : Type 0 where
  pub octal : octant_at half x y z < 8
  pub along_x : octant_x (octant_at half x y z) ≡ x / half
  pub along_y : octant_y (octant_at half x y z) ≡ y / half
  pub along_z : octant_z (octant_at half x y z) ≡ z / half

pub octant_is : (half x y z : ℕ) → 0 < half → x < 2 * half → y < 2 * half → z < 2 * half → IsOctant half x y z
octant_is half x y z some hx hy hz =
    let a : x / half < 2 = div_below x half 2 some hx in
    let b : y / half < 2 = div_below y half 2 some hy in
    let c : z / half < 2 = div_below z half 2 some hz in
    record { octal = omega arith; along_x = omega arith; along_y = omega arith; along_z = omega arith }

-- the number of an octant, told by its three steps
octant_test : (a b c p q r : ℕ) → a < 2 → b < 2 → c < 2 → p < 2 → q < 2 → r < 2
    → (eqb a p && eqb b q && eqb c r) ≡ eqb (a + 2 * b + 4 * c) (p + 2 * q + 4 * r)
octant_test a b c p q r ha hb hc hp hq hr = grind (arith, nat_tests)

-- a cell lies in the octant of its number
pub in_octant_is : (half o x y z : ℕ) → IsOctant half x y z → o < 8
    → (eqb (x / half) (octant_x o) && eqb (y / half) (octant_y o) && eqb (z / half) (octant_z o)) ≡ eqb (octant_at half x y z) o
in_octant_is half o x y z is octal =
    let a : x / half < 2 = omega (arith, is.along_x) in
    let b : y / half < 2 = omega (arith, is.along_y) in
    let c : z / half < 2 = omega (arith, is.along_z, is.octal) in
    let number : octant_x o + 2 * octant_y o + 4 * octant_z o ≡ o = omega arith in
    octant_test (x / half) (y / half) (z / half) (octant_x o) (octant_y o) (octant_z o) a b c (omega arith) (omega arith) (omega arith)
    ∙ ap (eqb (octant_at half x y z)) number

-- a cell of a parent begins where a cell of its child begins
corner_in_child : (shape : Shape) (side half : ℕ) (i : BlockId) (x y z : ℕ) → side ≡ half + half → level_of i < 4 → IsOctant half x y z
    → cell_corner shape side i x y z ≡ cell_corner shape side (child_of i (octant_at half x y z)) (2 * (x % half)) (2 * (y % half)) (2 * (z % half))
corner_in_child shape side half i x y z twice above octant =
    let o : ℕ = octant_at half x y z in
    let coarse = scale_of (level_of i) in
    let scale = scale_of (level_of (child_of i o)) in
    let begins = child_begins shape i o above in
    let wider = scale_of-parent i o above in
    let box : Cube = box_of shape i in
    let ex = corner_axis side half box.x _ scale coarse x twice (begins.along_x ∙ ap (λ n. box.x + n * scale) octant.along_x) wider in
    let ey = corner_axis side half box.y _ scale coarse y twice (begins.along_y ∙ ap (λ n. box.y + n * scale) octant.along_y) wider in
    let ez = corner_axis side half box.z _ scale coarse z twice (begins.along_z ∙ ap (λ n. box.z + n * scale) octant.along_z) wider in
    same_voxel (cell_corner shape side i x y z) (cell_corner shape side (child_of i o) (2 * (x % half)) (2 * (y % half)) (2 * (z % half))) ex ey ez

-- what a child says of the cell of its parent that is the mean of eight of its own
child_mean : (shape : Shape) (side : ℕ) (i : BlockId) (o : ℕ) (g : Grid) (x y z : ℕ)
    → sample_of shape side (level_of i) (cell_corner shape side (child_of i o) (2 * x) (2 * y) (2 * z)) (child_of i o, g) ≡ mean_at g x y z
child_mean shape side i o g x y z =
    let leaf : Leaf = (child_of i o, g) in
    let p : Voxel = cell_corner shape side (child_of i o) (2 * x) (2 * y) (2 * z) in
    let finer : nat_le (level_of (child_of i o)) (level_of i) ≡ false = lt-leb (level_of (child_of i o)) (level_of i) (omega (arith, level-child i o)) in
    cond-false (nat_le (level_of (child_of i o)) (level_of i)) (value_at shape side leaf p) (mean_of_eight shape side leaf p) finer
    ∙ own_mean shape side leaf x y z

-- the sample at a cell of a parent whose eight children are leaves
parent_sample : (shape : Shape) (side half : ℕ) (leaves : List Leaf) (i : BlockId) (g : ℕ → Grid) (x y z : ℕ) → side ≡ half + half → 0 < half
    → IsMap shape side leaves → level_of i < 4 → ((o : ℕ) → o < 8 → Contains leaves (child_of i o, g o)) → x < side → y < side → z < side
    → sample shape side leaves (level_of i) (cell_corner shape side i x y z) ≡ mean_at (g (octant_at half x y z)) (x % half) (y % half) (z % half)
unfolding sample
parent_sample shape side half leaves i g x y z twice some is above octet hx hy hz =
    let o : ℕ = octant_at half x y z in
    let octant = octant_is half x y z some (omega arith) (omega arith) (omega arith) in
    let level = level_of i in
    let below : (n : ℕ) → 2 * (n % half) < side = λ n. omega (arith, mod_below n half some) in
    let found = own_leaf shape side leaves (child_of i o, g o) (2 * (x % half)) (2 * (y % half)) (2 * (z % half)) (omega arith) is (octet o octant.octal)
    (below x) (below y) (below z) in
    let corner = corner_in_child shape side half i x y z twice above octant in
    ap (λ p. option_map_or (sample_of shape side level p) (leaf_at shape side leaves p) 0) corner
    ∙ ap (λ l. option_map_or (sample_of shape side level (cell_corner shape side (child_of i o) (2 * (x % half)) (2 * (y % half)) (2 * (z % half)))) l 0) found
    ∙ child_mean shape side i o (g o) (x % half) (y % half) (z % half)

-- a block whose children are leaves lies above the finest level of all
pub parent_above : (shape : Shape) (side : ℕ) (leaves : List Leaf) (i : BlockId) (o : ℕ) (g : Grid) → IsMap shape side leaves → Contains leaves (child_of i o, g)
    → level_of i < 4
parent_above shape side leaves i o g is has =
    omega (arith, level-child i o, (id_of_leaf shape side leaves (child_of i o, g) is has).shallow)

-- a merging octet gives its means
pub sampled_leaf-parent : (shape : Shape) (side : ℕ) (leaves : List Leaf) (i : BlockId) (g : ℕ → Grid) → IsMap shape side leaves
    → ((o : ℕ) → o < 8 → Contains leaves (child_of i o, g o)) → sampled_leaf shape side leaves i ≡ (i, merged_grid side g)
unfolding merged_grid
sampled_leaf-parent shape side leaves i g is octet =
    let half : ℕ = side / 2 in
    let cells = side_of_leaf shape side leaves (child_of i 0, g 0) is (octet 0 (omega arith)) in
    let twice : side ≡ half + half = omega (arith, cells.even) in
    let some : 0 < half = omega (arith, cells.wide) in
    let above = parent_above shape side leaves i 0 (g 0) is (octet 0 (omega arith)) in
    let with : Grid → Leaf = λ h. (i, h) in
    ap with (same_tables side (λ x y z. sample shape side leaves (level_of i) (cell_corner shape side i x y z))
    (λ x y z. mean_at (g (octant_at half x y z)) (x % half) (y % half) (z % half))
    (λ x y z hx hy hz. parent_sample shape side half leaves i g x y z twice some is above octet hx hy hz))
