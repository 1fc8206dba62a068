-- Regridding: refined leaves give way to their children and merging octets to their parents.
use Rattle.std.specs.Prelude.{ℕ, ◌+◌, ◌*◌, ◌/◌, ◌%◌, ◌==◌, ◌&&◌, nat_lt, if◌then◌else◌, List, [], ◌∷◌, map, flat_map}
use Rattle.bf_case.specs.declared.target.Target.{Target}
use Rattle.bf_case.specs.declared.target.Target.TheVariants.{Keep, Refine, Merge}
use Rattle.bf_id.specs.declared.shape.Shape.{Shape}
use Rattle.bf_id.specs.Id.{BlockId, level_of, parent_of, octant_of, children_of}
use Rattle.bf_cells.specs.Grid.{Grid, table}
use Rattle.bf_cells.specs.Octant.{mean_at}
use Rattle.bf_case.specs.declared.case.Case.{Case}
use Rattle.bf_case.specs.Map.{Leaf, ids_of}
use Rattle.bf_case.specs.Sample.{cell_corner, sample}
use Rattle.bf_case.specs.Wishes.{Wishes, wishes_of}
use Rattle.bf_case.specs.Refinement.{is_among, refined_ids}
use Rattle.bf_case.specs.Merging.{merges}

-- what becomes of a leaf: it is refined, or its octet merges, or neither
abbrev pub target_of : Shape → List BlockId → Wishes → BlockId → Target
target_of shape ids w i =
    let refined = refined_ids shape ids w in
    if is_among refined i then Refine
    else (if nat_lt 0 (level_of i) && merges shape ids w refined (parent_of i) then Merge else Keep)

-- what becomes of a leaf of a map
abbrev pub target_in : Case → List Leaf → BlockId → Target
target_in c leaves i = target_of c.roots (ids_of leaves) (wishes_of c leaves) i

-- the new leaves that stand where an old one stood: its children, or its parent where it is the first of a merging octet and nothing where it is
-- another of them, or itself
abbrev pub heirs_by : Target → BlockId → List BlockId
heirs_by Keep i = i ∷ []
heirs_by Refine i = children_of i
heirs_by Merge i = if octant_of i == 0 then parent_of i ∷ [] else []

abbrev pub heirs_of : Shape → List BlockId → Wishes → BlockId → List BlockId
heirs_of shape ids w i = heirs_by (target_of shape ids w i) i

-- the leaves after a regrid, in their order
unfoldable pub regridded_ids : Shape → List BlockId → Wishes → List BlockId
regridded_ids shape ids w = flat_map (heirs_of shape ids w) ids

-- a leaf whose every cell is the sample of a map there
abbrev pub sampled_leaf : Shape → ℕ → List Leaf → BlockId → Leaf
sampled_leaf shape side leaves i =
    (i, table side (λ x y z. sample shape side leaves (level_of i) (cell_corner shape side i x y z)))

-- the map after a regrid
unfoldable pub regrid : Case → List Leaf → List Leaf
regrid c leaves =
    map (sampled_leaf c.roots c.side leaves) (regridded_ids c.roots (ids_of leaves) (wishes_of c leaves))

-- the octant in which a cell of a cube lies, by half the cube's side
abbrev pub octant_at : ℕ → ℕ → ℕ → ℕ → ℕ
octant_at half x y z = x / half + 2 * (y / half) + 4 * (z / half)

-- the cells of the parent into which eight leaves merge, where the leaves' cells are told by octant: the octant of each leaf has the means, rounded
-- down, of each eight of its cells that form a cube
unfoldable pub merged_grid : ℕ → (ℕ → Grid) → Grid
merged_grid side child =
    let half = side / 2 in
    table side (λ x y z. mean_at (child (octant_at half x y z)) (x % half) (y % half) (z % half))
