-- A map with its chart, and the leaves across the faces of its leaves.
use Rattle.std.specs.Prelude.{◌≡◌, ◌≢◌, ◌+◌, ◌≤◌, List, Contains}
use Rattle.bf_id.specs.Cube.{Cube}
use Rattle.bf_id.specs.Id.{BlockId, box_of, level_of}
use Rattle.bf_face.specs.declared.face.Face.{Face}
use Rattle.bf_cells.specs.Grid.{Grid}
use Rattle.bf_cells.specs.Shell.{Walls, wall_of}
use Rattle.bf_case.specs.declared.case.Case.{Case}
use Rattle.bf_case.specs.Beside.{LiesAcross}
use Rattle.bf_case.specs.Case.{IsValid}
use Rattle.bf_case.specs.Map.{Leaf, IsBalancedMap, ids_of}
use Rattle.bf_plain.specs.Atlas.{Chart, Charts}

-- a balanced map of a valid case, with its chart
pub record IsCharted (c : Case) (leaves : List Leaf) (chart : Chart) : Type 0 where
  pub valid : IsValid c
  pub map : IsBalancedMap c leaves
  pub charts : Charts c.roots (ids_of leaves) chart

-- a leaf of such a map, with its box
pub record IsSite (c : Case) (leaves : List Leaf) (chart : Chart) (i : BlockId) (g : Grid) (box : Cube) : Type 0 where
  pub charted : IsCharted c leaves chart
  pub found : Contains leaves (i, g)
  pub boxed : box ≡ box_of c.roots i

-- a leaf across the face is one level finer
pub record IsFinerAcross (c : Case) (leaves : List Leaf) (i : BlockId) (g : Grid) (face : Face) : Type 0 where
  pub other : Leaf
  pub lies : LiesAcross c.roots c.side leaves (i, g) face 0 0 other
  pub finer : level_of other.0 ≡ level_of i + 1

-- the squares of the other faces stay
abbrev pub KeepsOthers : Walls → Walls → Face → Type 0
KeepsOthers old new face = (other : Face) → other ≢ face → wall_of new other ≡ wall_of old other
