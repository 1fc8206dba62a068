-- Shells that are filled: which strips a block of a map needs, and what is beside it once they are laid.
use Rattle.std.specs.Prelude.{◌≡◌, ℕ, ◌<◌, true, false, All, Contains, List}
use Rattle.bf_face.specs.declared.face.Face.{Face}
use Rattle.bf_id.specs.declared.shape.Shape.{Shape}
use Rattle.bf_id.specs.Face.{SharesFace}
use Rattle.bf_id.specs.Id.{BlockId, box_of}
use Rattle.bf_id.specs.Neighbours.{IsAtEdge}
use Rattle.bf_cells.specs.Grid.{Grid}
use Rattle.bf_cells.specs.Shell.{Walls, wall_at}
use Rattle.bf_case.specs.Beside.{value_beside, HoldsBeside}
use Rattle.bf_case.specs.Halves.{is_opposite}
use Rattle.bf_case.specs.Map.{Leaf}
use Rattle.bf_ghost.specs.Strips.{strip_of, StripValue}

-- the strip of a leaf of a map that shares a face with this block
pub record IsStripFor (shape : Shape) (leaves : List Leaf) (i : BlockId) (strip : StripValue) : Type 0 where
  pub leaf : Leaf
  pub in_map : Contains leaves leaf
  pub share : SharesFace shape strip.face (box_of shape i) (box_of shape leaf.0)
  pub told : strip ≡ strip_of leaf strip.face i

-- the strips of all leaves that share a face with this block, and no others, in any order
pub record AreStripsFor (shape : Shape) (leaves : List Leaf) (i : BlockId) (strips : List StripValue) : Type 0 where
  pub fit : All (IsStripFor shape leaves i) strips
  pub whole : (leaf : Leaf) (face : Face) → Contains leaves leaf → SharesFace shape face (box_of shape i) (box_of shape leaf.0)
      → Contains strips (strip_of leaf face i)

-- beside each cell at which a strip lies, the walls hold what lies there in the map
abbrev pub HoldsPart : Shape → List Leaf → BlockId → Grid → Walls → StripValue → Type 0
HoldsPart shape leaves i g walls strip =
    (a b : ℕ) → a < g.side → b < g.side → is_opposite g.side strip.face i strip.source a b ≡ true
    → wall_at walls strip.face a b ≡ value_beside shape leaves i g strip.face a b

-- every value stays but those beside cells at which a strip lies
abbrev pub KeepsRest : ℕ → BlockId → StripValue → Walls → Walls → Type 0
KeepsRest side i strip old new =
    (face : Face) (a b : ℕ) → a < side → b < side → (face ≡ strip.face → is_opposite side strip.face i strip.source a b ≡ false)
    → wall_at new face a b ≡ wall_at old face a b

-- the walls hold what lies beside those faces that are at the domain's edge
abbrev pub HoldEdges : Shape → List Leaf → BlockId → Grid → Walls → Type 0
HoldEdges shape leaves i g walls = (face : Face) → IsAtEdge shape (box_of shape i) face → HoldsBeside shape leaves i g walls face
