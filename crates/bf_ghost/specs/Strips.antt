-- Strips: what a block tells of its cells to a block that shares a face with it.
use Rattle.std.specs.Prelude.{ℕ, ◌/◌, List}
use Rattle.std.specs.Ordering.{match_ordering, nat_cmp}
use Rattle.std.specs.declared.cmp.Ordering.{Ordering}
use Rattle.bf_face.specs.declared.face.Face.{Face}
use Rattle.bf_face.specs.Face.{opposite_of}
use Rattle.bf_id.specs.Id.{BlockId, level_of, octant_of}
use Rattle.bf_cells.specs.Grid.{Grid}
use Rattle.bf_cells.specs.Levels.{doubled_square, mean_values, quarter_values, square_at, with_quarter}
use Rattle.bf_cells.specs.Shell.{Walls, face_values, wall_of, with_wall}
use Rattle.bf_case.specs.Halves.{first_half, second_half}
use Rattle.bf_case.specs.Map.{Leaf}

-- what contracts see of a strip: who tells it to whom, the target's face on which the source lies, and the values, by the two other
-- coordinates of a cell on the face in the order x, y, z, the first fastest
pub record StripValue : Type 0 where
  pub source : BlockId
  pub target : BlockId
  pub face : Face
  pub values : List ℕ

-- how the level of one block stands to another's: `Less` where the first is coarser
abbrev pub level_cmp : BlockId → BlockId → Ordering
level_cmp i j = nat_cmp (level_of i) (level_of j)

-- how many values there are along the edge of a strip from one block to another, in blocks of this side
abbrev pub strip_side : ℕ → BlockId → BlockId → ℕ
strip_side side source target = match_ordering (level_cmp source target) (side / 2) side (side / 2)

-- the values of a strip. A block of the target's level tells its cells on the face; one that is coarser those on the quarter of its face
-- that covers the target's; one that is finer the means, rounded down, of each eight cells that form a cube next to its face
unfoldable pub strip_values : Grid → BlockId → BlockId → Face → List ℕ
strip_values h source target face =
    match_ordering (level_cmp source target)
    (quarter_values h (opposite_of face) (first_half face (octant_of target)) (second_half face (octant_of target)))
    (face_values h (opposite_of face))
    (mean_values h (opposite_of face))

-- what a leaf tells to a block, on whose face it lies
abbrev pub strip_of : Leaf → Face → BlockId → StripValue
strip_of leaf face target = record {
  source = leaf.0;
  target = target;
  face = face;
  values = strip_values leaf.1 leaf.0 target face;
}

-- the square beside a face after a strip was laid there. It is the strip's of one level; a coarser source has each value at four places,
-- and a finer one a quarter of the square
unfoldable pub laid_square : ℕ → StripValue → List ℕ → List ℕ
laid_square side strip old =
    match_ordering (level_cmp strip.source strip.target)
    (doubled_square side strip.values)
    strip.values
    (with_quarter side (first_half strip.face (octant_of strip.source)) (second_half strip.face (octant_of strip.source)) (square_at (side / 2) strip.values) old)

-- walls with a strip laid beside its target's face
abbrev pub with_strip : Walls → StripValue → Walls
with_strip w strip = with_wall w strip.face (laid_square w.side strip (wall_of w strip.face))
