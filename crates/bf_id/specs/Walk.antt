-- The order of ids as a walk through the octree.
use Rattle.std.specs.Prelude.{◌≡◌, ℕ, zero, suc, List, [], ◌∷◌, flat_map}
use Rattle.std.specs.declared.cmp.Ordering.TheVariants.{Less}
use Rattle.bf_id.specs.Id.{BlockId, id_cmp, children_of}

-- a block and all that lie at most so many levels below it: the block first, and then each child with what lies below it, by rising octant
unfoldable pub walk : ℕ → BlockId → List BlockId
walk zero i = i ∷ []
walk (suc levels) i = i ∷ flat_map (walk levels) (children_of i)

abbrev pub IsBefore : BlockId → BlockId → Type 0
IsBefore i j = id_cmp i j ≡ Less
