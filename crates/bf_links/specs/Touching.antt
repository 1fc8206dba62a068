-- Leaves of a balanced tiling that touch one of its leaves.
use Rattle.std.specs.Prelude.{List, All, AllPairs, Contains}
use Rattle.bf_id.specs.declared.shape.Shape.{Shape}
use Rattle.bf_id.specs.Id.{BlockId, IsId, Touch}
use Rattle.bf_id.specs.Tiling.{Tiles, IsBalanced}
use Rattle.bf_id.specs.Walk.{IsBefore}

-- some of them, in rising order
pub record AreTouching (shape : Shape) (ids : List BlockId) (i : BlockId) (near : List BlockId) : Type 0 where
  pub tiling : Tiles shape ids
  pub named : All IsId ids
  pub balanced : IsBalanced shape ids
  pub own : Contains ids i
  pub leaves : All (Contains ids) near
  pub touch : All (Touch shape i) near
  pub rising : AllPairs IsBefore near
