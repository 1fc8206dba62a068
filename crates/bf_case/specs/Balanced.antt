-- Leaves by their ids alone.
use Rattle.std.specs.Prelude.{◌≤◌, ℕ, List, All, AllPairs}
use Rattle.bf_id.specs.declared.shape.Shape.{Shape}
use Rattle.bf_id.specs.Id.{BlockId, IsId, InShape, level_of}
use Rattle.bf_id.specs.Tiling.{Tiles, IsBalanced}
use Rattle.bf_id.specs.Walk.{IsBefore}

-- leaves that tile the domain, in rising order, none below the finest level, and of which touching ones differ by at most one level
pub record AreBalancedLeaves (shape : Shape) (levels : ℕ) (ids : List BlockId) : Type 0 where
  pub tiling : Tiles shape ids
  pub named : All IsId ids
  pub in_shape : All (InShape shape) ids
  pub rising : AllPairs IsBefore ids
  pub shallow : All (λ i. level_of i ≤ levels) ids
  pub balanced : IsBalanced shape ids
