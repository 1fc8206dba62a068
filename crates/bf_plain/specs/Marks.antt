-- Marks of leaves: one for each, in their order.
use Rattle.std.specs.Prelude.{ℕ, ◌+◌, ◌==◌, ◌&&◌, not, Bool, List, All, AllPairs}
use Rattle.std.specs.List.{list_any}
use Rattle.bf_id.specs.declared.shape.Shape.{Shape}
use Rattle.bf_id.specs.Shape.{IsShape}
use Rattle.bf_id.specs.Id.{BlockId, IsId, InShape, level_of, touches}
use Rattle.bf_id.specs.Tiling.{Tiles}
use Rattle.bf_id.specs.Walk.{IsBefore}
use Rattle.bf_plain.specs.Atlas.{Chart, Charts, id_at}

-- leaves that tile a domain, in rising order, with their chart
pub record IsSurveyed (shape : Shape) (ids : List BlockId) (chart : Chart) : Type 0 where
  pub domain : IsShape shape
  pub tiling : Tiles shape ids
  pub named : All IsId ids
  pub in_shape : All (InShape shape) ids
  pub rising : AllPairs IsBefore ids
  pub charts : Charts shape ids chart

-- whether the second leaf touches the first, which is so many levels finer
abbrev pub reaches : Shape → ℕ → BlockId → BlockId → Bool
reaches shape finer j i = touches shape j i && level_of j == level_of i + finer

-- whether a leaf of the list that passes a test touches this one, and is so many levels finer
abbrev pub is_reached : Shape → ℕ → (BlockId → Bool) → List BlockId → BlockId → Bool
is_reached shape finer source ids i = list_any (λ j. source j && reaches shape finer j i) ids

-- whether two numbers are those of two leaves, of which the first is so many levels finer
abbrev pub is_finer : List BlockId → ℕ → ℕ → ℕ → Bool
is_finer ids finer j i = not (i == j) && level_of (id_at ids j) == level_of (id_at ids i) + finer
