-- The cells of a grid after each change, and that it stays a grid.
use Rattle.std.proofs.Common.{ℕ, ◌^◌, ◌<◌, ◌∙◌}
use Rattle.std.proofs.lemmas.List.{length-set}
use Rattle.std.proofs.lemmas.List.Elements.{All-set}
use Rattle.bf_cells.specs.Grid.{Grid, IsGrid, place, with_cell}

-- a grid after a cell was replaced by a small value
pub IsGrid-with_cell : (g : Grid) (x y z v : ℕ) → IsGrid g → v < 2 ^ 32 → IsGrid (with_cell g x y z v)
IsGrid-with_cell g x y z v valid small = record {
  even = valid.even;
  low = valid.low;
  high = valid.high;
  full = length-set g.values (place g.side x y z) v ∙ valid.full;
  small = All-set (λ n. n < 2 ^ 32) g.values (place g.side x y z) v small valid.small;
}
