use Rattle.std.specs.Prelude.{◌≡◌, ℕ, ◌+◌, ◌-◌, ◌*◌, ◌/◌, ◌%◌, ◌^◌, ◌<◌, ◌≤◌, List, [], ◌∷◌, length, slice_index, slice_set, map, max, min, fold, All, nat_le, nat_lt, ◌==◌, ◌&&◌, if◌then◌else◌}
use Rattle.std.specs.List.{range_with_len}

-- a cube of cells, x fastest, then y, then z
pub record Grid : Type 0 where
  pub side : ℕ
  pub values : List ℕ

-- the grid of a side and a list
abbrev pub grid_with : ℕ → List ℕ → Grid
grid_with side values = record { side = side; values = values }

-- where a cell stands in the list
abbrev pub place : ℕ → ℕ → ℕ → ℕ → ℕ
place side x y z = x + side * (y + side * z)

-- the value of a cell
abbrev pub cell_at : Grid → ℕ → ℕ → ℕ → ℕ
cell_at g x y z = slice_index g.values (place g.side x y z)

-- the grid with another value at a cell
abbrev pub with_cell : Grid → ℕ → ℕ → ℕ → ℕ → Grid
with_cell g x y z value = record g { values = slice_set g.values (place g.side x y z) value }

-- the side is even, from 2 to 16, and the cube is full of values of 32 bits
pub record IsGrid (g : Grid) : Type 0 where
  pub even : g.side % 2 ≡ 0
  pub low : 2 ≤ g.side
  pub high : g.side ≤ 16
  pub full : length g.values ≡ g.side * g.side * g.side
  pub small : All (λ v. v < 2 ^ 32) g.values

-- the grid whose cell at x, y, z is f x y z
unfoldable pub table : ℕ → (ℕ → ℕ → ℕ → ℕ) → Grid
table side f = record {
  side = side;
  values = map (λ k. f (k % side) (k / side % side) (k / (side * side))) (range_with_len 0 (side * side * side));
}

-- the grid with one value at the cells from `from` up to `end` of the row at y, z
unfoldable pub with_row : Grid → ℕ → ℕ → ℕ → ℕ → ℕ → Grid
with_row g from end y z value =
    table g.side (λ a b c. if nat_le from a && nat_lt a end && b == y && c == z then value else cell_at g a b c)

-- the grid whose cells are all of one value
abbrev pub filled_with : ℕ → ℕ → Grid
filled_with side value = table side (λ _ _ _. value)

-- the greatest value of a list
abbrev pub greatest_of : List ℕ → ℕ
greatest_of values = fold max 0 values

-- the least value of a list
abbrev pub least_of : List ℕ → ℕ
least_of [] = 0
least_of (v ∷ values) = fold min v values

-- the greatest value of a cell less the least
abbrev pub spread_of : Grid → ℕ
spread_of g = greatest_of g.values - least_of g.values
