-- What is printed of a map.
use Rattle.std.specs.Prelude.{ℕ, ◌+◌, ◌*◌, List, [], ◌∷◌, ◌++◌, flat_map, slice_range, codes, decimal}
use Rattle.std.specs.List.{range_with_len}
use Rattle.bf_id.specs.IdText.{text_of}
use Rattle.bf_cells.specs.Grid.{Grid}
use Rattle.bf_case.specs.CaseText.{spaced}
use Rattle.bf_case.specs.Map.{Leaf}

-- numbers with one blank between, and the line feed
abbrev pub row_text : List ℕ → List ℕ
row_text [] = 10 ∷ []
row_text (v ∷ values) = decimal v ++ (spaced values ++ 10 ∷ [])

-- the cells with one line for each row along x: the rows go by rising z, and those of one z by rising y
unfoldable pub grid_text : Grid → List ℕ
grid_text g = flat_map (λ k. row_text (slice_range g.values (g.side * k) (g.side * k + g.side))) (range_with_len 0 (g.side * g.side))

-- a leaf: the line with its id, and its cells
abbrev pub leaf_text : Leaf → List ℕ
leaf_text leaf = (codes "block " ++ (text_of leaf.0 ++ 10 ∷ [])) ++ grid_text leaf.1

-- every leaf in its order, and the last line
unfoldable pub map_text : List Leaf → List ℕ
map_text leaves = flat_map leaf_text leaves ++ codes "end\n"
