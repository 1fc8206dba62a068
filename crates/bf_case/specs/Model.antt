-- The one-rank model: one map for each time, with no ranks and no messages.
use Rattle.std.specs.Prelude.{◌≡◌, ◌⊎◌, ℕ, zero, suc, ◌*◌, ◌/◌, ◌%◌, ◌==◌, ◌&&◌, nat_lt, nat_le, Bool, if◌then◌else◌, List, map, fold, slice_index}
use Rattle.std.specs.List.{range_with_len}
use Rattle.bf_id.specs.declared.shape.Shape.{Shape}
use Rattle.bf_id.specs.Cube.{Voxel}
use Rattle.bf_id.specs.Shape.{root_count}
use Rattle.bf_id.specs.Id.{root_id}
use Rattle.bf_cells.specs.Grid.{table}
use Rattle.bf_case.specs.declared.case.Case.{Case}
use Rattle.bf_case.specs.declared.case.Fill.{Fill}
use Rattle.bf_case.specs.Map.{Leaf}
use Rattle.bf_case.specs.Sample.{moved}
use Rattle.bf_case.specs.Stencil.{stencil}
use Rattle.bf_case.specs.Regrid.{regrid}

-- whether a number lies between two, both included
abbrev pub is_between : ℕ → ℕ → ℕ → Bool
is_between low high n = nat_le low n && nat_le n high

-- whether a fill sets this cell of level 0
abbrev pub has_cell : Fill → Voxel → Bool
has_cell f p =
    is_between (slice_index f.low 0) (slice_index f.high 0) p.x
    && is_between (slice_index f.low 1) (slice_index f.high 1) p.y
    && is_between (slice_index f.low 2) (slice_index f.high 2) p.z

-- the value of a cell of level 0 after all fills in turn: 0, or that of the last fill that sets it
abbrev pub filled_value : List Fill → Voxel → ℕ
filled_value fills p = fold (λ v (f : Fill). if has_cell f p then f.value else v) 0 fills

-- the low corner of a root, in cells of level 0
abbrev pub first_cell : Shape → ℕ → ℕ → Voxel
first_cell shape side root = record {
  x = side * (root % shape.nx);
  y = side * (root / shape.nx % shape.ny);
  z = side * (root / shape.nx / shape.ny);
}

-- a root with its cells at the beginning
abbrev pub filled_root : Case → ℕ → Leaf
filled_root c root =
    let first = first_cell c.roots c.side root in
    (root_id root, table c.side (λ x y z. filled_value c.fills (moved first x y z)))

-- the roots, filled
unfoldable pub initial : Case → List Leaf
initial c = map (filled_root c) (range_with_len 0 (root_count c.roots))

-- whether there is a regrid at this time
abbrev pub regrids : Case → ℕ → Bool
regrids c time = nat_lt 0 c.regrid && time % c.regrid == 0

-- no leaf is ever refined: no regrid comes, or level 0 is the finest
abbrev pub NeverRefines : Case → Type 0
NeverRefines c = (c.regrid ≡ 0) ⊎ (c.levels ≡ 0)

-- a map of this time after its regrid, if there is one
abbrev pub regridded : Case → ℕ → List Leaf → List Leaf
regridded c time leaves = if regrids c time then regrid c leaves else leaves

-- the map at a time
unfoldable pub model : Case → ℕ → List Leaf
model c zero = initial c
model c (suc time) = stencil c.roots c.side (regridded c time (model c time))

-- the map at a point: at a time, before or after its regrid
abbrev pub model_at : Case → ℕ → Bool → List Leaf
model_at c time after = if after then regridded c time (model c time) else model c time
