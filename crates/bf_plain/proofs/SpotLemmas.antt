-- A map stays balanced where a cell of a leaf takes another value.
use Rattle.std.proofs.Common.{◌≡◌, ℕ, ◌^◌, ◌<◌, List, length, get_or, set, refl, sym, subst}
use Rattle.std.proofs.Math.Seq.{map-set_same}
use Rattle.std.proofs.lemmas.List.Elements.{All-set, All-contains, Contains-get_or}
use Rattle.bf_id.specs.Id.{BlockId}
use Rattle.bf_cells.specs.Grid.{with_cell}
use Rattle.bf_cells.proofs.CellLemmas.{IsGrid-with_cell}
use Rattle.bf_case.specs.declared.case.Case.{Case}
use Rattle.bf_case.specs.Balanced.{AreBalancedLeaves}
use Rattle.bf_case.specs.Map.{Leaf, ids_of, HasCells, IsBalancedMap}
use Rattle.bf_case.proofs.ModelLemmas.{leaves_from_map, map_from_leaves}

-- a leaf that was read has cells of the case's side
pub has_cells : (c : Case) (leaves : List Leaf) (k : ℕ) (d : Leaf) → IsBalancedMap c leaves → k < length leaves → HasCells c.side (get_or leaves k d)
has_cells c leaves k d is below = All-contains (HasCells c.side) leaves (get_or leaves k d) is.map.cells (Contains-get_or leaves k d below)

pub balanced-with_cell : (c : Case) (leaves : List Leaf) (k : ℕ) (d : Leaf) (x y z value : ℕ) → IsBalancedMap c leaves → k < length leaves → value < 2 ^ 32
    → IsBalancedMap c (set leaves k ((get_or leaves k d).0, with_cell (get_or leaves k d).1 x y z value))
balanced-with_cell c leaves k d x y z value is below small =
    let was = has_cells c leaves k d is below in
    let name : Leaf → BlockId = λ leaf. leaf.0 in
    let new : Leaf = ((get_or leaves k d).0, with_cell (get_or leaves k d).1 x y z value) in
    let has : HasCells c.side new = record { valid = IsGrid-with_cell (get_or leaves k d).1 x y z value was.valid small; fits = was.fits } in
    let same : ids_of (set leaves k new) ≡ ids_of leaves = map-set_same name leaves k new d refl in
    map_from_leaves c (set leaves k new) (subst (AreBalancedLeaves c.roots c.levels) (sym same) (leaves_from_map c leaves is))
    (All-set (HasCells c.side) leaves k new has is.map.cells)
