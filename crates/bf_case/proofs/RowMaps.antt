-- The small maps that are regridded are balanced.
use Rattle.std.proofs.Common.{◌≡◌, ℕ, ◌^◌, ◌<◌, false, List, ◌∷◌, ◌++◌, get_or, map, refl, sym, subst, ◌∙◌, arith, All, lit<}
use Rattle.std.specs.Prelude.{◌==◌, slice_set}
use Rattle.std.specs.List.{range_with_len}
use Rattle.std.proofs.lemmas.Bool.{eqb-true}
use Rattle.std.proofs.Math.ListN.{length-set}
use Rattle.std.proofs.lemmas.List.Elements.{All-nil, All-cons, All-map, All-append, All-set}
use Rattle.bf_id.specs.Id.{BlockId, level_of, root_id, child_of, children_of, id_eq, root_ids}
use Rattle.bf_id.proofs.Boxes.{id_eq_is_equal}
use Rattle.bf_cells.specs.Grid.{filled_with}
use Rattle.bf_case.specs.Case.{IsValid, IsFill, IsDeath}
use Rattle.bf_case.specs.Balanced.{AreBalancedLeaves}
use Rattle.bf_case.specs.Map.{Leaf, ids_of, HasCells, IsBalancedMap}
use Rattle.bf_case.specs.Model.{initial}
use Rattle.bf_case.specs.Wishes.{Wishes}
use Rattle.bf_case.specs.Refinement.{refined_within}
use Rattle.bf_case.specs.Merging.{merges_within}
use Rattle.bf_case.specs.Regrid.{regridded_ids}
use Rattle.bf_case.specs.Rows.{two_roots, blank, three_levels, spotted, first_child, later_children}
use Rattle.bf_case.proofs.ChoiceLemmas.{regridded_are_balanced}
use Rattle.bf_case.proofs.MapLemmas.{HasCells-table, ids_of-initial}
use Rattle.bf_case.proofs.ModelLemmas.{leaves_from_map, map_from_leaves, balanced-initial}

-- every root wishes to be refined
roots_finer : Wishes
roots_finer = record { finer = λ i. level_of i == 0; coarser = λ i. false }

-- one child of the second root does
child_finer : Wishes
child_finer = record { finer = λ i. id_eq i first_child; coarser = λ i. false }

two_octets : List BlockId
two_octets = regridded_ids two_roots.roots (root_ids two_roots.roots) roots_finer

-- the leaves of three levels come of the roots by two regrids
three_levels_come : ids_of three_levels ≡ regridded_ids two_roots.roots two_octets child_finer
unfolding two_octets roots_finer child_finer regridded_ids refined_within merges_within
three_levels_come = refl

pub two_roots_valid : IsValid two_roots
two_roots_valid = record {
  sized = record {
    shape = record { some_x = omega arith; some_y = omega arith; some_z = omega arith; few_x = omega arith; few_y = omega arith; few_z = omega arith };
    even = refl;
    wide = omega arith;
    narrow = omega arith;
    shallow = omega arith;
    few_cells = omega arith;
  };
  scheduled = record {
    some_ranks = omega arith;
    few_ranks = omega arith;
    few_steps = omega arith;
    some_snapshot = omega arith;
    short_snapshot = omega arith;
    short_regrid = omega arith;
    refine_fits = omega arith;
    uncrossed = omega arith;
    few_flow = omega arith;
    few_turns = omega arith;
    near = omega arith;
  };
  fills = All-nil (IsFill two_roots.roots two_roots.side);
  deaths = All-nil (IsDeath two_roots.ranks);
  rising_deaths = λ k below. absurd (omega arith);
  order = All-nil (λ rank. rank < two_roots.ranks);
}

three_levels_leaves : AreBalancedLeaves two_roots.roots two_roots.levels (ids_of three_levels)
unfolding two_octets roots_finer child_finer
three_levels_leaves =
    let roots : AreBalancedLeaves two_roots.roots two_roots.levels (root_ids two_roots.roots) =
    subst (AreBalancedLeaves two_roots.roots two_roots.levels) (ids_of-initial two_roots) (leaves_from_map two_roots (initial two_roots) (balanced-initial two_roots two_roots_valid)) in
    let octets : AreBalancedLeaves two_roots.roots two_roots.levels two_octets =
    regridded_are_balanced two_roots.roots two_roots.levels (root_ids two_roots.roots) roots_finer (omega arith)
    (λ i has wish. omega (arith, eqb-true (level_of i) 0 wish)) roots in
    subst (AreBalancedLeaves two_roots.roots two_roots.levels) (sym three_levels_come)
    (regridded_are_balanced two_roots.roots two_roots.levels two_octets child_finer (omega arith)
    (λ i has wish. subst (λ j. level_of j < two_roots.levels) (sym ((id_eq_is_equal i first_child).0 wish)) (omega arith)) octets)

blank_cells : (ids : List BlockId) → All (HasCells 2) (map blank ids)
blank_cells ids =
    All-map (HasCells 2) blank ids (λ k d _. HasCells-table 2 (get_or ids k d) (λ _ _ _. 0) refl (omega arith) (omega arith) (λ _ _ _. lit< tt))

-- all cells 0
pub three_levels_balanced : IsBalancedMap two_roots three_levels
three_levels_balanced = map_from_leaves two_roots three_levels three_levels_leaves (blank_cells (ids_of three_levels))

-- one cell 1
spotted_cells : (i : BlockId) (place : ℕ) → HasCells 2 (i, record (filled_with 2 0) { values = slice_set (filled_with 2 0).values place 1 })
spotted_cells i place =
    let plain = HasCells-table 2 i (λ _ _ _. 0) refl (omega arith) (omega arith) (λ _ _ _. lit< tt) in
    let values = (filled_with 2 0).values in
    record {
      valid = record {
        even = plain.valid.even;
        low = plain.valid.low;
        high = plain.valid.high;
        full = length-set values place 1 ∙ plain.valid.full;
        small = All-set (λ v. v < 2 ^ 32) values place 1 (lit< tt) plain.valid.small;
      };
      fits = plain.fits;
    }

pub spotted_balanced : (place : ℕ) → IsBalancedMap two_roots (spotted place)
spotted_balanced place =
    let same : ids_of three_levels ≡ ids_of (spotted place) = refl in
    let before : List BlockId = children_of (root_id 0) ++ map (child_of first_child) (range_with_len 0 7) in
    let spot : Leaf = (child_of first_child 7, record (filled_with 2 0) { values = slice_set (filled_with 2 0).values place 1 }) in
    map_from_leaves two_roots (spotted place) (subst (AreBalancedLeaves two_roots.roots two_roots.levels) same three_levels_leaves)
    (All-append (HasCells 2) (map blank before) (spot ∷ map blank later_children) (blank_cells before)
    (All-cons (HasCells 2) spot (map blank later_children) (spotted_cells (child_of first_child 7) place) (blank_cells later_children)))
