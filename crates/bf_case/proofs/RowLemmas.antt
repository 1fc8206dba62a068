-- The rows, computed from the definitions.
use Rattle.std.proofs.Common.{◌≡◌, ℕ, zero, suc, [], ◌∷◌, ◌++◌, length, map, filter, Some, refl, ap, ◌∙◌}
use Rattle.std.specs.Prelude.{option_map}
use Rattle.std.specs.List.{range_with_len}
use Rattle.std.specs.Fmt.{digits}
use Rattle.bf_id.specs.Id.{root_id, child_of, children_of}
use Rattle.bf_cells.specs.Grid.{table, spread_of}
use Rattle.bf_case.specs.Map.{ids_of, cells_at}
use Rattle.bf_case.specs.Sample.{sample}
use Rattle.bf_case.specs.Stencil.{stencil}
use Rattle.bf_case.specs.Wishes.{wishes_of}
use Rattle.bf_case.specs.Refinement.{refined_within, refined_ids}
use Rattle.bf_case.specs.Merging.{merges_within}
use Rattle.bf_case.specs.Regrid.{regridded_ids, regrid}
use Rattle.bf_case.specs.Model.{initial, model}
use Rattle.bf_case.specs.MapText.{grid_text, map_text}
use Rattle.bf_case.specs.Rows.{full_block, full_block_text, one_drop, one_drop_text, brim_full, brim_full_text, two_levels, two_levels_text, eight_merge, eight_merge_text, seven_wish, seven_wish_text, forced, other_roots, odd_children, wishing, forced_ids, two_roots, three_levels, three_levels_merged, spotted, low_limit, peak_of_level_1, peak_of_level_1_ids, peak_of_level_2, peak_of_level_2_ids, first_child, forced_child, second_child, deep_child, deep_root, chain_from_level_2, chain_from_level_3}

pub full_block_row : map_text (model full_block 0) ≡ full_block_text
unfolding digits model initial table grid_text map_text
full_block_row = refl

pub one_drop_row : map_text (model one_drop 1) ≡ one_drop_text
unfolding digits model initial stencil sample table grid_text map_text
one_drop_row = refl

brim_full_step : stencil brim_full.roots brim_full.side (initial brim_full) ≡ initial brim_full
unfolding initial stencil sample table
brim_full_step = refl

-- at every time
brim_full_stays : (time : ℕ) → model brim_full time ≡ initial brim_full
unfolding model
brim_full_stays zero = refl
brim_full_stays (suc time) = ap (stencil brim_full.roots brim_full.side) (brim_full_stays time) ∙ brim_full_step

brim_full_start : map_text (initial brim_full) ≡ brim_full_text
unfolding digits initial table grid_text map_text
brim_full_start = refl

pub brim_full_row : (time : ℕ) → map_text (model brim_full time) ≡ brim_full_text
brim_full_row time = ap map_text (brim_full_stays time) ∙ brim_full_start

pub equal_spread : option_map spread_of (cells_at (model two_levels 0) (root_id 1)) ≡ Some two_levels.refine
unfolding model initial table
equal_spread = refl

pub two_levels_row : map_text (model two_levels 1) ≡ two_levels_text
unfolding digits model initial stencil sample table regrid regridded_ids refined_within merges_within grid_text map_text
two_levels_row = refl

pub equal_coarsen : option_map spread_of (cells_at (model eight_merge 1) (child_of (root_id 0) 0)) ≡ Some eight_merge.coarsen
unfolding model initial stencil sample table regrid regridded_ids refined_within merges_within
equal_coarsen = refl

pub eight_merge_row : map_text (model eight_merge 2) ≡ eight_merge_text
unfolding digits model initial stencil sample table regrid regridded_ids refined_within merges_within grid_text map_text
eight_merge_row = refl

pub seven_wish_row : map_text (model seven_wish 2) ≡ seven_wish_text
unfolding digits model initial stencil sample table regrid regridded_ids refined_within merges_within grid_text map_text
seven_wish_row = refl

pub forced_first : ids_of (model forced 1) ≡ children_of (root_id 0) ++ other_roots
unfolding model initial stencil regrid regridded_ids refined_within merges_within table
forced_first = refl

pub forced_wishes : filter (wishes_of forced (model forced 1)).finer (ids_of (model forced 1)) ≡ wishing
unfolding model initial stencil sample table regrid regridded_ids refined_within merges_within
forced_wishes = refl

pub forced_refined : refined_ids forced.roots (ids_of (model forced 1)) (wishes_of forced (model forced 1)) ≡ odd_children ++ other_roots
unfolding model initial stencil sample table regrid regridded_ids refined_within merges_within
forced_refined = refl

pub forced_row : ids_of (model forced 2) ≡ forced_ids
unfolding model initial stencil sample table regrid regridded_ids refined_within merges_within
forced_row = refl

pub forced_count : length (model forced 2) ≡ 92
unfolding model initial stencil sample table regrid regridded_ids refined_within merges_within
forced_count = refl

pub merged_row : regrid two_roots three_levels ≡ three_levels_merged
unfolding sample table regrid regridded_ids refined_within merges_within
merged_row = refl

pub spotted_row : map (λ place. regrid two_roots (spotted place)) (range_with_len 0 8) ≡ map spotted (range_with_len 0 8)
unfolding sample table regrid regridded_ids refined_within merges_within
spotted_row = refl

pub beside_wishes : filter (wishes_of (low_limit 2) peak_of_level_1).coarser (children_of (root_id 0)) ≡ children_of (root_id 0)
unfolding sample table regrid regridded_ids refined_within merges_within
beside_wishes = refl

pub beside_refined : refined_ids (low_limit 2).roots (ids_of peak_of_level_1) (wishes_of (low_limit 2) peak_of_level_1) ≡ first_child ∷ []
unfolding sample table regrid regridded_ids refined_within merges_within
beside_refined = refl

pub beside_row : ids_of (regrid (low_limit 2) peak_of_level_1) ≡ peak_of_level_1_ids
unfolding sample table regrid regridded_ids refined_within merges_within
beside_row = refl

pub forced_leaf_wishes : filter (wishes_of (low_limit 3) peak_of_level_2).coarser (children_of (root_id 0)) ≡ children_of (root_id 0)
unfolding sample table regrid regridded_ids refined_within merges_within
forced_leaf_wishes = refl

pub forced_leaf_refined : refined_ids (low_limit 3).roots (ids_of peak_of_level_2) (wishes_of (low_limit 3) peak_of_level_2) ≡ forced_child ∷ child_of first_child 0 ∷ []
unfolding sample table regrid regridded_ids refined_within merges_within
forced_leaf_refined = refl

pub forced_leaf_row : ids_of (regrid (low_limit 3) peak_of_level_2) ≡ peak_of_level_2_ids
unfolding sample table regrid regridded_ids refined_within merges_within
forced_leaf_row = refl

pub chain_from_level_2_row : refined_ids (low_limit 3).roots (ids_of chain_from_level_2) (wishes_of (low_limit 3) chain_from_level_2)
    ≡ root_id 0 ∷ first_child ∷ child_of second_child 0 ∷ []
unfolding table refined_within
chain_from_level_2_row = refl

pub chain_from_level_3_row : refined_ids deep_root.roots (ids_of chain_from_level_3) (wishes_of deep_root chain_from_level_3)
    ≡ child_of (root_id 0) 0 ∷ child_of (child_of (root_id 0) 1) 0 ∷ child_of deep_child 0 ∷ []
unfolding table refined_within
chain_from_level_3_row = refl
