-- What ranks know of a chain of three leaves after too few force rounds.
use Rattle.std.proofs.Common.{◌≡◌, ◌<◌, false, List, [], ◌∷◌, filter, refl, sym, subst, arith}
use Rattle.bf_id.specs.Id.{BlockId, child_of, id_eq, level_of, root_id, root_ids}
use Rattle.bf_id.proofs.Boxes.{id_eq_is_equal}
use Rattle.bf_case.specs.Balanced.{AreBalancedLeaves}
use Rattle.bf_case.specs.Merging.{merges_within}
use Rattle.bf_case.specs.Refinement.{refined_ids, refined_within}
use Rattle.bf_case.specs.Regrid.{regridded_ids, target_of}
use Rattle.bf_case.specs.Rows.{chain_from_level_2, low_limit, second_child, two_roots}
use Rattle.bf_case.specs.Wishes.{Wishes}
use Rattle.bf_case.specs.declared.target.Target.TheVariants.{Keep, Refine}
use Rattle.bf_case.proofs.ChoiceLemmas.{regridded_are_balanced}
use Rattle.bf_case.proofs.MapLemmas.{balanced_roots}
use Rattle.bf_case.proofs.ModelLemmas.{finer_has_room}
use Rattle.bf_case.proofs.RowMaps.{two_roots_valid}
use Rattle.bf_cells.specs.Grid.{table}
use Rattle.bf_marks.specs.Marks.{target_by}
use Rattle.bf_mark_rounds.specs.ChainRow.{chain_ids, chain_marks, chain_wishes}
use Rattle.bf_mark_rounds.specs.Neighbors.{is_other, is_own}
use Rattle.bf_mark_rounds.specs.Shares.{StopsAbove}

-- ---- the map is balanced: it comes of the roots by two regrids

only_finer : BlockId → Wishes
only_finer one = record { finer = λ i. id_eq i one; coarser = λ i. false }

one_octet : List BlockId
one_octet = regridded_ids two_roots.roots (root_ids two_roots.roots) (only_finer (root_id 1))

chain_comes : chain_ids ≡ regridded_ids two_roots.roots one_octet (only_finer second_child)
unfolding one_octet only_finer regridded_ids refined_within merges_within
chain_comes = refl

pub chain_balanced : AreBalancedLeaves two_roots.roots 3 chain_ids
unfolding one_octet only_finer
chain_balanced =
    let octet : AreBalancedLeaves two_roots.roots 3 one_octet =
    regridded_are_balanced two_roots.roots 3 (root_ids two_roots.roots) (only_finer (root_id 1)) (omega arith)
    (λ i has wish. subst (λ j. level_of j < 3) (sym ((id_eq_is_equal i (root_id 1)).0 wish)) (omega arith))
    (balanced_roots two_roots.roots 3 two_roots_valid.sized.shape) in
    subst (AreBalancedLeaves two_roots.roots 3) (sym chain_comes)
    (regridded_are_balanced two_roots.roots 3 one_octet (only_finer second_child) (omega arith)
    (λ i has wish. subst (λ j. level_of j < 3) (sym ((id_eq_is_equal i second_child).0 wish)) (omega arith)) octet)

pub chain_stops : StopsAbove chain_ids chain_wishes 3
chain_stops i has finer = finer_has_room (low_limit 3) chain_from_level_2 i finer

-- ---- what is known

pub own_late : (chain_marks 1 0).refined.own ≡ []
unfolding table refined_within
own_late = refl

pub own_all : filter (is_own level_of 0) (refined_ids two_roots.roots chain_ids chain_wishes) ≡ root_id 0 ∷ []
unfolding table refined_within
own_all = refl

pub heard_late : (chain_marks 2 1).refined.heard ≡ child_of second_child 0 ∷ []
unfolding table refined_within
heard_late = refl

pub heard_all : filter (is_other two_roots.roots chain_ids level_of 1) (refined_ids two_roots.roots chain_ids chain_wishes) ≡ root_id 0 ∷ child_of second_child 0 ∷ []
unfolding table refined_within
heard_all = refl

pub target_late : target_by (chain_marks 2 1) (root_id 0) ≡ Keep
unfolding table refined_within
target_late = refl

pub target_is : target_of two_roots.roots chain_ids chain_wishes (root_id 0) ≡ Refine
unfolding table refined_within
target_is = refl
