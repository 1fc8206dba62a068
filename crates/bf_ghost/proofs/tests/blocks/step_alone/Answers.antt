-- A lone root shares a face with no leaf.
use Rattle.std.proofs.Common.{◌≡◌, ◌∙◌, List, [], ◌∷◌, ◌⊎◌, inl, inr, Contains, map, sym, ap, subst, lit<, lit≤}
use Rattle.std.specs.List.{range_with_len}
use Rattle.std.proofs.lemmas.List.Elements.{All-nil}
use Rattle.bf_face.specs.declared.face.Face.{Face}
use Rattle.bf_id.specs.declared.shape.Shape.{Shape}
use Rattle.bf_id.specs.Face.{SharesFace}
use Rattle.bf_id.specs.Id.{box_of, root_id, root_ids}
use Rattle.bf_id.specs.Shape.{IsShape, root_count}
use Rattle.bf_id.proofs.Tilings.{Contains-cons_cases, Contains-none}
use Rattle.bf_case.specs.declared.case.Case.{Case}
use Rattle.bf_case.specs.Map.{Leaf, ids_of}
use Rattle.bf_case.proofs.FaceLemmas.{not_itself}
use Rattle.bf_case.proofs.ListLemmas.{Contains-map}
use Rattle.bf_block.specs.Block.{after_regrid, map_at}
use Rattle.bf_block.specs.Setup.{case_of, every_setup_runs}
use Rattle.bf_ghost.specs.Filling.{AreStripsFor, IsStripFor}
use Rattle.bf_ghost.proofs.tests.blocks.step_alone.Goals as goal

told_nothing : (shape : Shape) (leaves : List Leaf) → IsShape shape → ids_of leaves ≡ root_ids shape → root_count shape ≡ 1 → AreStripsFor shape leaves (root_id 0) []
told_nothing shape leaves domain roots one = record {
  fit = All-nil (IsStripFor shape leaves (root_id 0));
  whole = λ leaf face has share. absurd (apart leaf face (Contains-cons_cases (root_id 0) [] leaf.0 (there leaf has)) share);
}
  where
    there : (leaf : Leaf) → Contains leaves leaf → Contains (root_id 0 ∷ []) leaf.0
    there leaf has =
        subst (λ n. Contains (map root_id (range_with_len 0 n)) leaf.0) one (subst (λ l. Contains l leaf.0) roots (Contains-map (λ (l : Leaf). l.0) leaves leaf has))

    apart : (leaf : Leaf) (face : Face) → (leaf.0 ≡ root_id 0) ⊎ Contains [] leaf.0 → SharesFace shape face (box_of shape (root_id 0)) (box_of shape leaf.0) → ⊥
    apart leaf face (inl same) share =
        not_itself shape face (box_of shape (root_id 0)) domain (lit< tt) (lit≤ tt) (subst (λ i. SharesFace shape face (box_of shape (root_id 0)) (box_of shape i)) same share)
    apart leaf face (inr none) share = Contains-none leaf.0 none

pub step-requires-clause-strips : goal.step-requires-clause-strips
step-requires-clause-strips c =
    let b = c.args.block in
    let k = case_of c.args.setup.now in
    let runs = every_setup_runs c.args.setup.now in
    let law = c.where_nothing_regrids_the_roots_stay.ensures in
    let roots : ids_of (map_at k (after_regrid 0)) ≡ root_ids k.roots = ap ids_of (law.regridded k 0 runs.valid c.requires.rests) ∙ law.ids k 0 runs.valid c.requires.rests in
    let nothing = told_nothing k.roots (map_at k (after_regrid 0)) runs.valid.sized.shape roots c.requires.lone in
    let at_id = subst (λ i. AreStripsFor k.roots (map_at k (after_regrid 0)) i []) (sym c.requires.id) nothing in
    let at_point = subst (λ p. AreStripsFor k.roots (map_at k p) b.id []) (sym c.requires.point) at_id in
    let at_case = subst (λ (k : Case). AreStripsFor k.roots (map_at k b.point) b.id []) (sym c.requires.case) at_point in
    subst (AreStripsFor b.case.roots (map_at b.case b.point) b.id) (sym (c.as_slice.ensures.value ∙ c.new-strips.ensures.items)) at_case
