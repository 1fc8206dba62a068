use Rattle.std.proofs.Common.{◌≡◌, ◌∙◌, All, flat_map, map, arith, ap, refl, sym, subst}
use Rattle.std.specs.Prelude.{IsTrue}
use Rattle.std.specs.List.{range_with_len}
use Rattle.std.proofs.lemmas.List.Elements.{All-append}
use Rattle.bf_id.specs.Id.{root_id}
use Rattle.bf_case.specs.Model.{regrids}
use Rattle.bf_block.specs.Block.{BlockValue, IsModels, after_regrid}
use Rattle.bf_block.specs.Setup.{case_of, every_setup_runs}
use Rattle.bf_ghost.proofs.AllLeaves.{first_are_all, first_heirs, heirs_more}
use Rattle.bf_ghost.proofs.tests.levels.first_leaves.Goals as goal

pub loop-root-preserved : goal.loop-root-preserved
loop-root-preserved g c =
    let k = case_of c.args.setup.now in
    let before = c.loop-root.blocks.items in
    let its = c.in_ok-heirs.heirs.items in
    let items = sym c.in_ok-append.ensures.items in
    record {
      ids = ap (map (λ (b : BlockValue). b.id)) c.in_ok-append.ensures.items
          ∙ heirs_more k c.loop-root.root before its c.loop-root.invariant.ids c.in_ok-heirs.ensures.ids;
      cases = subst (All (λ (b : BlockValue). b.case ≡ k)) items
          (All-append (λ (b : BlockValue). b.case ≡ k) before its c.loop-root.invariant.cases c.in_ok-heirs.ensures.cases);
      points = subst (All (λ (b : BlockValue). b.point ≡ after_regrid 0)) items
          (All-append (λ (b : BlockValue). b.point ≡ after_regrid 0) before its c.loop-root.invariant.points c.in_ok-heirs.ensures.points);
    }

pub returns : goal.returns
returns g c =
    let k = case_of c.args.setup.now in
    let each : k.regrid ≡ 1 = grind (arith, c.regrid.ensures) in
    let does : IsTrue (regrids k 0) = rw each refl in
    let last : c.loop-root.root ≡ c.root_count-root-end.result = omega arith in
    first_are_all k c.loop-root.blocks.items (every_setup_runs c.args.setup.now) does
    (subst (All IsModels) c.as_slice.ensures.value c.all_known.ensures) c.loop-root.invariant.cases c.loop-root.invariant.points
    (c.loop-root.invariant.ids ∙ ap (λ n. flat_map (first_heirs k) (map root_id (range_with_len 0 n))) (last ∙ c.root_count-root-end.ensures.value))
