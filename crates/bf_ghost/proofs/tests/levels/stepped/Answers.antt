use Rattle.std.proofs.Common.{◌≡◌, ◌∙◌, ◌+◌, ◌<◌, All, length, arith, ap, sym, subst}
use Rattle.std.proofs.lemmas.List.Elements.{All-push}
use Rattle.bf_id.specs.Id.{InShape}
use Rattle.bf_case.specs.declared.case.Case.{Case}
use Rattle.bf_block.specs.declared.point.Point.{Point}
use Rattle.bf_block.specs.Block.{BlockValue, after_regrid, before_regrid, map_at}
use Rattle.bf_block.specs.Setup.{case_of}
use Rattle.bf_ghost.specs.Filling.{AreStripsFor}
use Rattle.bf_ghost.specs.Telling.{strips_by}
use Rattle.bf_ghost.proofs.AllLeaves.{all_inside}
use Rattle.bf_ghost.proofs.tests.levels.stepped.Goals as goal

pub told_by-requires : goal.told_by-requires
told_by-requires c = λ j d below.
    let k = case_of c.args.setup.now in
    let b = c.block-item.result in
    let inside : InShape k.roots b.id =
    subst (λ (v : BlockValue). InShape k.roots v.id) (sym c.block-item.is)
    (all_inside k (after_regrid 0) c.args.blocks.now c.requires.all c.loop-block.block-index b (omega arith)) in
    subst (λ (x : Case). InShape x.roots c.id.result) (sym (c.requires.all.cases j d below)) (subst (InShape k.roots) (sym c.id.ensures) inside)

pub step-requires-clause-strips : goal.step-requires-clause-strips
step-requires-clause-strips c =
    let k = case_of c.args.setup.now in
    let blocks = c.args.blocks.now in
    let b = c.block-item.result in
    let told = c.as_slice.result.now in
    let within : c.loop-block.block-index < length blocks = omega arith in
    let case : b.case ≡ k = ap (λ (v : BlockValue). v.case) c.block-item.is ∙ c.requires.all.cases c.loop-block.block-index b within in
    let point : b.point ≡ after_regrid 0 = ap (λ (v : BlockValue). v.point) c.block-item.is ∙ c.requires.all.points c.loop-block.block-index b within in
    let are : told ≡ strips_by blocks b.id = c.as_slice.ensures.value ∙ c.in_ok-strips.ensures ∙ ap (strips_by blocks) c.id.ensures in
    let fit = subst (AreStripsFor k.roots (map_at k (after_regrid 0)) b.id) (sym are)
    (c.strips_of_all_leaves_are_all.ensures k (after_regrid 0) blocks b.id c.requires.all) in
    let at_point = subst (λ (p : Point). AreStripsFor k.roots (map_at k p) b.id told) (sym point) fit in
    let at_case = subst (λ (x : Case). AreStripsFor x.roots (map_at x b.point) b.id told) (sym case) at_point in
    subst (λ (v : BlockValue). AreStripsFor v.case.roots (map_at v.case v.point) v.id told) (sym c.in_ok-copy.ensures) at_case

pub loop-block-preserved : goal.loop-block-preserved
loop-block-preserved c =
    let k = case_of c.args.setup.now in
    let b = c.block-item.result in
    let next = c.in-Ok.block in
    let items = sym c.in_ok-push-in-Ok.ensures.items in
    let within : c.loop-block.block-index < length c.args.blocks.now = omega arith in
    let case : next.case ≡ k =
    c.in-Ok.ensures.case ∙ ap (λ (v : BlockValue). v.case) (c.in_ok-copy.ensures ∙ c.block-item.is) ∙ c.requires.all.cases c.loop-block.block-index b within in
    let point : next.point ≡ before_regrid 1 =
    c.in-Ok.ensures.point
    ∙ ap (λ (p : Point). before_regrid (p.time + 1))
    (ap (λ (v : BlockValue). v.point) (c.in_ok-copy.ensures ∙ c.block-item.is) ∙ c.requires.all.points c.loop-block.block-index b within) in
    record {
      side = c.step.ensures.side ∙ c.loop-block.invariant.side;
      cases = subst (All (λ (v : BlockValue). v.case ≡ k)) items
          (All-push (λ (v : BlockValue). v.case ≡ k) c.loop-block.next.items next c.loop-block.invariant.cases case);
      points = subst (All (λ (v : BlockValue). v.point ≡ before_regrid 1)) items
          (All-push (λ (v : BlockValue). v.point ≡ before_regrid 1) c.loop-block.next.items next c.loop-block.invariant.points point);
    }
