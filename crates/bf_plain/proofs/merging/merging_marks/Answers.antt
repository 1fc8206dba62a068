use Rattle.std.proofs.Common.{◌∙◌, arith}
use Rattle.std.proofs.lemmas.Result.{IfOk-weaker}
use Rattle.bf_case.specs.Map.{ids_of}
use Rattle.bf_case.specs.Refinement.{is_among, refined_ids}
use Rattle.bf_plain.proofs.MergingLemmas.{leaves_merge_at_last, surveyed_in_order, written}
use Rattle.bf_plain.proofs.merging.merging_marks.Goals as goal

pub free_marks-requires-clause-leaves : goal.free_marks-requires-clause-leaves
free_marks-requires-clause-leaves c = surveyed_in_order c.args.case.now.roots (ids_of c.args.leaves.now) c.args.atlas.now c.requires.surveyed

pub returns-clause-marks : goal.returns-clause-marks
returns-clause-marks c =
    let shape = c.args.case.now.roots in
    let ids = ids_of c.args.leaves.now in
    IfOk-weaker c.free_marks.result _ _
    (λ marks freed w wishes are.
    leaves_merge_at_last shape ids c.args.atlas.now c.args.case.now.levels w c.deref_mut.result.now c.hold_by_finer.new.held marks.items
    c.requires.surveyed c.requires.shallow
    (c.deref_mut.ensures.value ∙ c.in_ok-held.ensures.marks w.coarser (is_among (refined_ids shape ids w)) wishes are)
    c.in_ok-hold_by_finer.ensures.held
    (λ p is. freed p
    (c.deref.ensures.value
    ∙ written c.in_ok-held.held.items c.hold_by_finer.new.held c.in_ok-held.held.len (omega (arith, c.deref_mut.ensures.len))
    (omega (arith, c.in_ok-hold_by_finer.ensures.full, c.in_ok-held.ensures.full))
    ∙ is)))
    c.free_marks.ensures.marks
