use Rattle.std.proofs.Common.{◌∙◌}
use Rattle.std.proofs.lemmas.Result.{IfOk-weaker}
use Rattle.bf_case.specs.Map.{ids_of}
use Rattle.bf_case.specs.Refinement.{is_among, refined_ids}
use Rattle.bf_case.specs.Wishes.{wishes_of}
use Rattle.bf_plain.specs.Octets.{leaf_merges}
use Rattle.bf_plain.proofs.targets.targets_of.Goals as goal

pub returns : goal.returns
returns c =
    let shape = c.args.case.now.roots in
    let ids = ids_of c.args.leaves.now in
    let w = wishes_of c.args.case.now c.args.leaves.now in
    let refined = c.in_ok-refined.ensures.marks w c.in_ok-finer.ensures.finer in
    let merging = c.in_ok-merging.ensures.marks w (c.deref.ensures.value ∙ c.in_ok-finer.ensures.coarser) (c.deref-2.ensures.value ∙ refined) in
    IfOk-weaker c.told.result _ _
    (λ targets is. is ids (is_among (refined_ids shape ids w)) (leaf_merges shape ids w (refined_ids shape ids w)) (c.deref-3.ensures.value ∙ refined) (c.deref-4.ensures.value ∙ merging))
    c.told.ensures
