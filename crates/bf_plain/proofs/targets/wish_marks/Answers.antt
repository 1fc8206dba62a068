use Rattle.std.proofs.Common.{◌∙◌, arith}
use Rattle.bf_plain.proofs.MergingLemmas.{all_taken}
use Rattle.bf_plain.proofs.TargetLemmas.{leaf_finer, leaf_coarser, finer_by_leaves, coarser_by_leaves}
use Rattle.bf_plain.proofs.targets.wish_marks.Goals as goal

pub returns-clause-finer : goal.returns-clause-finer
returns-clause-finer c =
    c.loop-id.invariant.finer ∙ all_taken (leaf_finer c.args.case.now) c.args.leaves.now c.loop-id.id-index (omega arith)
    ∙ finer_by_leaves c.args.case.now c.args.leaves.now c.requires

pub returns-clause-coarser : goal.returns-clause-coarser
returns-clause-coarser c =
    c.loop-id.invariant.coarser ∙ all_taken (leaf_coarser c.args.case.now) c.args.leaves.now c.loop-id.id-index (omega arith)
    ∙ coarser_by_leaves c.args.case.now c.args.leaves.now c.requires
