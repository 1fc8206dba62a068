use Rattle.std.proofs.Common.{◌∙◌}
use Rattle.bf_forest.specs.Setup.{case_of}
use Rattle.bf_forest.specs.Opening.{unfilled}
use Rattle.bf_block.proofs.BlockLemmas.{pushed_more}
use Rattle.bf_forest.proofs.opening.all_unfilled.Goals as goal

pub loop-rank-preserved : goal.loop-rank-preserved
loop-rank-preserved c =
    c.in_ok-push.ensures.items
    ∙ pushed_more (unfilled (case_of c.args.setup.now)) c.loop-rank.rank c.loop-rank.locals.items _ c.loop-rank.invariant c.in_ok-unfilled.ensures
