use Rattle.std.proofs.Common.{sym, subst}
use Rattle.bf_forest.specs.Ready.{CanFinish}
use Rattle.bf_forest.specs.Setup.{case_of}
use Rattle.bf_forest.specs.declared.stage.Stage.{Stage}
use Rattle.bf_forest.proofs.PointSteps.{finishing_ready}
use Rattle.bf_forest.proofs.program.ForestRankProgram.finish.Goals as goal

pub end-requires : goal.end-requires
end-requires c =
    subst (λ (stage : Stage). CanFinish (case_of c.args.setup.now) stage c.args.local.now) (sym c.stage_of.ensures)
    (finishing_ready c.args.setup.now c.args.epoch c.args.round c.args.local.now c.requires)
