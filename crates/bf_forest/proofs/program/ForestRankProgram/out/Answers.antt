use Rattle.std.proofs.Common.{sym, subst}
use Rattle.bf_forest.specs.Ready.{CanSend}
use Rattle.bf_forest.specs.declared.stage.Stage.{Stage}
use Rattle.bf_forest.proofs.PointSteps.{sending_ready}
use Rattle.bf_forest.proofs.program.ForestRankProgram.out.Goals as goal

pub send-requires : goal.send-requires
send-requires c =
    subst (λ (stage : Stage). CanSend stage c.args.local.now) (sym c.stage_of.ensures)
    (sending_ready c.args.setup.now c.args.epoch c.args.round c.args.to c.args.local.now c.requires)
