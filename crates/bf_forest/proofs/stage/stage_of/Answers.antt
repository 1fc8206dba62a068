use Rattle.std.proofs.Common.{arith, sym}
use Rattle.bf_forest.specs.StageLaws.{stage_step, stage_snapshot, stage_over}
use Rattle.bf_forest.proofs.stage.stage_of.Goals as goal

pub returns-then-round-steps : goal.returns-then-round-steps
returns-then-round-steps c = sym (stage_step c.args.epoch.now c.args.round (omega arith))

pub returns-then-round-steps-2 : goal.returns-then-round-steps-2
returns-then-round-steps-2 c = sym (stage_snapshot c.args.epoch.now c.args.round (omega arith))

pub returns-else-round-steps-2 : goal.returns-else-round-steps-2
returns-else-round-steps-2 c = sym (stage_over c.args.epoch.now c.args.round (omega arith))
