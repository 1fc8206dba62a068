use Rattle.std.proofs.Common.{arith}
use Rattle.bf_world.proofs.CountLemmas.{has_room}
use Rattle.bf_world.proofs.steps.step.Goals as goal

pub apply-requires-clause-room : goal.apply-requires-clause-room
apply-requires-clause-room c = has_room c.args.core.now c.args.event _ c.requires.queues (omega arith)
