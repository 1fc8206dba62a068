use Rattle.std.proofs.Common.{◌≡◌, [], map, take, replicate}
use Rattle.bf_world.proofs.queues.clear_all.Given as goal

abbrev pub invariant-loop-queue : goal.invariant-loop-queue
invariant-loop-queue g l = map (λ queue. queue.items) (take l.queue-index l.queues) ≡ replicate l.queue-index []
