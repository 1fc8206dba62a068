use Rattle.std.proofs.Common.{◌≡◌, ◌≤◌, [], map, replicate}
use Rattle.bf_world.proofs.queues.empty_queues.Given as goal

abbrev pub invariant-loop : goal.invariant-loop
invariant-loop g l = (map (λ queue. queue.items) l.queues.items ≡ replicate l.counter []) × (l.queues.len ≡ l.counter) × (l.count ≤ l.queues.cap)
