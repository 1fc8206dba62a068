use Rattle.std.specs.VecDeque.{deque_len}
use Rattle.bf_parts.proofs.MergeSteps.{HasPassed}
use Rattle.bf_parts.proofs.merging.pass.Given as goal

abbrev pub invariant-loop-other : goal.invariant-loop-other
invariant-loop-other g l = HasPassed g.T.Linked.kind.first l.item l.initial.all.items l.initial.others.items l.all.items l.others.items

abbrev pub decreases-loop-other : goal.decreases-loop-other
decreases-loop-other g l = deque_len l.others
