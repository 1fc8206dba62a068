use Rattle.std.proofs.Common.{◌≡◌, ◌-◌, ◌≤◌, length}
use Rattle.bf_edge.proofs.Taking.{Took}
use Rattle.bf_edge.proofs.source.read_up_to.Given as goal

abbrev pub invariant-loop-chunk : goal.invariant-loop-chunk
invariant-loop-chunk g l = record {
  within : length l.bytes.items ≤ l.most;
  took : Took (g.R.Source.left l.initial.source) (g.R.Source.left l.source) l.bytes.items;
  steady : g.R.Source.faults l.source ≡ g.R.Source.faults l.initial.source;
}

abbrev pub decreases-loop-chunk : goal.decreases-loop-chunk
decreases-loop-chunk g l = l.most - length l.bytes.items
